use denote.Param.Send.{IsSend}
use Rattle.m4_area.proofs.Crosses.{area-send}
use Rattle.m4_area.specs.contracts.area.Area as C

pub send : IsSend C.the_row
send = area-send
