use denote.Param.Send.{IsSend}
use Rattle.m4_area.proofs.Crosses.{storage-send}
use Rattle.m4_area.specs.contracts.storage.Storage as C

pub send : IsSend C.the_row
send = storage-send
