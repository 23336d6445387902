use denote.Param.Send.{IsSync}
use Rattle.m4_area.proofs.Crosses.{area-sync}
use Rattle.m4_area.specs.contracts.area.Area as C

pub sync : IsSync C.the_row
sync = area-sync
