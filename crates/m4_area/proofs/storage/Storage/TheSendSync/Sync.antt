use denote.Param.Send.{IsSync}
use Rattle.m4_area.proofs.Crosses.{storage-sync}
use Rattle.m4_area.specs.contracts.storage.Storage as C

pub sync : IsSync C.the_row
sync = storage-sync
