use Rattle.std.proofs.Common.{rules}
use Rattle.std.proofs.lemmas.Slice.{overwrites}
use Rattle.m4_etext.proofs.Putting.{puts_behind}
use Rattle.m4_etext.proofs.pending.Pending.put.Goals as goal

pub returns : goal.returns
returns g c = puts_behind c.in_ok-make_room.ensures.moved (search (rules, overwrites))
