use Rattle.std.proofs.Common.{rules, arith}
use Rattle.std.proofs.lemmas.Nat.{one_shl}
use Rattle.m4_etext.proofs.bits.is_within_row.Goals as goal

pub returns-else-count-left : goal.returns-else-count-left
returns-else-count-left c =
    let few = c.requires in
    let past = c.if-count-left.false in
    let one = one_shl c.args.left 64 (omega (arith, few, past)) in
    rw one (search rules)
