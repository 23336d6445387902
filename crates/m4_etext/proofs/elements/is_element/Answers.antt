use Rattle.std.proofs.Common.{rules, arith}
use Rattle.std.proofs.lemmas.Nat.{one_shl}
use Rattle.m4_etext.proofs.elements.is_element.Goals as goal

pub returns : goal.returns
returns c =
    let high = c.e-degree.ensures.field.degree_high in
    let e = c.e.ensures.degree in
    let one = one_shl c.e.result 32 (omega (arith, high, e)) in
    rw (one, e) (search rules)
