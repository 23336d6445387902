use Rattle.std.proofs.Common.{◌+◌, ◌/◌, ◌^◌, bit_and, arith, ap, sym, ◌∙◌}
use Rattle.std.proofs.lemmas.Nat.Bits.{shr_and_one}
use Rattle.m4_mzd.specs.Seen.{shown}
use Rattle.m4_mzd.proofs.SeenLemmas.{IsMatrix_shown}
use Rattle.m4_karatsuba.proofs.ReductionLemmas.{one_term, no_term_of}
use Rattle.m4_karatsuba.proofs.reduce.add_term.Goals as goal

pub returns-then-poly-t-eq1 : goal.returns-then-poly-t-eq1
returns-then-poly-t-eq1 c =
    one_term (c.args.first + c.args.field.degree) c.args.first c.args.t c.args.shape c.args.c.now c.add_rows_from.new.dst (shown c.args.slice.now) c.args.field.poly
    c.requires.slices (omega (arith, c.requires.term)) (IsMatrix_shown c.args.slice.now) c.requires.rows
    (sym (shr_and_one c.args.field.poly c.args.t) ∙ ap (λ p. bit_and (p / 2 ^ c.args.t) 1) (sym c.poly.ensures.poly) ∙ c.if-poly-t-eq1.true) c.add_rows_from.ensures

pub returns-else-poly-t-eq1 : goal.returns-else-poly-t-eq1
returns-else-poly-t-eq1 c =
    no_term_of (c.args.first + c.args.field.degree) c.args.first c.args.t c.args.shape c.args.c.now (shown c.args.slice.now) c.args.field.poly
    (λ one. c.if-poly-t-eq1.false (ap (λ p. bit_and (p / 2 ^ c.args.t) 1) c.poly.ensures.poly ∙ one))
