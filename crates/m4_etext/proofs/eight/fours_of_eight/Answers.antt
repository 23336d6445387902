use Rattle.m4_etext.proofs.FourLemmas.{eight_read}
use Rattle.m4_etext.proofs.eight.fours_of_eight.Goals as goal

pub returns-then-eight_digits-eight-clause-spelled : goal.returns-then-eight_digits-eight-clause-spelled
returns-then-eight_digits-eight-clause-spelled c = λ k below.
    eight_read c.args.digits.now c.args.start c.from_le_bytes-eight.result c.eight_digits.result c.closed_up-fours.result (λ j. (c.type_inv.digits j).fits)
    c.from_le_bytes-eight.ensures c.if-eight_digits-eight.true c.eight_digits.ensures k below
