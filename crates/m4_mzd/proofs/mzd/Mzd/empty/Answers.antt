use Rattle.std.proofs.Common.{arith, ◌∙◌}
use Rattle.m4_mzd.proofs.HeldLemmas.{padded_zeros, held_zeros}
use Rattle.m4_mzd.proofs.mzd.Mzd.empty.Goals as goal

pub of-requires-clause-padded : goal.of-requires-clause-padded
of-requires-clause-padded c = padded_zeros c.none.result 0 0 0 c.none.ensures.words

pub returns : goal.returns
returns c = c.of.ensures ∙ held_zeros c.none.result 0 0 0 c.none.ensures.rows c.none.ensures.words (omega arith)
