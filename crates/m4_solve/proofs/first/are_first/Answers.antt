use Rattle.std.proofs.Common.{inl, inr}
use Rattle.m4_solve.proofs.Risings.{first_missing, too_few}
use Rattle.m4_solve.proofs.first.are_first.Goals as goal

pub returns : goal.returns
returns c passed s below = elim (first_missing c.args.n c.args.rising.now c.requires.rising) [
  | inl all ↦ all.1 s below
  | inr missing ↦
      absurd (too_few c.args.n c.args.rising.now c.requires.rising (c.are_below.ensures passed) missing.0 missing.1 missing.2 c.requires.long)
]
