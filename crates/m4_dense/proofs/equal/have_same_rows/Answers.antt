use Rattle.std.proofs.Common.{refl, arith}
use Rattle.m4_mzd.specs.Seen.{shown}
use Rattle.m4_dense.proofs.EqualLemmas.{same_from_entries}
use Rattle.m4_dense.proofs.equal.have_same_rows.Goals as goal

pub returns : goal.returns
returns c = (
  λ yes. same_from_entries (shown c.args.a.now) (shown c.args.b.now) c.rows-r-end.ensures.matrix c.cols-cols.ensures.matrix refl c.requires.same_rows c.requires.same_cols
      (λ i j below within. c.loop-r.invariant.same i j (omega (arith, below, c.loop-r.invariant.all, c.loop-r-test.false)) within),
  λ same. refl,
)
