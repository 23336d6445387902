use Rattle.std.proofs.Common.{◌∙◌, ap, sym, subst, ℕ, ◌+◌, arith, slice_index}
use Rattle.m4_model.specs.Shapes.{transposed}
use Rattle.m4_model.proofs.ShapeLemmas.{HasShape-own, at-transposed}
use Rattle.m4_mzed.specs.EWindow.{EWindow, content}
use Rattle.m4_mzed.specs.ESeen.{e_shown}
use Rattle.m4_trsm.proofs.Windows.{stays_more}
use Rattle.m4_solve.specs.Kernel.{AreFilledTo}
use Rattle.m4_solve.proofs.Gathers.{run_within}
use Rattle.m4_solve.proofs.KernelRows.{filled_start, filled_run}
use Rattle.m4_solve.proofs.basis.fill_rows.Goals as goal

pub loop-s-init : goal.loop-s-init
loop-s-init c =
    let rows = ap (λ (V : EWindow). V.rows) c.put_ones.ensures.kept in
    let cols = ap (λ (V : EWindow). V.cols) c.put_ones.ensures.kept in
    record {
      kept = c.put_ones.ensures.kept;
      within = omega arith;
      filled = filled_start (transposed (e_shown c.args.turned.now)) (content c.put_ones.new.k) c.args.pivots.now c.args.free.now
          (rows ∙ c.requires.rows) (cols ∙ c.requires.cols) c.put_ones.ensures.ones
          (λ t j inside within other. c.put_ones.ensures.zeros t j inside (omega (arith, within, cols)) other);
    }

pub copy_run-requires-clause-in_cols : goal.copy_run-requires-clause-in_cols
copy_run-requires-clause-in_cols c =
    let T = e_shown c.args.turned.now in
    let fits = run_within c.args.pivots.now c.loop-s.s c.run_from-count.result T.rows c.run_from-count.ensures.some c.run_from-count.ensures.within
    c.run_from-count.ensures.run c.requires.in_cols in
    let cols = ap (λ (V : EWindow). V.cols) c.loop-s.invariant.kept in
    let same = c.requires.cols in
    omega (arith, fits, cols, same)

pub loop-s-preserved : goal.loop-s-preserved
loop-s-preserved c =
    let T = e_shown c.args.turned.now in
    let own = HasShape-own T c.rows-turned.ensures.matrix in
    let N = c.copy_run.new.k in
    let s = c.loop-s.s in
    let count = c.run_from-count.result in
    let few = c.requires.in_rows in
    let within = c.run_from-count.ensures.within in
    let kept = c.copy_run.ensures.kept in
    record {
      kept = stays_more c.args.k.now c.loop-s.k N (content N) c.loop-s.invariant.kept kept;
      within = within;
      filled = filled_run (transposed T) (content c.loop-s.k) (content N) c.args.pivots.now c.args.free.now s count c.requires.rising within
          c.run_from-count.ensures.run c.requires.free.apart
          (ap (λ (V : EWindow). V.rows) kept) (ap (λ (V : EWindow). V.cols) kept)
          (λ t u inside below.
          c.copy_run.ensures.copied t u inside below
          ∙ sym (at-transposed own (s + u) (slice_index c.args.free.now t) (omega (arith, below, within, few)) (c.requires.free.below t inside)))
          c.copy_run.ensures.others c.loop-s.invariant.filled;
    }

pub returns-clause-filled : goal.returns-clause-filled
returns-clause-filled c =
    let within = c.loop-s.invariant.within in
    let done = c.loop-s-test.false in
    subst (λ (s : ℕ). AreFilledTo (transposed (e_shown c.args.turned.now)) c.args.pivots.now c.args.free.now s (content c.loop-s.k)) (omega (arith, within, done)) c.loop-s.invariant.filled
