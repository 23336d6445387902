use Rattle.std.proofs.Common.{refl, sym, ◌∙◌, ap, arith, slice_index}
use Rattle.m4_mzed.specs.EWindow.{EWindow, content}
use Rattle.m4_trsm.proofs.Windows.{stays_more}
use Rattle.m4_solve.proofs.ScaledEquations.{scaled_none, scaled_more}
use Rattle.m4_solve.proofs.ones.make_ones_in.Goals as goal

pub loop-s-init : goal.loop-s-init
loop-s-init c = (refl, refl, scaled_none c.args.pivots.now (content c.args.a.now) (content c.args.y.now))

pub make_one-requires-clause-some : goal.make_one-requires-clause-some
make_one-requires-clause-some c =
    let q = c.args.pivots.now in
    let s = c.loop-s.s in
    λ none. c.requires.some s c.loop-s-test.true (sym (c.loop-s.invariant.2.later s (slice_index q s) (omega arith)) ∙ none)

pub loop-s-preserved : goal.loop-s-preserved
loop-s-preserved c =
    let a = c.args.a.now in
    let y = c.args.y.now in
    let a1 = c.make_one.new.a in
    let y1 = c.make_one.new.y in
    let kept = c.loop-s.invariant.0 in
    let right_kept = c.loop-s.invariant.1 in (
      stays_more a c.loop-s.a a1 (content a1) kept c.make_one.ensures.kept,
      stays_more y c.loop-s.y y1 (content y1) right_kept c.make_one.ensures.right_kept,
      scaled_more c.args.pivots.now (content a) (content y) (content c.loop-s.a) (content c.loop-s.y) (content a1) (content y1) c.loop-s.s
          (ap (λ (V : EWindow). V.field) kept) (ap (λ (V : EWindow). V.cols) kept) (ap (λ (V : EWindow). V.cols) right_kept)
          c.loop-s.invariant.2 c.make_one.ensures.scaled c.make_one.ensures.others c.make_one.ensures.right_others,
    )
