use Rattle.std.proofs.Common.{◌≡◌, ℕ, ◌*◌, ◌/◌, ◌≤◌, refl, sym, subst, ap, ◌∙◌, arith}
use Rattle.m4_model.specs.Field.{width}
use Rattle.m4_model.specs.Matrix.{Matrix}
use Rattle.m4_field.specs.Fields.{the_field}
use Rattle.m4_field.proofs.WidthLemmas.{width_facts}
use Rattle.m4_mzed.specs.ESeen.{e_shown}
use Rattle.m4_newton.proofs.StripLemmas.{all_left, less_left, none_left, whole_strip, some_strip}
use Rattle.m4_newton.proofs.strips.add_by_strips.Goals as goal

pub loop-left-init : goal.loop-left-init
loop-left-init g c = record {
  left = all_left c.args.c.now (e_shown c.args.a.now) (e_shown c.args.b.now) c.requires.a_field c.requires.b_field c.requires.rows c.requires.inner c.requires.cols;
  room_field = refl;
  room_rows = refl;
  room_cols = refl;
  ready = c.requires.ready;
  limits = refl;
  ticks = refl;
}

pub returns-clause-sum : goal.returns-clause-sum
returns-clause-sum g c = none_left c.args.c.now c.loop-left.c c.add_strip-2.new.c (e_shown c.args.a.now) (e_shown c.args.b.now) (e_shown c.loop-left.left) (e_shown c.loop-left.below) c.add_strip-2.ensures.sum c.loop-left.invariant.left

pub loop-left-smaller : goal.loop-left-smaller
loop-left-smaller g c =
    let facts = width_facts (the_field c.field.result) c.width.ensures.field in
    let whole : c.rows.result / c.width.result * c.width.result ≡ c.rows.result
    = let P : ℕ → Type 0 = λ w. c.rows.result / w * w ≡ c.rows.result in
    subst P (sym c.width.ensures.width) (whole_strip (width (the_field c.field.result)) c.rows.result facts.whole (omega (arith, c.rows.ensures.rows, c.requires.strips.whole_words))) in
    let some = some_strip (c.rows.result / c.width.result) c.width.result c.rows.result whole (omega (arith, c.rows.ensures.rows, c.requires.strips.some)) in
    omega (arith, some, ap (λ (M : Matrix). M.rows) c.split_rows.ensures.below, c.loop-left-test.true, c.rows-in-loop-left.ensures.rows)

pub loop-left-preserved : goal.loop-left-preserved
loop-left-preserved g c =
    let now = c.loop-left.invariant in
    let h = c.rows.result / c.width.result in
    let within : h ≤ (e_shown c.loop-left.left).cols = omega (arith, now.left.inner, c.loop-left-test.true, c.rows-in-loop-left.ensures.rows) in
    record {
      left = less_left c.args.c.now c.loop-left.c c.add_strip.new.c (e_shown c.args.a.now) (e_shown c.args.b.now) (e_shown c.loop-left.left) (e_shown c.loop-left.below)
          (e_shown c.split_cols.result.0) (e_shown c.split_cols.result.1) (e_shown c.split_rows.result.0) (e_shown c.split_rows.result.1) h c.rows-left.ensures.matrix within
          c.split_cols.ensures.left c.split_cols.ensures.right c.split_rows.ensures.above c.split_rows.ensures.below c.add_strip.ensures.sum now.left;
      room_field = c.add_strip.ensures.same_field ∙ now.room_field;
      room_rows = c.add_strip.ensures.same_rows ∙ now.room_rows;
      room_cols = c.add_strip.ensures.same_cols ∙ now.room_cols;
      ready = c.add_strip.ensures.still_ready;
      limits = c.add_strip.ensures.reach ∙ now.limits;
      ticks = omega (arith, now.ticks, c.add_strip.ensures.ticks, ap (λ (M : Matrix). M.rows) c.split_rows.ensures.above, ap (λ (M : Matrix). M.rows) c.split_rows.ensures.below, c.loop-left-test.true, c.rows-in-loop-left.ensures.rows);
    }
