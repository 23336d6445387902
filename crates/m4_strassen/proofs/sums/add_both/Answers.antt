use Rattle.std.proofs.Common.{◌≡◌, length, refl, ap, arith, bit_xor, ◌∙◌}
use Rattle.m4_model.specs.Matrix.{row, at, row_sum, added}
use Rattle.m4_model.proofs.MatrixLemmas.{length-table}
use Rattle.m4_model.proofs.ShapeLemmas.{HasShape-own, HasShape-added}
use Rattle.m4_mzd.specs.Window.{content}
use Rattle.m4_mzd.specs.Seen.{shown}
use Rattle.m4_mzd.proofs.PairLemmas.{copied_all}
use Rattle.m4_mzd.proofs.PlaceLemmas.{row_step}
use Rattle.m4_shape.proofs.PlacedLemmas.{row_of_sum}
use Rattle.m4_strassen.proofs.sums.add_both.Goals as goal

pub loop-r-init : goal.loop-r-init
loop-r-init c = record { so_far = refl; all = c.rows-r-end.ensures.rows }

pub add_both-requires : goal.add_both-requires
add_both-requires c = rw c.loop-r.invariant.so_far (record {
  in_rows = omega (arith, c.rows-r-end.ensures.rows, c.loop-r-test.true);
  in_a = omega (arith, c.rows-r-end.ensures.rows, c.requires.rows, c.loop-r-test.true);
  in_b = omega (arith, c.rows-r-end.ensures.rows, c.requires.other_rows, c.loop-r-test.true);
  same_cols = c.requires.cols;
  other_cols = c.requires.other_cols;
})

pub loop-r-preserved : goal.loop-r-preserved
loop-r-preserved c =
    let A = shown c.args.a.now in
    let B = shown c.args.b.now in
    let C = content c.args.dst.now in
    let S = added (added C A) B in
    let r = c.loop-r.r in
    let sum = HasShape-added (HasShape-own C c.rows-r-end.ensures.shape.matrix) (record { is_matrix = c.rows-rows.ensures.matrix; over = refl; rows = c.requires.rows; cols = c.requires.cols }) in
    let many : length S.entries ≡ c.args.dst.now.rows = length-table C.rows C.cols (λ i j. bit_xor (at (added C A) i j) (at B i j)) in
    record {
      so_far = row_step c.args.dst.now c.loop-r.dst c.add_both.new.self S.entries r (λ xs. row_sum (row_sum xs (row A r)) (row B r))
          (omega (arith, many, c.rows-r-end.ensures.rows, c.loop-r-test.true))
          (omega (arith, c.rows-r-end.ensures.shape.matrix.height, c.rows-r-end.ensures.rows, c.loop-r-test.true))
          c.loop-r.invariant.so_far c.add_both.ensures
          (ap (λ xs. row_sum xs (row B r)) (row_of_sum C A r c.rows-r-end.ensures.shape.matrix c.rows-rows.ensures.matrix c.requires.rows c.requires.cols
          (omega (arith, c.rows-r-end.ensures.rows, c.loop-r-test.true)))
          ∙ row_of_sum (added C A) B r sum.is_matrix c.rows-rows_of_b.ensures.matrix c.requires.other_rows c.requires.other_cols
          (omega (arith, c.rows-r-end.ensures.rows, c.loop-r-test.true)));
      all = c.rows-r-end.ensures.rows;
    }

pub returns : goal.returns
returns c =
    let A = shown c.args.a.now in
    let B = shown c.args.b.now in
    let C = content c.args.dst.now in
    let S = added (added C A) B in
    let many : length S.entries ≡ c.args.dst.now.rows = length-table C.rows C.cols (λ i j. bit_xor (at (added C A) i j) (at B i j)) in
    c.loop-r.invariant.so_far
    ∙ copied_all c.args.dst.now S.entries c.loop-r.r
    (omega (arith, many, c.rows-r-end.ensures.rows, c.loop-r.auto.r-end, c.loop-r-test.false))
    (omega (arith, c.rows-r-end.ensures.shape.matrix.height, c.rows-r-end.ensures.rows, c.loop-r.auto.r-end, c.loop-r-test.false))
