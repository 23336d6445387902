use Rattle.std.proofs.Common.{◌≡◌, length, refl, sym, arith, bit_xor, ◌∙◌}
use Rattle.m4_model.specs.Matrix.{row, at, row_sum, added}
use Rattle.m4_model.proofs.MatrixLemmas.{length-table}
use Rattle.m4_mzd.specs.Seen.{shown}
use Rattle.m4_mzd.proofs.PairLemmas.{copied_all}
use Rattle.m4_mzd.proofs.PlaceLemmas.{row_step}
use Rattle.m4_shape.proofs.PlacedLemmas.{row_of_sum}
use Rattle.m4_strassen.proofs.sums.set_sum.Goals as goal

pub loop-r-init : goal.loop-r-init
loop-r-init c = record { so_far = refl; all = c.rows-r-end.ensures.rows }

pub set_sum-requires : goal.set_sum-requires
set_sum-requires c = rw c.loop-r.invariant.so_far (record {
  in_rows = omega (arith, c.rows-r-end.ensures.rows, c.loop-r-test.true);
  in_a = omega (arith, c.rows-r-end.ensures.rows, c.requires.rows, c.loop-r-test.true);
  in_b = omega (arith, c.rows-r-end.ensures.rows, c.requires.other_rows, c.loop-r-test.true);
  same_cols = c.requires.cols;
  other_cols = c.requires.other_cols;
})

pub loop-r-preserved : goal.loop-r-preserved
loop-r-preserved c =
    let A = shown c.args.a.now in
    let B = shown c.args.b.now in
    let S = added A B in
    let r = c.loop-r.r in
    let many : length S.entries ≡ c.args.dst.now.rows = length-table A.rows A.cols (λ i j. bit_xor (at A i j) (at B i j)) ∙ c.requires.rows in
    record {
      so_far = row_step c.args.dst.now c.loop-r.dst c.set_sum.new.self S.entries r (λ _. row_sum (row A r) (row B r))
          (omega (arith, many, c.rows-r-end.ensures.rows, c.loop-r-test.true))
          (omega (arith, c.rows-r-end.ensures.shape.matrix.height, c.rows-r-end.ensures.rows, c.loop-r-test.true))
          c.loop-r.invariant.so_far c.set_sum.ensures
          (row_of_sum A B r c.rows-rows.ensures.matrix c.rows-rows_of_b.ensures.matrix (c.requires.other_rows ∙ sym c.requires.rows) (c.requires.other_cols ∙ sym c.requires.cols)
          (omega (arith, c.rows-r-end.ensures.rows, c.requires.rows, c.loop-r-test.true)));
      all = c.rows-r-end.ensures.rows;
    }

pub returns : goal.returns
returns c =
    let A = shown c.args.a.now in
    let B = shown c.args.b.now in
    let S = added A B in
    let many : length S.entries ≡ c.args.dst.now.rows = length-table A.rows A.cols (λ i j. bit_xor (at A i j) (at B i j)) ∙ c.requires.rows in
    c.loop-r.invariant.so_far
    ∙ copied_all c.args.dst.now S.entries c.loop-r.r
    (omega (arith, many, c.rows-r-end.ensures.rows, c.loop-r.auto.r-end, c.loop-r-test.false))
    (omega (arith, c.rows-r-end.ensures.shape.matrix.height, c.rows-r-end.ensures.rows, c.loop-r.auto.r-end, c.loop-r-test.false))
