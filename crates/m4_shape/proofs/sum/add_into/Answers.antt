use Rattle.std.proofs.Common.{◌≡◌, length, refl, arith, bit_xor, ◌∙◌}
use Rattle.m4_model.specs.Matrix.{row, at, added}
use Rattle.m4_model.proofs.MatrixLemmas.{length-table}
use Rattle.m4_mzd.specs.Window.{content}
use Rattle.m4_mzd.specs.Seen.{shown}
use Rattle.m4_mzd.specs.Rows.{sum_from}
use Rattle.m4_mzd.proofs.PairLemmas.{copied_all}
use Rattle.m4_mzd.proofs.PlaceLemmas.{row_step}
use Rattle.m4_shape.proofs.PlacedLemmas.{row_of_sum}
use Rattle.m4_shape.proofs.sum.add_into.Goals as goal

pub loop-r-init : goal.loop-r-init
loop-r-init c = record { so_far = refl; all = c.rows-r-end.ensures.rows }

pub add_tail-requires : goal.add_tail-requires
add_tail-requires c = rw c.loop-r.invariant.so_far (record {
  in_rows = omega (arith, c.rows-r-end.ensures.rows, c.loop-r-test.true);
  in_from = omega (arith, c.rows-r-end.ensures.rows, c.requires.same_rows, c.loop-r-test.true);
  same_cols = c.requires.same_cols;
  in_cols = omega arith;
})

pub loop-r-preserved : goal.loop-r-preserved
loop-r-preserved c =
    let A = content c.args.dst.now in
    let B = shown c.args.src.now in
    let r = c.loop-r.r in
    let many : length (added A B).entries ≡ A.rows = length-table A.rows A.cols (λ i j. bit_xor (at A i j) (at B i j)) in
    record {
      so_far = row_step c.args.dst.now c.loop-r.dst c.add_tail.new.self (added A B).entries r (λ xs. sum_from 0 xs (row B r))
          (omega (arith, many, c.rows-r-end.ensures.rows, c.loop-r-test.true))
          (omega (arith, c.rows-r-end.ensures.shape.matrix.height, c.rows-r-end.ensures.rows, c.loop-r-test.true))
          c.loop-r.invariant.so_far c.add_tail.ensures
          (row_of_sum A B r c.rows-r-end.ensures.shape.matrix c.rows-rows.ensures.matrix c.requires.same_rows c.requires.same_cols
          (omega (arith, c.rows-r-end.ensures.rows, c.loop-r-test.true)));
      all = c.rows-r-end.ensures.rows;
    }

pub returns : goal.returns
returns c =
    let A = content c.args.dst.now in
    let B = shown c.args.src.now in
    let many : length (added A B).entries ≡ A.rows = length-table A.rows A.cols (λ i j. bit_xor (at A i j) (at B i j)) in
    c.loop-r.invariant.so_far
    ∙ copied_all c.args.dst.now (added A B).entries c.loop-r.r
    (omega (arith, many, c.rows-r-end.ensures.rows, c.loop-r.auto.r-end, c.loop-r-test.false))
    (omega (arith, c.rows-r-end.ensures.shape.matrix.height, c.rows-r-end.ensures.rows, c.loop-r.auto.r-end, c.loop-r-test.false))
