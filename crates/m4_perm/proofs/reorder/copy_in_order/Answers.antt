use Rattle.std.proofs.Common.{◌≡◌, ◌<◌, length, get_or, arith, ◌∙◌}
use Rattle.m4_model.specs.Matrix.{at, row}
use Rattle.m4_model.specs.Step.{reordered}
use Rattle.m4_model.proofs.MatrixLemmas.{length-table}
use Rattle.m4_mzd.specs.Seen.{shown}
use Rattle.m4_mzd.proofs.PairLemmas.{copied_all}
use Rattle.m4_mzd.proofs.PlaceLemmas.{row_step}
use Rattle.m4_perm.proofs.RowsLemmas.{row_reordered}
use Rattle.m4_perm.proofs.reorder.copy_in_order.Goals as goal

pub loop-r-preserved : goal.loop-r-preserved
loop-r-preserved c =
    let A = shown c.args.a.now in
    let p = c.args.order.now in
    let r = c.loop-r.r in
    let rows = (reordered p A).entries in
    let many : length rows ≡ A.rows = length-table A.rows A.cols (λ i j. at A (get_or p i 0) j) in
    let below : r < A.rows = omega (arith, c.requires.same_rows, c.rows-r-end.ensures.rows, c.loop-r-test.true) in
    let small : get_or p r 0 < A.rows = c.requires.listed r 0 (omega arith) in
    record {
      so_far = row_step c.args.dst.now c.loop-r.dst c.copy_row.new.self rows r (λ xs. row A (get_or p r 0))
          (omega (arith, many, below)) (omega (arith, c.rows-r-end.ensures.shape.matrix.height, c.requires.same_rows, below)) c.loop-r.invariant.so_far c.copy_row.ensures
          (row_reordered p A r c.rows-rows.ensures.matrix below small);
      all = c.rows-r-end.ensures.rows;
    }

pub returns : goal.returns
returns c =
    let A = shown c.args.a.now in
    let p = c.args.order.now in
    let rows = (reordered p A).entries in
    let many : length rows ≡ A.rows = length-table A.rows A.cols (λ i j. at A (get_or p i 0) j) in
    c.loop-r.invariant.so_far
    ∙ copied_all c.args.dst.now rows c.loop-r.r
    (omega (arith, many, c.requires.same_rows, c.rows-r-end.ensures.rows, c.loop-r.auto.r-end, c.loop-r-test.false))
    (omega (arith, c.rows-r-end.ensures.shape.matrix.height, c.rows-r-end.ensures.rows, c.loop-r.auto.r-end, c.loop-r-test.false))
