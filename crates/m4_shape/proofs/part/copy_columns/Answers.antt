use Rattle.std.proofs.Common.{◌≡◌, ◌+◌, ◌<◌, length, refl, arith, ◌∙◌}
use Rattle.m4_model.specs.Matrix.{row}
use Rattle.m4_model.specs.Shapes.{cut, replace}
use Rattle.m4_model.proofs.MatrixLemmas.{length-table}
use Rattle.m4_mzd.specs.Window.{content}
use Rattle.m4_mzd.specs.Seen.{shown}
use Rattle.m4_mzd.specs.Parts.{part, with_part}
use Rattle.m4_mzd.proofs.PairLemmas.{copied_all}
use Rattle.m4_mzd.proofs.PlaceLemmas.{row_step}
use Rattle.m4_shape.proofs.PlacedLemmas.{placed, row_of_placed}
use Rattle.m4_shape.proofs.part.copy_columns.Goals as goal

pub loop-r-init : goal.loop-r-init
loop-r-init c = record { so_far = refl; all = c.rows-r-end.ensures.rows }

pub copy_part-requires : goal.copy_part-requires
copy_part-requires c = rw c.loop-r.invariant.so_far (record {
  in_rows = omega (arith, c.rows-r-end.ensures.rows, c.loop-r-test.true);
  in_cols = c.requires.in_cols;
  in_from = omega (arith, c.rows-r-end.ensures.rows, c.requires.in_src_rows, c.loop-r-test.true);
  in_from_cols = c.requires.in_src_cols;
})

pub loop-r-preserved : goal.loop-r-preserved
loop-r-preserved c =
    let A = content c.args.dst.now in
    let B = shown c.args.src.now in
    let r = c.loop-r.r in
    let W = cut B c.args.r0 c.args.first (c.args.r0 + A.rows) (c.args.first + c.args.count) in
    let rows = (replace A 0 c.args.c W).entries in
    let many : length rows ≡ A.rows = length-table A.rows A.cols (placed A W c.args.c) in
    let below : r < A.rows = omega (arith, c.rows-r-end.ensures.rows, c.loop-r-test.true) in
    record {
      so_far = row_step c.args.dst.now c.loop-r.dst c.copy_part.new.self rows r (λ xs. with_part c.args.c (part c.args.first c.args.count (row B (c.args.r0 + r))) xs)
          (omega (arith, many, below)) (omega (arith, c.rows-r-end.ensures.shape.matrix.height, below)) c.loop-r.invariant.so_far c.copy_part.ensures
          (row_of_placed A B c.args.c c.args.r0 c.args.first c.args.count r c.rows-r-end.ensures.shape.matrix c.rows-rows.ensures.matrix below
          c.requires.in_cols c.requires.in_src_rows c.requires.in_src_cols);
      all = c.rows-r-end.ensures.rows;
    }

pub returns : goal.returns
returns c =
    let A = content c.args.dst.now in
    let B = shown c.args.src.now in
    let W = cut B c.args.r0 c.args.first (c.args.r0 + A.rows) (c.args.first + c.args.count) in
    let rows = (replace A 0 c.args.c W).entries in
    let many : length rows ≡ A.rows = length-table A.rows A.cols (placed A W c.args.c) in
    c.loop-r.invariant.so_far
    ∙ copied_all c.args.dst.now rows c.loop-r.r
    (omega (arith, many, c.rows-r-end.ensures.rows, c.loop-r.auto.r-end, c.loop-r-test.false))
    (omega (arith, c.rows-r-end.ensures.shape.matrix.height, c.rows-r-end.ensures.rows, c.loop-r.auto.r-end, c.loop-r-test.false))
