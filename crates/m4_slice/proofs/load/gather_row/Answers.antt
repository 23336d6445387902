use Rattle.std.proofs.Common.{◌+◌, ◌*◌, ◌/◌, ◌%◌, ◌<◌, arith, ap, sym, ◌∙◌}
use Rattle.m4_model.specs.Matrix.{at, row}
use Rattle.m4_mzd.specs.Seen.{shown}
use Rattle.m4_slice.specs.Sliced.{bits_gathered}
use Rattle.m4_slice.proofs.WidthLemmas.{fills, next_le}
use Rattle.m4_slice.proofs.LoadLemmas.{row_begun, row_more, row_all, length-gathered, entry-gathered, slice_below}
use Rattle.m4_slice.proofs.load.gather_row.Goals as goal

pub loop-k-init : goal.loop-k-init
loop-k-init c =
    let A = shown c.args.a.now in
    let m = c.rows-rows.result in
    row_begun c.args.slices.now c.args.p (λ j. at A (c.args.p % m) (j * c.args.width + c.args.p / m)) c.rows-slice_rows.ensures.shape.matrix c.requires.in_slices

pub loop-k-preserved : goal.loop-k-preserved
loop-k-preserved c =
    let A = shown c.args.a.now in
    let w = c.args.width in
    let m = c.rows-rows.result in
    let d = c.args.slices.now in
    let bit : c.args.p / m < w = (let s = slice_below c.args.p c.args.count A.rows (omega (arith, c.requires.in_slices, c.requires.rows)) in rw c.rows-rows.ensures.rows (omega (arith, s, c.requires.few))) in
    row_more d c.loop-k.slices c.set_word.new.self c.args.p c.loop-k.k c.gathered_word-word.result (λ j. at A (c.args.p % m) (j * w + c.args.p / m))
    (omega (arith, c.rows-slice_rows.ensures.shape.matrix.height, c.requires.in_slices)) c.loop-k.invariant
    (λ q below inside. c.gathered_word-word.ensures q below (let n = next_le (c.loop-k.k * 64 + q) d.cols w inside in omega (arith, n, bit, c.requires.cols)))
    c.set_word.ensures

pub returns : goal.returns
returns c =
    let A = shown c.args.a.now in
    let w = c.args.width in
    let m = c.rows-rows.result in
    let d = c.args.slices.now in
    let fill = fills w c.requires.widths in
    let below : c.args.p < c.args.count * A.rows = omega (arith, c.requires.in_slices, c.requires.rows) in
    row_all d c.loop-k.slices c.args.p c.loop-k.k (λ j. at A (c.args.p % m) (j * w + c.args.p / m)) (row (bits_gathered w c.args.count A) c.args.p) c.loop-k.invariant
    (omega (arith, c.loop-k-test.false, c.words_for-k-end.ensures, c.cols.ensures.cols))
    (length-gathered w c.args.count d.cols c.args.p A fill.some c.requires.cols below)
    (λ j within. entry-gathered w c.args.count d.cols c.args.p A fill.some c.requires.cols below j within ∙ ap (λ m. at A (c.args.p % m) (j * w + c.args.p / m)) (sym c.rows-rows.ensures.rows))
