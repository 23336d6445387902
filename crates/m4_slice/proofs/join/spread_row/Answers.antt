use Rattle.std.proofs.Common.{◌*◌, arith, ◌∙◌, bit_xor}
use Rattle.m4_model.specs.Matrix.{at, row, row_sum}
use Rattle.m4_mzd.specs.Window.{content}
use Rattle.m4_mzd.specs.Seen.{shown}
use Rattle.m4_slice.specs.Sliced.{bits_spread}
use Rattle.m4_slice.proofs.WidthLemmas.{fills}
use Rattle.m4_slice.proofs.LoadLemmas.{row_begun, row_more, row_all}
use Rattle.m4_slice.proofs.JoinLemmas.{spread_bit, spread_bits, length-summed, entry-summed}
use Rattle.m4_slice.proofs.join.spread_row.Goals as goal

pub loop-q-init : goal.loop-q-init
loop-q-init c =
    let S = shown c.args.slices.now in
    row_begun c.args.dst.now c.args.i (λ p. bit_xor (at (content c.args.dst.now) c.args.i p) (spread_bit c.args.width c.args.count c.args.rows S c.args.i p)) c.rows-rows.ensures.shape.matrix c.requires.in_rows

pub loop-q-preserved : goal.loop-q-preserved
loop-q-preserved c =
    let S = shown c.args.slices.now in
    let w = c.args.width in
    let d = c.args.dst.now in
    let i = c.args.i in
    row_more d c.loop-q.dst c.set_word.new.self i c.loop-q.q _ (λ p. bit_xor (at (content d) i p) (spread_bit w c.args.count c.args.rows S i p))
    (omega (arith, c.rows-rows.ensures.shape.matrix.height, c.requires.in_rows)) c.loop-q.invariant
    (spread_bits w c.args.count c.args.rows c.loop-q.q i S d c.loop-q.dst c.word.result c.spread_word.result (fills w c.requires.widths) c.loop-q.invariant c.word.ensures c.spread_word.ensures)
    c.set_word.ensures

pub returns : goal.returns
returns c =
    let S = shown c.args.slices.now in
    let w = c.args.width in
    let d = c.args.dst.now in
    let i = c.args.i in
    let long = c.rows-rows.ensures.shape.matrix.width i c.requires.in_rows in
    row_all d c.loop-q.dst i c.loop-q.q (λ p. bit_xor (at (content d) i p) (spread_bit w c.args.count c.args.rows S i p)) (row_sum (row (content d) i) (row (bits_spread w c.args.count c.args.rows S) i)) c.loop-q.invariant
    (omega (arith, c.loop-q-test.false, c.words_for-q-end.ensures, c.cols.ensures.cols))
    (length-summed (content d) (bits_spread w c.args.count c.args.rows S) i ∙ long)
    (λ p within. entry-summed (content d) c.args.rows (S.cols * w) (λ i p. spread_bit w c.args.count c.args.rows S i p) i p (omega (arith, c.requires.in_rows, c.requires.same_rows)) (omega (arith, within, c.requires.cols)) (long ∙ c.requires.cols))
