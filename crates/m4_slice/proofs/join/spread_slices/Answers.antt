use Rattle.std.proofs.Common.{arith, ◌∙◌, bit_xor}
use Rattle.m4_model.specs.Matrix.{at}
use Rattle.m4_mzd.specs.Window.{content}
use Rattle.m4_mzd.specs.Seen.{shown}
use Rattle.m4_slice.specs.Sliced.{bits_spread}
use Rattle.m4_slice.proofs.LoadLemmas.{taken_none, taken_all}
use Rattle.m4_slice.proofs.JoinLemmas.{summed_more}
use Rattle.m4_slice.proofs.join.spread_slices.Goals as goal

pub loop-i-init : goal.loop-i-init
loop-i-init c =
    let R = bits_spread c.args.width c.args.count c.args.dst.now.rows (shown c.args.slices.now) in
    taken_none c.args.dst.now (λ i p. bit_xor (at (content c.args.dst.now) i p) (at R i p)) c.rows-rows.ensures.shape.matrix

pub loop-i-preserved : goal.loop-i-preserved
loop-i-preserved c =
    summed_more c.args.width c.args.count c.rows-rows.result c.args.dst.now c.loop-i.dst c.spread_row.new.dst (shown c.args.slices.now) c.loop-i.i c.rows-rows.ensures.shape.matrix
    c.rows-rows.ensures.rows (omega (arith, c.loop-i-test.true, c.rows-rows.ensures.rows)) c.requires.cols c.loop-i.invariant c.spread_row.ensures

pub returns : goal.returns
returns c =
    let R = bits_spread c.args.width c.args.count c.args.dst.now.rows (shown c.args.slices.now) in
    c.loop-i.invariant ∙ taken_all c.args.dst.now (λ i p. bit_xor (at (content c.args.dst.now) i p) (at R i p)) c.loop-i.i (omega (arith, c.loop-i-test.false, c.rows-rows.ensures.rows))
