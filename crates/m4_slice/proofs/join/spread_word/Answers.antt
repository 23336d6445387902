use Rattle.std.proofs.Common.{◌+◌, ◌*◌, ◌/◌, ◌%◌, arith, ap, ◌∙◌}
use Rattle.m4_model.specs.Matrix.{at}
use Rattle.m4_mzd.specs.Seen.{shown}
use Rattle.m4_bits.proofs.TransposeLemmas.{bit_at-shr}
use Rattle.m4_slice.proofs.WidthLemmas.{fills}
use Rattle.m4_slice.proofs.JoinLemmas.{spread_none, spread_more, spread_all, sliced_place, far_below}
use Rattle.m4_slice.proofs.join.spread_word.Goals as goal

pub loop-v-init : goal.loop-v-init
loop-v-init c = spread_none c.args.width (λ v r. at (shown c.args.slices.now) (v * c.args.rows + c.args.i) (c.args.q * (64 / c.args.width) + r))

pub loop-v-preserved : goal.loop-v-preserved
loop-v-preserved c =
    let w = c.args.width in
    let q = c.args.q in
    let v = c.loop-v.v in
    let S = shown c.args.slices.now in
    let fill = fills w c.requires.widths in
    spread_more w v fill (omega (arith, c.loop-v-test.true, c.requires.few)) (λ v r. at S (v * c.args.rows + c.args.i) (q * (64 / w) + r))
    c.loop-v.word _ c.spread.result c.loop-v.invariant c.spread.ensures
    (λ r below. bit_at-shr c.word.result (q % w * (64 / w)) r ∙ c.word.ensures (q % w * (64 / w) + r) (far_below w q r fill below) ∙ ap (at S (v * c.args.rows + c.args.i)) (sliced_place w q r fill))

pub returns : goal.returns
returns c = spread_all c.args.width c.args.count c.loop-v.v (λ v r. at (shown c.args.slices.now) (v * c.args.rows + c.args.i) (c.args.q * (64 / c.args.width) + r)) c.loop-v.word (omega (arith, c.loop-v-test.false, c.loop-v.auto.v-end)) c.loop-v.invariant
