use Rattle.std.proofs.Common.{◌≡◌, ◌≢◌, ◌-◌, ◌*◌, ◌/◌, length, set, subst, ap, arith, sym, ◌∙◌}
use Rattle.std.proofs.lemmas.Bool.{eqb-false}
use Rattle.m4_bits.proofs.SetSumLemmas.{AreSums, sums-more, sums-word, sums-all}
use Rattle.m4_bits.proofs.rows.set_sum.Goals as goal

pub loop-block-preserved : goal.loop-block-preserved
loop-block-preserved c =
    sums-more c.loop-block.dst c.args.a.now c.args.b.now (c.loop-block.block * 8) 8 _ (omega (arith, c.requires.0)) (omega (arith, c.requires.1)) (omega arith) (omega arith)
    c.loop-block.invariant

pub loop-k-init : goal.loop-k-init
loop-k-init c =
    let all : c.loop-block.block * 8 ≡ length c.args.dst.now / 8 * 8 = omega arith in
    subst (AreSums c.loop-block.dst c.args.a.now c.args.b.now) all c.loop-block.invariant

pub loop-k-preserved : goal.loop-k-preserved
loop-k-preserved c = sums-word c.loop-k.dst c.args.a.now c.args.b.now c.loop-k.k _ (omega arith) (omega arith) c.loop-k.invariant

pub returns : goal.returns
returns c =
    let some : length c.args.dst.now ≢ 0 = eqb-false (length c.args.dst.now) 0 (sym c.is_empty.ensures ∙ c.if-is_empty.false) in
    ap (set c.loop-k.dst (length c.args.dst.now - 1)) c.merge.ensures
    ∙ sums-all c.args.dst.now c.loop-k.dst c.args.a.now c.args.b.now c.args.last (length c.args.dst.now - 1) c.loop-k.k (omega (arith, c.requires.0)) (omega (arith, c.requires.1))
    (omega arith) (omega (arith, some)) (omega arith) c.loop-k.invariant
