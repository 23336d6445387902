use Rattle.std.proofs.Common.{ℕ, ◌∙◌, subst, arith}
use Rattle.m4_erasure.specs.Sums.{IsAddedAt}
use Rattle.m4_erasure.proofs.Places.{below_none, below_more, below_all}
use Rattle.m4_erasure.proofs.sums.add_values.Goals as goal

pub loop-i-init : goal.loop-i-init
loop-i-init c = below_none c.args.inverse.now c.args.j c.args.body.now c.args.whole.now

pub loop-i-preserved : goal.loop-i-preserved
loop-i-preserved c =
    let step : IsAddedAt c.args.inverse.now.rows c.loop-i.i c.new.result.factor c.args.body.now c.loop-i.whole c.add_multiple.new.whole
    = subst (λ (k : ℕ). IsAddedAt k c.loop-i.i c.new.result.factor c.args.body.now c.loop-i.whole c.add_multiple.new.whole) c.rows-k.ensures.rows c.add_multiple.ensures in
    below_more c.loop-i.i c.args.inverse.now c.args.j c.new.result.factor c.args.body.now c.args.whole.now c.loop-i.whole c.add_multiple.new.whole
    c.loop-i.invariant step (c.new.ensures ∙ c.get-factor.ensures.value)

pub returns : goal.returns
returns c = record {
  sums =
      below_all c.loop-i.i c.args.inverse.now c.args.j c.args.body.now c.args.whole.now c.loop-i.whole c.loop-i.invariant
      (omega (arith, c.loop-i-test.false, c.rows-k.ensures.rows)) (omega (arith, c.requires.in_cols, c.requires.square));
  bytes = λ t. (c.type_inv.body t).fits;
}
