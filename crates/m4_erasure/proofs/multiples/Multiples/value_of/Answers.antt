use Rattle.std.proofs.Common.{◌≡◌, ◌-◌, length, refl, arith}
use Rattle.m4_model.specs.Field.{sum_below}
use Rattle.m4_erasure.proofs.Values.{horner_step}
use Rattle.m4_erasure.proofs.multiples.Multiples.value_of.Goals as goal

pub loop-i-init : goal.loop-i-init
unfolding sum_below
loop-i-init c = let e : length c.args.stripe.now - length c.args.stripe.now ≡ 0 = omega arith in rw e refl

pub loop-i-preserved : goal.loop-i-preserved
loop-i-preserved c =
    horner_step c.args.stripe.now c.args.self.now.factor c.loop-i.i c.loop-i.value c.by.result (omega arith) (omega arith) (c.type_inv.stripe (c.loop-i.i - 1)).fits
    c.loop-i.invariant c.by.ensures
