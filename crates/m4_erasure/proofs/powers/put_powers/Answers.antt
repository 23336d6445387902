use Rattle.std.proofs.Common.{◌≡◌, ◌+◌, ◌<◌, ◌∙◌, refl, sym, ap, arith, subst, ℕ}
use Rattle.m4_model.specs.Field.{Field, mul}
use Rattle.m4_erasure.specs.Shards.{gf256, power}
use Rattle.m4_erasure.specs.Powers.{HasPowers}
use Rattle.m4_erasure.proofs.Roots.{IsElement-power}
use Rattle.m4_erasure.proofs.PowerRows.{powers_none, powers_more, power-more}
use Rattle.m4_erasure.proofs.powers.put_powers.Goals as goal

pub loop-i-init : goal.loop-i-init
unfolding power
loop-i-init c = (powers_none c.args.x c.args.j c.args.powers.now, refl, omega arith)

pub loop-i-preserved : goal.loop-i-preserved
loop-i-preserved c =
    let so_far = c.loop-i.invariant.0 in
    let next : c.mul-power.result ≡ power c.args.x (c.loop-i.i + 1) =
    c.mul-power.ensures.product ∙ ap (λ (F : Field). mul F c.args.x c.loop-i.power) c.field-field.ensures
    ∙ ap (mul gf256 c.args.x) c.loop-i.invariant.1 ∙ sym (power-more c.args.x c.loop-i.i) in (
      subst (HasPowers c.args.x c.args.j (c.loop-i.i + 1) c.args.powers.now) (sym c.put.ensures)
          (powers_more c.args.x c.args.j c.loop-i.i c.loop-i.power c.args.powers.now c.loop-i.powers so_far c.rows-rows.ensures.matrix
          (omega (arith, so_far.rows, c.requires.in_rows)) (omega (arith, so_far.cols, c.cols-i-end.ensures.cols, c.loop-i-test.true)) c.loop-i.invariant.1),
      next,
      subst (λ (p : ℕ). p < 256) (sym next) (IsElement-power c.args.x c.requires.point (c.loop-i.i + 1)),
    )

pub returns : goal.returns
returns c =
    let all : c.loop-i.i ≡ c.args.powers.now.cols = omega (arith, c.loop-i-test.false, c.loop-i.auto.i-end, c.cols-i-end.ensures.cols) in
    subst (λ (n : ℕ). HasPowers c.args.x c.args.j n c.args.powers.now c.loop-i.powers) all c.loop-i.invariant.0
