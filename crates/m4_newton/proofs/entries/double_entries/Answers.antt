use Rattle.std.proofs.Common.{◌≡◌, ℕ, ◌+◌, ◌*◌, ◌^◌, ◌%◌, ◌<◌, ◌≤◌, ◌∙◌, refl, sym, ap, ap₂, subst, arith}
use Rattle.std.proofs.Math.Pow.{pow_pos}
use Rattle.m4_model.specs.Field.{Field, IsCarried}
use Rattle.m4_model.specs.Matrix.{Matrix, row, row_sum, with_row}
use Rattle.m4_mzed.specs.EWindow.{EWindow, content, showing}
use Rattle.m4_mzed.specs.ESeen.{e_shown}
use Rattle.m4_mzed.specs.Rows.{multiples}
use Rattle.m4_newton.specs.Entries.{AreEntries}
use Rattle.m4_newton.proofs.PowerLemmas.{power_is, power_small}
use Rattle.m4_newton.proofs.EntryLemmas.{sum_entry, top_entry, doubled, kept_on}
use Rattle.m4_newton.proofs.entries.double_entries.Goals as goal

pub loop-y-init : goal.loop-y-init
loop-y-init c =
    let old = c.args.m.now in
    let xs = row (e_shown c.args.b.now) c.args.t in
    let u = c.args.u in
    let few : old.field.degree ≤ 16 = omega (arith, c.e-degree.ensures.field.degree_high, ap (λ (F : Field). F.degree) c.field.ensures) in
    let power : 1 * 2 ^ u % 2 ^ 32 ≡ 2 ^ u = power_is old.field.degree u few (omega (arith, c.requires.few)) in
    let place : c.args.base + 1 * 2 ^ u % 2 ^ 32 ≡ c.args.base + 2 ^ u = ap (λ k. c.args.base + k) power in
    record {
      kept = c.put_multiple.ensures ∙ ap (λ (A : Matrix). showing old A) (sym (ap content c.put_multiple.ensures));
      entries = λ first so_far. top_entry first old c.put_multiple.new.m xs c.args.base c.args.shift u _
          (omega (arith, c.rows-rows.ensures.matrix.height, c.requires.in_rows, doubled u, pow_pos u))
          (power_is old.field.degree (c.args.shift + u) few c.requires.few)
          (c.put_multiple.ensures ∙ ap (λ k. showing old (with_row (content old) k (multiples old.field (1 * 2 ^ (c.args.shift + u) % 2 ^ 32) xs))) place) so_far;
    }

pub loop-y-preserved : goal.loop-y-preserved
loop-y-preserved c =
    let now = c.loop-y.m in
    let xs = row (e_shown c.args.b.now) c.args.t in
    let u = c.args.u in
    let y = c.loop-y.y in
    let base = c.args.base in
    let few : c.args.m.now.field.degree ≤ 16 = omega (arith, c.e-degree.ensures.field.degree_high, ap (λ (F : Field). F.degree) c.field.ensures) in
    let power : 1 * 2 ^ u % 2 ^ 32 ≡ 2 ^ u = power_is c.args.m.now.field.degree u few (omega (arith, c.requires.few)) in
    let place : base + 1 * 2 ^ u % 2 ^ 32 + y ≡ base + (2 ^ u + y) = omega (arith, power) in
    let top : base + 1 * 2 ^ u % 2 ^ 32 ≡ base + 2 ^ u = ap (λ k. base + k) power in
    let below : y < 2 ^ u = omega (arith, c.loop-y-test.true, power) in
    let carried : IsCarried c.args.m.now.field = subst IsCarried c.field.ensures c.e-degree.ensures.field in
    record {
      kept = kept_on c.args.m.now now c.put_sum.new.m (with_row (content now) (base + 1 * 2 ^ u % 2 ^ 32 + y) (row_sum (row (content now) (base + y)) (row (content now) (base + 1 * 2 ^ u % 2 ^ 32)))) c.loop-y.invariant.kept c.put_sum.ensures;
      entries = λ first so_far.
          let P : ℕ → Type 0 = AreEntries first c.put_sum.new.m xs base c.args.shift in
          let e : 2 ^ u + y + 1 ≡ 2 ^ u + (y + 1) = omega arith in
          subst P e (sum_entry first now c.put_sum.new.m xs base c.args.shift u y (subst IsCarried (ap (λ (v : EWindow). v.field) so_far.kept) carried)
          (omega (arith, c.rows-new_rows.ensures.matrix.height, c.requires.in_rows, ap (λ (v : EWindow). v.rows) c.loop-y.invariant.kept, doubled u, below)) below
          (c.put_sum.ensures ∙ ap₂ (λ k q. showing now (with_row (content now) k (row_sum (row (content now) (base + y)) (row (content now) q)))) place top)
          (omega (arith, c.loop-y.auto.y)) (c.loop-y.invariant.entries first so_far));
    }

pub put_multiple-requires-clause-element : goal.put_multiple-requires-clause-element
put_multiple-requires-clause-element c =
    let few : c.args.m.now.field.degree ≤ 16 = omega (arith, c.e-degree.ensures.field.degree_high, ap (λ (F : Field). F.degree) c.field.ensures) in
    power_small c.args.m.now.field.degree (c.args.shift + c.args.u) _ few c.requires.few refl

pub returns : goal.returns
returns c first so_far =
    let u = c.args.u in
    let few : c.args.m.now.field.degree ≤ 16 = omega (arith, c.e-degree.ensures.field.degree_high, ap (λ (F : Field). F.degree) c.field.ensures) in
    let power : 1 * 2 ^ u % 2 ^ 32 ≡ 2 ^ u = power_is c.args.m.now.field.degree u few (omega (arith, c.requires.few)) in
    let P : ℕ → Type 0 = AreEntries first c.loop-y.m (row (e_shown c.args.b.now) c.args.t) c.args.base c.args.shift in
    subst P (omega (arith, doubled u, power, c.loop-y-test.false, c.loop-y.auto.y-end, pow_pos u)) (c.loop-y.invariant.entries first so_far)
