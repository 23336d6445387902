use Rattle.std.proofs.Common.{◌≡◌, ◌∙◌, ap, refl, sym, arith}
use Rattle.m4_model.specs.Field.{Field}
use Rattle.m4_mzed.specs.EWindow.{EWindow}
use Rattle.m4_mzed.specs.ESeen.{e_shown}
use Rattle.m4_newton.proofs.PowerLemmas.{none_put, more_put, power_is, power_small}
use Rattle.m4_newton.proofs.multiples.put_multiples.Goals as goal

pub loop-u-init : goal.loop-u-init
loop-u-init c = none_put c.args.m.now (e_shown c.args.b.now) c.args.first c.args.t

pub loop-u-preserved : goal.loop-u-preserved
loop-u-preserved c =
    let now = c.loop-u.m in
    let rows = ap (λ (v : EWindow). v.rows) c.loop-u.invariant.kept in
    more_put c.args.m.now now c.put_multiple.new.m (e_shown c.args.b.now) c.args.first c.args.t c.loop-u.u _
    (omega (arith, c.rows-rows.ensures.matrix.height, c.requires.in_rows, rows, c.loop-u-test.true, c.e-degree.ensures.degree, ap (λ (F : Field). F.degree) c.field.ensures))
    (power_is c.e-degree.result c.loop-u.u (omega (arith, c.e-degree.ensures.field.degree_high, c.e-degree.ensures.degree)) (omega (arith, c.loop-u-test.true)))
    c.put_multiple.ensures c.loop-u.invariant

pub put_multiple-requires-clause-element : goal.put_multiple-requires-clause-element
put_multiple-requires-clause-element c =
    let degree : c.e-degree.result ≡ c.loop-u.m.field.degree
    = c.e-degree.ensures.degree ∙ ap (λ (F : Field). F.degree) (c.field.ensures ∙ sym (ap (λ (v : EWindow). v.field) c.loop-u.invariant.kept)) in
    power_small c.loop-u.m.field.degree c.loop-u.u _ (omega (arith, c.e-degree.ensures.field.degree_high, c.e-degree.ensures.degree, degree)) (omega (arith, c.loop-u-test.true, degree)) refl
