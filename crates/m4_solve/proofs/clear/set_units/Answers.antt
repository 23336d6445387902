use Rattle.std.proofs.Common.{◌+◌, ◌<◌, ◌^◌, ◌∙◌, sym, ap, subst, arith}
use Rattle.m4_model.specs.Field.{Field}
use Rattle.m4_model.specs.Matrix.{with_entry}
use Rattle.m4_mzed.specs.EWindow.{EWindow, content, showing}
use Rattle.m4_trsm.proofs.Triangles.{one_element}
use Rattle.m4_trsm.proofs.Windows.{stays_more}
use Rattle.m4_solve.proofs.Units.{AreUnitsTo, units_none, units_more}
use Rattle.m4_solve.proofs.clear.set_units.Goals as goal

pub loop-i-init : goal.loop-i-init
loop-i-init c =
    let a = c.args.a.now in (
      c.clear.ensures ∙ ap (showing a) (sym (ap content c.clear.ensures)),
      subst (AreUnitsTo a.rows a.cols 0) (sym (ap content c.clear.ensures)) (units_none a.field a.rows a.cols),
    )

pub put-requires-clause-element : goal.put-requires-clause-element
put-requires-clause-element c =
    let field = ap (λ (V : EWindow). V.field) c.loop-i.invariant.0 in
    let own = ap (λ (V : EWindow). V.field) c.clear.ensures in
    subst (λ (F : Field). 1 < 2 ^ F.degree) (own ∙ sym field) (one_element c.clear.new.self.field c.rows-rows.ensures.matrix.over_field)

pub loop-i-preserved : goal.loop-i-preserved
loop-i-preserved c =
    let a = c.args.a.now in
    let i = c.loop-i.i in
    let inside = c.loop-i-test.true in
    let cols = c.cols-i-end.ensures.cols in
    let own = ap (λ (V : EWindow). V.cols) c.clear.ensures in
    let square = c.requires in (
      stays_more a c.loop-i.a c.put.new.self (with_entry (content c.loop-i.a) i i 1) c.loop-i.invariant.0 c.put.ensures,
      subst (AreUnitsTo a.rows a.cols (i + 1)) (sym (ap content c.put.ensures))
          (units_more a.rows a.cols i (content c.loop-i.a) (omega (arith, inside, cols, own, square)) (omega (arith, inside, cols, own)) c.loop-i.invariant.1),
    )

pub returns-clause-units : goal.returns-clause-units
returns-clause-units c i j below within =
    let cols = c.cols-i-end.ensures.cols in
    let own = ap (λ (V : EWindow). V.cols) c.clear.ensures in
    c.loop-i.invariant.1.units i j below within (omega (arith, within, cols, own))
