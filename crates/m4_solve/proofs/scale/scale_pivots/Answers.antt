use Rattle.std.proofs.Common.{refl, ap, arith}
use Rattle.m4_model.specs.Matrix.{HasShape}
use Rattle.m4_model.proofs.FieldProofs.{field_laws}
use Rattle.m4_mzed.specs.EWindow.{EWindow, content}
use Rattle.m4_trsm.proofs.Windows.{stays_more}
use Rattle.m4_solve.proofs.Scales.{ones_none, ones_more}
use Rattle.m4_solve.proofs.scale.scale_pivots.Goals as goal

pub loop-i-init : goal.loop-i-init
loop-i-init c =
    let A = content c.args.a.now in
    let matrix = c.rows-rows.ensures.matrix in (
      refl,
      ones_none A c.args.pivots.now (field_laws A.field matrix.over_field) matrix c.requires.echelon,
    )

pub loop-i-preserved : goal.loop-i-preserved
loop-i-preserved c =
    let a = c.args.a.now in
    let A = content a in
    let matrix = c.rows-rows.ensures.matrix in
    let N = c.scale_to_one.new.a in
    let kept = stays_more a c.loop-i.a N (content N) c.loop-i.invariant.0 c.scale_to_one.ensures.kept in
    let shape : HasShape A.field A.rows A.cols (content N) = record {
      is_matrix = c.rows-rows_scaled.ensures.matrix;
      over = ap (λ (V : EWindow). V.field) kept;
      rows = ap (λ (V : EWindow). V.rows) kept;
      cols = ap (λ (V : EWindow). V.cols) kept;
    } in (
      kept,
      ones_more A (content c.loop-i.a) (content N) c.args.pivots.now c.loop-i.i (field_laws A.field matrix.over_field) matrix c.loop-i.invariant.1 shape
          c.loop-i-test.true c.scale_to_one.ensures.scaled c.scale_to_one.ensures.one,
    )

pub scale_to_one-requires-clause-in_rows : goal.scale_to_one-requires-clause-in_rows
scale_to_one-requires-clause-in_rows c =
    let inside = c.loop-i-test.true in
    let few = c.loop-i.invariant.1.echelon.within in
    omega (arith, inside, few)

pub scale_to_one-requires-clause-in_cols : goal.scale_to_one-requires-clause-in_cols
scale_to_one-requires-clause-in_cols c = c.loop-i.invariant.1.echelon.columns c.loop-i.i c.loop-i-test.true

pub scale_to_one-requires-clause-nonzero : goal.scale_to_one-requires-clause-nonzero
scale_to_one-requires-clause-nonzero c = c.loop-i.invariant.1.echelon.nonzero c.loop-i.i c.loop-i-test.true

pub returns-clause-echelon : goal.returns-clause-echelon
returns-clause-echelon c = c.loop-i.invariant.1.echelon

pub returns-clause-same : goal.returns-clause-same
returns-clause-same c = c.loop-i.invariant.1.same
