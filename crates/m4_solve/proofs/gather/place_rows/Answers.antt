use Rattle.std.proofs.Common.{◌+◌, refl, sym, ◌∙◌, ap, subst, arith, length, slice_index}
use Rattle.m4_model.specs.Matrix.{Matrix, row, at, with_row}
use Rattle.m4_model.proofs.MatrixLemmas.{length-table}
use Rattle.m4_model.proofs.ShapeLemmas.{at-zero_matrix}
use Rattle.m4_mzed.specs.EWindow.{EWindow, content}
use Rattle.m4_mzed.specs.ESeen.{e_shown}
use Rattle.m4_trsm.proofs.Windows.{stays_more}
use Rattle.m4_solve.proofs.Gathers.{IsPlacedTo, placed_more}
use Rattle.m4_solve.proofs.gather.place_rows.Goals as goal

pub loop-s-init : goal.loop-s-init
loop-s-init c =
    let x = c.args.x.now in (
      refl,
      record {
        height = ap (λ (M : Matrix). length M.entries) c.requires.zeros ∙ length-table x.rows x.cols (λ i j. 0);
        at_pivot = λ s j before. absurd (omega (arith, before));
        elsewhere = λ t j below within none. ap (λ (M : Matrix). at M t j) c.requires.zeros ∙ at-zero_matrix x.field x.rows x.cols t j below within;
      },
    )

pub loop-s-preserved : goal.loop-s-preserved
loop-s-preserved c =
    let x = c.args.x.now in
    let Z = e_shown c.args.z.now in
    let q = c.args.pivots.now in
    let s = c.loop-s.s in
    let X = content c.loop-s.x in
    let inside = c.loop-s-test.true in (
      stays_more x c.loop-s.x c.copy_row.new.self (with_row X (slice_index q s) (row Z s)) c.loop-s.invariant.0 c.copy_row.ensures,
      subst (IsPlacedTo Z q x.rows x.cols (s + 1)) (sym (ap content c.copy_row.ensures))
          (placed_more Z q x.rows x.cols s X c.requires.rising inside (c.requires.below s inside) c.loop-s.invariant.1),
    )

pub returns-clause-placed : goal.returns-clause-placed
returns-clause-placed c =
    let Z = e_shown c.args.z.now in
    let x = c.args.x.now in
    let kept = c.loop-s.invariant.0 in
    let placed = c.loop-s.invariant.1 in
    let cols = c.requires.same_cols in
    record {
      shape = record {
        is_matrix = c.rows-shape.ensures.matrix;
        over = ap (λ (V : EWindow). V.field) kept ∙ sym c.requires.field;
        rows = ap (λ (V : EWindow). V.rows) kept;
        cols = ap (λ (V : EWindow). V.cols) kept ∙ sym cols;
      };
      at_pivot = λ s j inside within. placed.at_pivot s j (omega (arith, inside)) (omega (arith, within, cols));
      elsewhere = λ t j below within none. placed.elsewhere t j below (omega (arith, within, cols)) (λ s before. none s (omega (arith, before)));
    }
