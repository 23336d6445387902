use Rattle.std.proofs.Common.{◌≡◌, ◌∙◌, sym, ap, arith, if◌then◌else◌, ◌==◌}
use Rattle.m4_model.specs.Matrix.{Matrix, HasShape, at}
use Rattle.m4_model.proofs.ShapeLemmas.{same_entries, at-matrix_of}
use Rattle.m4_model.proofs.RingLemmas.{HasShape-one}
use Rattle.m4_mzed.specs.EWindow.{EWindow, content}
use Rattle.m4_mzed.specs.ESeen.{e_shown}
use Rattle.m4_solve.proofs.systems.identity_for.Goals as goal

pub returns : goal.returns
returns c =
    let A = e_shown c.args.a.now in
    let K = content c.set_units.new.a in
    let given = c.all_mut-all.ensures.content ∙ c.in_ok-one.ensures in
    let kept = c.set_units.ensures.kept in
    let rows : K.rows ≡ A.rows = ap (λ (V : EWindow). V.rows) kept ∙ ap (λ (M : Matrix). M.rows) given ∙ c.rows.ensures.rows in
    let cols : K.cols ≡ A.rows = ap (λ (V : EWindow). V.cols) kept ∙ ap (λ (M : Matrix). M.cols) given ∙ c.cols.ensures.cols ∙ c.requires.square in
    let here = c.put_all.ensures in
    let shape : HasShape A.field A.rows A.rows c.put_all.new.self = record {
      is_matrix = c.rows-shape.ensures.matrix;
      over = ap (λ (M : Matrix). M.field) here ∙ ap (λ (V : EWindow). V.field) kept ∙ ap (λ (M : Matrix). M.field) given ∙ c.field.ensures;
      rows = ap (λ (M : Matrix). M.rows) here ∙ rows;
      cols = ap (λ (M : Matrix). M.cols) here ∙ cols;
    } in
    let own = ap (λ (V : EWindow). V.rows) kept in
    let own_cols = ap (λ (V : EWindow). V.cols) kept in
    same_entries shape (HasShape-one A.field A.rows c.rows.ensures.matrix.over_field) (λ i j below within.
    ap (λ (M : Matrix). at M i j) here
    ∙ c.set_units.ensures.units i j (omega (arith, below, rows, own)) (omega (arith, within, cols, own_cols))
    ∙ sym (at-matrix_of A.field A.rows A.rows (λ i j. if i == j then 1 else 0) i j below within))
