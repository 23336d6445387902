use Rattle.std.proofs.Common.{◌≡◌, ◌≤◌, ◌<◌, ◌+◌, ℕ, sym, ◌∙◌, ap, ap₂, subst, arith, length, slice_index, take, map}
use Rattle.m4_model.specs.Field.{Field}
use Rattle.m4_model.specs.Matrix.{Matrix, HasShape, at}
use Rattle.m4_model.specs.Shapes.{cut}
use Rattle.m4_model.specs.Forms.{Reduced}
use Rattle.m4_model.proofs.EquivalenceLemmas.{RowEquivalent}
use Rattle.m4_model.proofs.FieldProofs.{field_laws}
use Rattle.m4_model.proofs.ProductLemmas.{times, unit_at}
use Rattle.m4_model.proofs.ShapeLemmas.{HasShape-own}
use Rattle.m4_model.proofs.CutLemmas.{at-cut, HasShape-cut}
use Rattle.m4_mzed.specs.EWindow.{EWindow, content}
use Rattle.m4_mzed.specs.ESeen.{e_shown}
use Rattle.m4_trsm.specs.Triangles.{unit_upper}
use Rattle.m4_trsm.proofs.Quarters.{shows_top_left}
use Rattle.m4_solve.proofs.Behind.{made_behind, zero_behind}
use Rattle.m4_solve.proofs.Cleared.{cleared_same, cleared_reduced}
use Rattle.m4_solve.proofs.clear.clear_above.Given.{Over}
use Rattle.m4_solve.proofs.clear.clear_above.Goals.{After-rows-shape}
use Rattle.m4_solve.proofs.clear.clear_above.Goals as goal

-- what the window holds once the triangle of its pivot columns is solved
cleared : (g : Over) → (c : After-rows-shape g)
    → Reduced (content c.solve_behind.new.a) c.args.pivots.now
    × RowEquivalent c.args.a.now.field c.args.a.now.rows (content c.solve_behind.new.a) (content c.args.a.now)
cleared g c =
    let a = c.args.a.now in
    let E = content a in
    let R = content c.solve_behind.new.a in
    let q = c.args.pivots.now in
    let r = length q in
    let G = content c.gather_columns.new.g in
    let T = e_shown c.narrow.result in
    let is_matrix = c.rows-rows.ensures.matrix in
    let kept = c.solve_behind.ensures.kept in
    let gathered = c.gather_columns.ensures.kept in
    let g_rows = ap (λ (V : EWindow). V.rows) gathered in
    let g_cols = ap (λ (V : EWindow). V.cols) gathered in
    let room_rows = c.requires.room_rows in
    let room_cols = c.requires.room_cols in
    let few_rows : r ≤ G.rows = omega (arith, room_rows, g_rows) in
    let few_cols : r ≤ G.cols = omega (arith, room_cols, g_cols) in
    let own = c.cols-corner.ensures.matrix in
    let triangle : T ≡ cut G 0 0 r r
    = c.narrow.ensures ∙ ap (λ (A : Matrix). record A { cols = r; entries = map (take r) A.entries })
    (c.split_rows.ensures.above ∙ ap (λ (A : Matrix). record A { rows = r; entries = take r A.entries }) c.see-2.ensures)
    ∙ shows_top_left G own r r few_rows few_cols in
    let e : HasShape a.field a.rows a.cols E = HasShape-own E is_matrix in
    let over = ap (λ (V : EWindow). V.field) gathered ∙ c.requires.field in
    let t_shape : HasShape a.field r r T
    = subst (HasShape a.field r r) (sym triangle) (subst (λ (F : Field). HasShape F r r (cut G 0 0 r r)) over (HasShape-cut (HasShape-own G own) 0 0 r r r r (omega arith) (omega arith) few_rows few_cols)) in
    let entries : (i s : ℕ) → i < r → s < r → at T i s ≡ at E i (slice_index q s)
    = λ i s below inside.
    let row : 0 + i ≡ i = omega arith in
    let col : 0 + s ≡ s = omega arith in
    ap (λ (C : Matrix). at C i s) triangle ∙ at-cut G 0 0 r r r r (omega arith) (omega arith) i s below inside ∙ ap₂ (at G) row col
    ∙ c.gather_columns.ensures.columns i s (omega (arith, below, room_rows)) inside
    ∙ ap (λ (C : Matrix). at C i (slice_index q s)) c.see.ensures in
    let count = t_shape.rows in
    let shape : HasShape a.field a.rows a.cols R = record {
      is_matrix = c.rows-shape.ensures.matrix;
      over = ap (λ (V : EWindow). V.field) kept;
      rows = ap (λ (V : EWindow). V.rows) kept;
      cols = ap (λ (V : EWindow). V.cols) kept;
    } in
    let laws = field_laws a.field is_matrix.over_field in
    let done = c.settled-done.result in
    let few = c.settled-done.ensures.within in
    let units : (i j : ℕ) → i < a.rows → j < done → at R i j ≡ unit_at i j = c.solve_behind.ensures.units in
    let solved : (i j : ℕ) → i < r → done ≤ j → j < a.cols → at E i j ≡ times a.field r (at (unit_upper T)) (at R) i j
    = λ i j below from inside.
    c.solve_behind.ensures.solved i j (omega (arith, below, count)) from inside ∙ ap (λ (n : ℕ). times a.field n (at (unit_upper T)) (at R) i j) count in
    let rest : (i j : ℕ) → r ≤ i → i < a.rows → done ≤ j → j < a.cols → at R i j ≡ at E i j
    = λ i j past low from inside. c.solve_behind.ensures.rest i j (omega (arith, past, count)) low from inside in
    let zero = zero_behind a.field laws a.rows a.cols E R T q e t_shape c.requires.echelon c.requires.ones entries done few c.settled-done.ensures.places units rest in
    let made = made_behind a.field laws a.rows a.cols E R T q e t_shape c.requires.echelon c.requires.ones entries done few c.settled-done.ensures.places units solved in (
      cleared_reduced a.field laws a.rows a.cols E R q e shape c.requires.echelon c.requires.ones zero made,
      cleared_same a.field laws a.rows a.cols E R q e shape c.requires.echelon c.requires.ones zero made,
    )

pub returns-clause-reduced : goal.returns-clause-reduced
returns-clause-reduced g c = (cleared g (goal.at.returns-clause-reduced g c).After-rows-shape).0

pub returns-clause-same : goal.returns-clause-same
returns-clause-same g c = (cleared g (goal.at.returns-clause-same g c).After-rows-shape).1
