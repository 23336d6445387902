use Rattle.std.proofs.Common.{◌≡◌, ◌≤◌, ℕ, ◌+◌, ◌-◌, List, [], get_or, sym, ◌∙◌, ap, subst, arith, get_or-drop}
use Rattle.m4_model.specs.Matrix.{Matrix, HasShape, row, at, product}
use Rattle.m4_model.specs.Shapes.{cut, above}
use Rattle.m4_model.proofs.BlockLemmas.{at-above_bottom}
use Rattle.m4_mzed.specs.EWindow.{EWindow, content, showing}
use Rattle.m4_mzed.specs.ESeen.{e_shown}
use Rattle.m4_trsm.specs.Triangles.{unit_upper}
use Rattle.m4_trsm.proofs.Windows.{upper, lower, shown_above, top_shape, bottom_shape}
use Rattle.m4_eple.proofs.StepParts.{top_cut, joined_top, kept_joined}
use Rattle.m4_solve.proofs.factored.solve_in_window.Goals as goal

-- a part that was not written
same_part : (v u : EWindow) → v ≡ u → v ≡ showing u (content v)
same_part v u is = is ∙ ap (λ (x : EWindow). showing u (content x)) (sym is)

pub returns-clause-kept : goal.returns-clause-kept
returns-clause-kept g c =
    let w = c.args.y.now in
    let r = c.rows-rank.result in
    let x0 = c.split_rows-top.result.0 in
    let v0 = c.split_rows-top.result.1 in
    let x1 = c.solve_upper_left.new.b in
    let s = c.put_back.new.self in
    let top : x0 ≡ upper w r = c.split_rows-top.ensures.above ∙ ap (λ (u : EWindow). upper u r) c.take.ensures.whole in
    let bottom : v0 ≡ lower w r = c.split_rows-top.ensures.below ∙ ap (λ (u : EWindow). lower u r) c.take.ensures.whole in
    let within : r ≤ w.rows = let h = c.rows-rank.ensures.rows in let q = c.requires.within in omega (arith, h, q) in
    kept_joined w x1 v0 s r within
    (c.solve_upper_left.ensures.stays ∙ ap (λ (u : EWindow). showing u (content x1)) top)
    (same_part v0 (lower w r) bottom)
    (c.put_back.ensures ∙ c.join_rows.ensures)

pub returns-clause-solved : goal.returns-clause-solved
returns-clause-solved g c =
    let w = c.args.y.now in
    let r = c.rows-rank.result in
    let T = e_shown c.args.t.now in
    let x0 = c.split_rows-top.result.0 in
    let v0 = c.split_rows-top.result.1 in
    let x1 = c.solve_upper_left.new.b in
    let X = content x1 in
    let R = content v0 in
    let V = content c.put_back.new.self in
    let top : x0 ≡ upper w r = c.split_rows-top.ensures.above ∙ ap (λ (u : EWindow). upper u r) c.take.ensures.whole in
    let bottom : v0 ≡ lower w r = c.split_rows-top.ensures.below ∙ ap (λ (u : EWindow). lower u r) c.take.ensures.whole in
    let within : r ≤ w.rows = let h = c.rows-rank.ensures.rows in let q = c.requires.within in omega (arith, h, q) in
    let x1_at : x1 ≡ showing (upper w r) X = c.solve_upper_left.ensures.stays ∙ ap (λ (u : EWindow). showing u X) top in
    let v0_at : v0 ≡ showing (lower w r) R = same_part v0 (lower w r) bottom in
    let V_is : V ≡ above X R = ap content (c.put_back.ensures ∙ c.join_rows.ensures)
    ∙ shown_above w x1 v0 r within c.rows-rows_solved.ensures.matrix c.rows-rows_of_rest.ensures.matrix x1_at v0_at in
    let x_shape : HasShape w.field r w.cols X = record {
      is_matrix = c.rows-rows_solved.ensures.matrix;
      over = ap (λ (u : EWindow). u.field) x1_at;
      rows = ap (λ (u : EWindow). u.rows) x1_at;
      cols = ap (λ (u : EWindow). u.cols) x1_at;
    } in
    let r_shape : HasShape w.field (w.rows - r) w.cols R = record {
      is_matrix = c.rows-rows_of_rest.ensures.matrix;
      over = ap (λ (u : EWindow). u.field) v0_at;
      rows = ap (λ (u : EWindow). u.rows) v0_at;
      cols = ap (λ (u : EWindow). u.cols) v0_at;
    } in
    let top_is : cut V 0 0 r V.cols ≡ X = joined_top V X R w.field r (w.rows - r) w.cols V_is x_shape r_shape in
    let x0_is : content x0 ≡ cut (content w) 0 0 r w.cols = ap content top ∙ top_cut (content w) r c.rows-rows.ensures.matrix within in
    subst (λ (n : ℕ). product (unit_upper T) (cut V 0 0 n V.cols) ≡ cut (content w) 0 0 n w.cols) c.rows-rank.ensures.rows
    (ap (product (unit_upper T)) top_is ∙ c.solve_upper_left.ensures.solved ∙ x0_is)

pub returns-clause-rest : goal.returns-clause-rest
returns-clause-rest g c i j past below within =
    let w = c.args.y.now in
    let r = c.rows-rank.result in
    let x0 = c.split_rows-top.result.0 in
    let v0 = c.split_rows-top.result.1 in
    let x1 = c.solve_upper_left.new.b in
    let X = content x1 in
    let R = content v0 in
    let V = content c.put_back.new.self in
    let h = c.rows-rank.ensures.rows in
    let q = c.requires.within in
    let fits : r ≤ w.rows = omega (arith, h, q) in
    let from : r ≤ i = omega (arith, h, past) in
    let top : x0 ≡ upper w r = c.split_rows-top.ensures.above ∙ ap (λ (u : EWindow). upper u r) c.take.ensures.whole in
    let bottom : v0 ≡ lower w r = c.split_rows-top.ensures.below ∙ ap (λ (u : EWindow). lower u r) c.take.ensures.whole in
    let x1_at : x1 ≡ showing (upper w r) X = c.solve_upper_left.ensures.stays ∙ ap (λ (u : EWindow). showing u X) top in
    let v0_at : v0 ≡ showing (lower w r) R = same_part v0 (lower w r) bottom in
    let V_is : V ≡ above X R = ap content (c.put_back.ensures ∙ c.join_rows.ensures)
    ∙ shown_above w x1 v0 r fits c.rows-rows_solved.ensures.matrix c.rows-rows_of_rest.ensures.matrix x1_at v0_at in
    let place : r + (i - r) ≡ i = omega (arith, from) in
    ap (λ (C : Matrix). at C i j) V_is ∙ ap (λ (i : ℕ). at (above X R) i j) (sym place)
    ∙ at-above_bottom (top_shape w x1 v0 r fits c.rows-rows_solved.ensures.matrix c.rows-rows_of_rest.ensures.matrix x1_at v0_at)
    (bottom_shape w x1 v0 r fits c.rows-rows_solved.ensures.matrix c.rows-rows_of_rest.ensures.matrix x1_at v0_at) (i - r) j (omega (arith, below, from)) within
    ∙ ap (λ (u : EWindow). at (content u) (i - r) j) bottom
    ∙ ap (λ (xs : List ℕ). get_or xs j 0) (get_or-drop r w.entries (i - r) [] ∙ ap (row (content w)) place)
