use Rattle.std.proofs.Common.{◌≡◌, ◌≤◌, ◌-◌, take, map, refl, sym, ◌∙◌, ap, subst, arith}
use Rattle.m4_model.specs.Matrix.{Matrix, IsMatrix, HasShape, added, product}
use Rattle.m4_model.specs.Shapes.{swaps, cut, above}
use Rattle.m4_model.specs.Step.{reordered}
use Rattle.m4_mzed.specs.EWindow.{EWindow, content, showing}
use Rattle.m4_mzed.specs.ESeen.{e_shown}
use Rattle.m4_trsm.specs.Triangles.{unit_lower}
use Rattle.m4_trsm.proofs.Windows.{upper, lower, stays_more, shown_above}
use Rattle.m4_trsm.proofs.Quarters.{shows_top_left, shows_bottom_left}
use Rattle.m4_eple.proofs.StepParts.{top_cut, bottom_cut, joined_top, joined_bottom, kept_joined}
use Rattle.m4_eple.proofs.bring.bring_up.Goals as goal

pub returns-clause-kept : goal.returns-clause-kept
returns-clause-kept g c =
    let w = c.args.right.now in
    let S = c.swap_rows_by.new.a in
    let r = c.args.r in
    let x0 = c.split_rows-x.result.0 in
    let v0 = c.split_rows-x.result.1 in
    let x1 = c.solve_lower_left.new.b in
    let v1 = c.addmul.new.c in
    let s = c.put_back.new.self in
    let top : x0 ≡ upper S r = c.split_rows-x.ensures.above ∙ ap (λ (u : EWindow). upper u r) c.take.ensures.whole in
    let bottom : v0 ≡ lower S r = c.split_rows-x.ensures.below ∙ ap (λ (u : EWindow). lower u r) c.take.ensures.whole in
    let sum : Matrix = added (content v0) (product (e_shown c.narrow-2.result) (e_shown c.see.result)) in
    let within : r ≤ S.rows = let h = ap (λ (v : EWindow). v.rows) c.swap_rows_by.ensures in let q = c.requires.rank_rows in omega (arith, h, q) in
    stays_more w S s (content s) (stays_more w w S (reordered (swaps w.rows c.args.p.now) (content w)) refl c.swap_rows_by.ensures)
    (kept_joined S x1 v1 s r within
    (c.solve_lower_left.ensures.stays ∙ ap (λ (u : EWindow). showing u (content x1)) top)
    (stays_more v0 v0 v1 sum refl c.addmul.ensures.sum ∙ ap (λ (u : EWindow). showing u (content v1)) bottom)
    (c.put_back.ensures ∙ c.join_rows.ensures))

pub returns-clause-up : goal.returns-clause-up
returns-clause-up g c =
    let w = c.args.right.now in
    let S = c.swap_rows_by.new.a in
    let r = c.args.r in
    let W = e_shown c.args.left.now in
    let A2 = content w in
    let B = reordered (swaps w.rows c.args.p.now) A2 in
    let x0 = c.split_rows-x.result.0 in
    let v0 = c.split_rows-x.result.1 in
    let x1 = c.solve_lower_left.new.b in
    let v1 = c.addmul.new.c in
    let X = content x1 in
    let R = content v1 in
    let V = content c.put_back.new.self in
    let S_is : S ≡ showing w B = c.swap_rows_by.ensures in
    let S_matrix : IsMatrix B = subst (λ (u : EWindow). IsMatrix (content u)) S_is c.rows-rows_swapped.ensures.matrix in
    let in_right : r ≤ w.rows = c.requires.rank_rows in
    let in_left : r ≤ W.rows = let e = c.requires.rows in omega (arith, e, in_right) in
    let in_S : r ≤ S.rows = let h = ap (λ (u : EWindow). u.rows) S_is in omega (arith, h, in_right) in
    let x0_at : x0 ≡ upper S r = c.split_rows-x.ensures.above ∙ ap (λ (u : EWindow). upper u r) c.take.ensures.whole in
    let v0_at : v0 ≡ lower S r = c.split_rows-x.ensures.below ∙ ap (λ (u : EWindow). lower u r) c.take.ensures.whole in
    let x0_is : content x0 ≡ cut B 0 0 r A2.cols = ap content x0_at ∙ ap (λ (u : EWindow). content (upper u r)) S_is ∙ top_cut B r S_matrix in_right in
    let v0_is : content v0 ≡ cut B r 0 A2.rows A2.cols = ap content v0_at ∙ ap (λ (u : EWindow). content (lower u r)) S_is ∙ bottom_cut B r S_matrix in_right in
    let left_matrix : IsMatrix W = c.rows-rows_of_left.ensures.matrix in
    let triangle : e_shown c.narrow.result ≡ cut W 0 0 r r =
    c.narrow.ensures ∙ ap (λ (A : Matrix). record A { cols = r; entries = map (take r) A.entries }) c.split_rows.ensures.above
    ∙ shows_top_left W left_matrix r r in_left c.requires.rank_cols in
    let corner : e_shown c.narrow-2.result ≡ cut W r 0 W.rows r =
    c.narrow-2.ensures ∙ ap (λ (A : Matrix). record A { cols = r; entries = map (take r) A.entries }) c.split_rows.ensures.below
    ∙ shows_bottom_left W left_matrix r r in_left c.requires.rank_cols in
    let sum : Matrix = added (content v0) (product (e_shown c.narrow-2.result) (e_shown c.see.result)) in
    let v1_is : R ≡ added (cut B r 0 A2.rows A2.cols) (product (cut W r 0 W.rows r) X) =
    ap content c.addmul.ensures.sum ∙ (λ i. added (v0_is i) (product (corner i) (c.see.ensures i))) in
    let x1_at : x1 ≡ showing (upper S r) X = c.solve_lower_left.ensures.stays ∙ ap (λ (u : EWindow). showing u X) x0_at in
    let v1_at : v1 ≡ showing (lower S r) R = stays_more v0 v0 v1 sum refl c.addmul.ensures.sum ∙ ap (λ (u : EWindow). showing u R) v0_at in
    let V_is : V ≡ above X R = ap content (c.put_back.ensures ∙ c.join_rows.ensures)
    ∙ shown_above S x1 v1 r in_S c.rows-rows_solved.ensures.matrix c.rows-rows_added.ensures.matrix x1_at v1_at in
    let x_shape : HasShape w.field r w.cols X = record {
      is_matrix = c.rows-rows_solved.ensures.matrix;
      over = ap (λ (u : EWindow). u.field) x1_at ∙ ap (λ (u : EWindow). u.field) S_is;
      rows = ap (λ (u : EWindow). u.rows) x1_at;
      cols = ap (λ (u : EWindow). u.cols) x1_at ∙ ap (λ (u : EWindow). u.cols) S_is;
    } in
    let r_shape : HasShape w.field (S.rows - r) w.cols R = record {
      is_matrix = c.rows-rows_added.ensures.matrix;
      over = ap (λ (u : EWindow). u.field) v1_at ∙ ap (λ (u : EWindow). u.field) S_is;
      rows = ap (λ (u : EWindow). u.rows) v1_at;
      cols = ap (λ (u : EWindow). u.cols) v1_at ∙ ap (λ (u : EWindow). u.cols) S_is;
    } in
    let top_is : cut V 0 0 r V.cols ≡ X = joined_top V X R w.field r (S.rows - r) w.cols V_is x_shape r_shape in
    record {
      solved = ap (product (unit_lower (cut W 0 0 r r))) top_is
          ∙ ap (λ (T : Matrix). product (unit_lower T) X) (sym triangle) ∙ c.solve_lower_left.ensures.solved ∙ x0_is;
      rest = joined_bottom V X R w.field r (S.rows - r) w.cols V_is x_shape r_shape ∙ v1_is
          ∙ ap (λ (Y : Matrix). added (cut B r 0 A2.rows A2.cols) (product (cut W r 0 W.rows r) Y)) (sym top_is);
    }
