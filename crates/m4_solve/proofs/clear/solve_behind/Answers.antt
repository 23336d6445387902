use Rattle.std.proofs.Common.{◌≡◌, ◌-◌, ℕ, refl, sym, ◌∙◌, ap, subst, arith}
use Rattle.m4_model.specs.Matrix.{IsMatrix, HasShape}
use Rattle.m4_model.specs.Shapes.{beside}
use Rattle.m4_model.proofs.FieldProofs.{field_laws}
use Rattle.m4_mzed.specs.EWindow.{EWindow, content, showing}
use Rattle.m4_mzed.specs.ESeen.{e_shown}
use Rattle.m4_trsm.proofs.Windows.{before, behind, shown_beside, parted_beside, left_shape, right_shape}
use Rattle.m4_eple.proofs.HalvesLemmas.{kept_paired}
use Rattle.m4_solve.proofs.Behind.{IsSolvedBehind, is_solved_behind}
use Rattle.m4_solve.proofs.clear.solve_behind.Given.{Over}
use Rattle.m4_solve.proofs.clear.solve_behind.Goals.{After-put_back}
use Rattle.m4_solve.proofs.clear.solve_behind.Goals as goal

pub returns-clause-kept : goal.returns-clause-kept
returns-clause-kept g c =
    let w = c.args.a.now in
    let k = c.args.done in
    let l1 = c.set_units.new.a in
    let r1 = c.solve_in_window.new.y in
    let l0_at = c.split_cols-left.ensures.left ∙ ap (λ (u : EWindow). before u k) c.take.ensures.whole in
    let r0_at = c.split_cols-left.ensures.right ∙ ap (λ (u : EWindow). behind u k) c.take.ensures.whole in
    kept_paired w l1 r1 c.put_back.new.self k c.requires.in_cols
    (c.set_units.ensures.kept ∙ ap (λ (u : EWindow). showing u (content l1)) l0_at)
    (c.solve_in_window.ensures.kept ∙ ap (λ (u : EWindow). showing u (content r1)) r0_at)
    (c.put_back.ensures ∙ c.join_cols.ensures)

-- what the window holds once its parts are joined again
solved_behind : (g : Over) → (c : After-put_back g)
    → IsSolvedBehind c.args.a.now.field (e_shown c.args.t.now).rows c.args.a.now.rows c.args.done (c.args.a.now.cols - c.args.done) (e_shown c.args.t.now)
    (content c.args.a.now) (content c.set_units.new.a) (content c.put_back.new.self)
solved_behind g c =
    let w = c.args.a.now in
    let k = c.args.done in
    let l0 = c.split_cols-left.result.0 in
    let r0 = c.split_cols-left.result.1 in
    let l1 = c.set_units.new.a in
    let r1 = c.solve_in_window.new.y in
    let S = c.put_back.new.self in
    let T = e_shown c.args.t.now in
    let l0_at : l0 ≡ before w k = c.split_cols-left.ensures.left ∙ ap (λ (u : EWindow). before u k) c.take.ensures.whole in
    let r0_at : r0 ≡ behind w k = c.split_cols-left.ensures.right ∙ ap (λ (u : EWindow). behind u k) c.take.ensures.whole in
    let l1_at : l1 ≡ showing (before w k) (content l1) = c.set_units.ensures.kept ∙ ap (λ (u : EWindow). showing u (content l1)) l0_at in
    let r1_at : r1 ≡ showing (behind w k) (content r1) = c.solve_in_window.ensures.kept ∙ ap (λ (u : EWindow). showing u (content r1)) r0_at in
    let s = c.cols-left_set.ensures.matrix in
    let x = c.cols-right_solved.ensures.matrix in
    let rows = ap (λ (u : EWindow). u.rows) l0_at in
    let rows_behind = ap (λ (u : EWindow). u.rows) r0_at in
    let cols = ap (λ (u : EWindow). u.cols) l0_at in
    let cols_behind = ap (λ (u : EWindow). u.cols) r0_at in
    let in_cols = c.requires.in_cols in
    let l0_is : IsMatrix (content (before w k)) = subst (λ (u : EWindow). IsMatrix (content u)) l0_at c.cols-left.ensures.matrix in
    let r0_is : IsMatrix (content (behind w k)) = subst (λ (u : EWindow). IsMatrix (content u)) r0_at c.cols-right.ensures.matrix in
    let old : beside (content l0) (content r0) ≡ content w
    = (λ i. beside (content (l0_at i)) (content (r0_at i))) ∙ parted_beside w k in_cols l0_is r0_is in
    let new : content S ≡ beside (content l1) (content r1) = ap content (c.put_back.ensures ∙ c.join_cols.ensures) ∙ shown_beside w l1 r1 k s x l1_at r1_at in
    let own : (v : EWindow) → IsMatrix (content v) → v.field ≡ w.field → v.rows ≡ w.rows → (n : ℕ) → v.cols ≡ n → HasShape w.field w.rows n (content v)
    = λ v is over high n wide. record { is_matrix = is; over = over; rows = high; cols = wide } in
    let t : HasShape w.field T.rows T.rows T
    = record { is_matrix = c.rows-rows_of_t.ensures.matrix; over = c.requires.field; rows = refl; cols = sym c.requires.square } in
    let l0_shape = own l0 c.cols-left.ensures.matrix (ap (λ (u : EWindow). u.field) l0_at) rows k cols in
    let r0_shape = own r0 c.cols-right.ensures.matrix (ap (λ (u : EWindow). u.field) r0_at) rows_behind (w.cols - k) cols_behind in
    is_solved_behind w.field (field_laws w.field c.rows-rows.ensures.matrix.over_field) T.rows w.rows k (w.cols - k) T (content w) (content l1) (content r0) (content r1) (content S) t
    (left_shape w l1 r1 k s x l1_at r1_at) r0_shape (right_shape w l1 r1 k s x l1_at r1_at) (content l0) l0_shape c.requires.within old new c.solve_in_window.ensures.solved
    (λ i j past low within. c.solve_in_window.ensures.rest i j past (omega (arith, low, rows_behind)) (omega (arith, within, cols_behind)))

pub returns-clause-units : goal.returns-clause-units
returns-clause-units g c i j low inside =
    let parts = solved_behind g (goal.at.returns-clause-units g c).After-put_back in
    let left = c.split_cols-left.ensures.left ∙ ap (λ (u : EWindow). before u c.args.done) c.take.ensures.whole in
    let rows = ap (λ (u : EWindow). u.rows) left in
    let cols = ap (λ (u : EWindow). u.cols) left in
    parts.before i j low inside ∙ c.set_units.ensures.units i j (omega (arith, low, rows)) (omega (arith, inside, cols))

pub returns-clause-solved : goal.returns-clause-solved
returns-clause-solved g c i j below from inside =
    let in_cols = c.requires.in_cols in
    (solved_behind g (goal.at.returns-clause-solved g c).After-put_back).solved i j below from (omega (arith, inside, in_cols))

pub returns-clause-rest : goal.returns-clause-rest
returns-clause-rest g c i j past low from inside =
    let in_cols = c.requires.in_cols in
    (solved_behind g (goal.at.returns-clause-rest g c).After-put_back).rest i j past low from (omega (arith, inside, in_cols))
