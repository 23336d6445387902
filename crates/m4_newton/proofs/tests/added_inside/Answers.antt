use Rattle.std.proofs.Common.{◌≡◌, sym, subst, ap, ◌∙◌}
use Rattle.m4_model.specs.Matrix.{Matrix, added, product}
use Rattle.m4_mzd.specs.declared.rect.Rect.{Rect}
use Rattle.m4_mzed.specs.ESeen.{e_shown}
use Rattle.m4_mzed.specs.EWindow.{EWindow, content}
use Rattle.m4_mzed.specs.Taken.{IsAround}
use Rattle.m4_newton.proofs.tests.added_inside.Goals as goal

abbrev place : Rect
place = record { r0 = 0; c0 = 8; r1 = 1; c1 = 10 }

pub put_win-requires : goal.put_win-requires
put_win-requires c =
    let P : EWindow → Type 0 = λ w. IsAround c.win_mut-part.result.1 w place c.in_ok-c.c in
    let sum : Matrix = added (content c.win_mut-part.result.0) (product (e_shown c.all.result) (e_shown c.all-2.result)) in
    record { fits = record { rect = place; matrix = c.in_ok-c.c; is = subst P (sym c.addmul.ensures.sum) (c.win_mut-part.ensures.whatever_it_shows sum) } }

pub returns : goal.returns
returns c =
    let P : EWindow → Type 0 = λ w. IsAround c.win_mut-part.result.1 w place c.in_ok-c.c in
    let sum : Matrix = added (content c.win_mut-part.result.0) (product (e_shown c.all.result) (e_shown c.all-2.result)) in
    let is = c.put_win.ensures place c.in_ok-c.c (subst P (sym c.addmul.ensures.sum) (c.win_mut-part.ensures.whatever_it_shows sum)) in
    (ap (λ (A : Matrix). A.rows) is ∙ ap (λ (A : Matrix). A.rows) c.in_ok-c.ensures, ap (λ (A : Matrix). A.cols) is ∙ ap (λ (A : Matrix). A.cols) c.in_ok-c.ensures)
