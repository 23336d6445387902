-- A rectangle of a matrix that was taken out as a window, written whole, and put back.
use Rattle.std.proofs.Common.{◌≡◌, ◌-◌, sym, subst, ◌∙◌, ap}
use Rattle.m4_model.specs.Field.{gf2}
use Rattle.m4_model.specs.Matrix.{Matrix}
use Rattle.m4_model.specs.Shapes.{cut, replace}
use Rattle.m4_mzd.specs.Window.{Window, content, showing}
use Rattle.m4_mzd.specs.Around.{IsAround}
use Rattle.m4_mzd.specs.declared.rect.Rect.{Rect}
use Rattle.m4_mzd.specs.declared.mzd.around.Around.{Around}

-- what was written into a window that was taken out
pub still_around : (around : Around) (part new : Window) (rect : Rect) (A S : Matrix)
    → ((B : Matrix) → IsAround around (showing part B) rect A) → new ≡ showing part S → IsAround around new rect A
still_around around part new rect A S whatever is =
    let P : Window → Type 0 = λ w. IsAround around w rect A in subst P (sym is) (whatever S)

-- the matrix then has it in the place of the rectangle
pub replaced_by : (part new : Window) (rect : Rect) (A S now : Matrix) → S.field ≡ gf2 → rect.r1 - rect.r0 ≡ S.rows → rect.c1 - rect.c0 ≡ S.cols
    → content part ≡ cut A rect.r0 rect.c0 rect.r1 rect.c1 → new ≡ showing part S
    → now ≡ replace A rect.r0 rect.c0 (content new) → now ≡ replace A rect.r0 rect.c0 S
replaced_by part new rect A S now field rows cols taken is put =
    let rows_same : part.rows ≡ S.rows = ap (λ (B : Matrix). B.rows) taken ∙ rows in
    let cols_same : part.cols ≡ S.cols = ap (λ (B : Matrix). B.cols) taken ∙ cols in
    let shows : content new ≡ S =
    ap content is ∙ (λ i. record { field = sym field i; rows = rows_same i; cols = cols_same i; entries = S.entries }) in
    put ∙ ap (replace A rect.r0 rect.c0) shows
