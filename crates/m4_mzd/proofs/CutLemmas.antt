-- A rectangle of a matrix, cut out of its rows.
use Rattle.std.proofs.Common.{◌≡◌, ℕ, ◌+◌, ◌-◌, ◌/◌, ◌%◌, ◌<◌, List, [], ◌∷◌, length, get_or, take, drop, map, refl, sym, ◌∙◌, ap, subst, arith}
use Rattle.std.proofs.lemmas.List.{length-map, length-take-le, length-drop, get_or-map, get_or-take, get_or-drop, take-map, drop-map}
use Rattle.m4_model.specs.Matrix.{Matrix, IsMatrix, at, row}
use Rattle.m4_model.specs.Shapes.{cut}
use Rattle.m4_model.specs.Text.{words_per_row}
use Rattle.m4_model.proofs.MatrixLemmas.{same_parts, same_matrix}
use Rattle.m4_area.specs.Rectangle.{Rectangle}
use Rattle.m4_mzd.specs.Window.{content}
use Rattle.m4_mzd.specs.Shown.{window, bits_within}
use Rattle.m4_mzd.specs.Held.{held, IsHeld}
use Rattle.m4_mzd.specs.Around.{words_of_rect}
use Rattle.m4_mzd.proofs.PartLemmas.{narrow_within, right_within}
use Rattle.m4_mzd.proofs.HeldLemmas.{IsMatrix_held}
use Rattle.m4_mzd.specs.Rectangles.{IsInside}
use Rattle.m4_mzd.specs.declared.rect.Rect.{Rect}

abbrev pub cut_out : Matrix → ℕ → ℕ → ℕ → ℕ → Matrix
cut_out A r0 c0 r1 c1 = record A {
  rows = r1 - r0;
  cols = c1 - c0;
  entries = map (take (c1 - c0)) (map (drop c0) (drop r0 (take r1 A.entries)));
}

pub cut_out-is : (A : Matrix) (rect : Rect) → IsMatrix A → IsInside rect A.rows A.cols → cut_out A rect.r0 rect.c0 rect.r1 rect.c1 ≡ cut A rect.r0 rect.c0 rect.r1 rect.c1
cut_out-is A rect m inside =
    let r0 = rect.r0 in
    let c0 = rect.c0 in
    let h = rect.r1 - r0 in
    let n = rect.c1 - c0 in
    let rows = drop r0 (take rect.r1 A.entries) in
    let high : length rows ≡ h = omega (arith, length-drop r0 (take rect.r1 A.entries), length-take-le rect.r1 A.entries (omega (arith, m.height, inside.in_rows))) in
    let row_is : (i : ℕ) → i < h → get_or (map (take n) (map (drop c0) rows)) i [] ≡ take n (drop c0 (row A (r0 + i))) =
    λ i below.
    get_or-map (take n) (map (drop c0) rows) i [] [] (omega (arith, length-map rows (drop c0), high))
    ∙ ap (take n) (get_or-map (drop c0) rows i [] [] (omega (arith, high))
    ∙ ap (drop c0) (get_or-drop r0 (take rect.r1 A.entries) i [] ∙ get_or-take rect.r1 A.entries (r0 + i) [] (omega arith))) in
    let row_long : (i : ℕ) → i < h → length (row A (r0 + i)) ≡ A.cols = λ i below. m.width (r0 + i) (omega (arith, inside.in_rows)) in
    same_matrix A.field h n (λ i j. at A (r0 + i) (c0 + j)) (cut_out A r0 c0 rect.r1 rect.c1) refl refl refl
    (length-map (map (drop c0) rows) (take n) ∙ (length-map rows (drop c0) ∙ high))
    (λ i below. ap length (row_is i below)
    ∙ length-take-le n (drop c0 (row A (r0 + i))) (omega (arith, length-drop c0 (row A (r0 + i)), row_long i below, inside.in_cols)))
    (λ i j below within. ap (λ l. get_or l j 0) (row_is i below)
    ∙ (get_or-take n (drop c0 (row A (r0 + i))) j 0 within ∙ get_or-drop c0 (row A (r0 + i)) j 0))

map_thrice : {A B C D E : Type 0} (h : A → B) (k : B → C) (f : C → E) (g : A → D) (l : D → D) (m : D → E) → ((x : A) → f (k (h x)) ≡ m (l (g x)))
    → (xs : List A) → map f (map k (map h xs)) ≡ map m (map l (map g xs))
map_thrice h k f g l m same [] = refl
map_thrice h k f g l m same (x ∷ xs) = λ i. same x i ∷ map_thrice h k f g l m same xs i

-- the window over a rectangle of a matrix shows that part of it
cut_held : (v : Rectangle) (cols : ℕ) (rect : Rect) → IsHeld v cols → IsInside rect v.rows cols → rect.c0 % 64 ≡ 0
    → content (window (words_of_rect v rect) (rect.c1 - rect.c0)) ≡ cut (held v cols) rect.r0 rect.c0 rect.r1 rect.c1
cut_held v cols rect h inside whole =
    let n = rect.c1 - rect.c0 in
    let rows = drop rect.r0 (take rect.r1 v.words) in
    let one : (ws : List ℕ) → bits_within n (take (words_per_row n) (drop (rect.c0 / 64) ws)) ≡ take n (drop rect.c0 (bits_within cols ws)) =
    λ ws.
    narrow_within n (cols - rect.c0) (drop (rect.c0 / 64) ws) (omega (arith, inside.in_cols, inside.in_order_across))
    ∙ ap (take n) (right_within rect.c0 cols ws (omega (arith, inside.in_cols, inside.in_order_across)) whole) in
    let all : map (bits_within n) (words_of_rect v rect).words ≡ map (take n) (map (drop rect.c0) (drop rect.r0 (take rect.r1 (held v cols).entries))) =
    map_thrice (drop (rect.c0 / 64)) (take (words_per_row n)) (bits_within n) (bits_within cols) (drop rect.c0) (take n) one rows
    ∙ ap (λ l. map (take n) (map (drop rect.c0) l)) (sym (drop-map (bits_within cols) rect.r0 (take rect.r1 v.words)) ∙ ap (drop rect.r0) (sym (take-map (bits_within cols) rect.r1 v.words))) in
    same_parts (content (window (words_of_rect v rect) n)) (cut_out (held v cols) rect.r0 rect.c0 rect.r1 rect.c1) refl (omega (arith, inside.in_order)) refl all
    ∙ cut_out-is (held v cols) rect (IsMatrix_held v cols (held v cols) refl h) inside

pub cut_content : (v : Rectangle) (cols : ℕ) (rect : Rect) (A : Matrix) (part : Rectangle) → held v cols ≡ A → IsHeld v cols → IsInside rect A.rows A.cols → rect.c0 % 64 ≡ 0
    → part ≡ words_of_rect v rect → content (window part (rect.c1 - rect.c0)) ≡ cut A rect.r0 rect.c0 rect.r1 rect.c1
cut_content v cols rect A part is h inside whole e =
    let P : Matrix → Type 0 = λ B. IsInside rect B.rows B.cols → content (window part (rect.c1 - rect.c0)) ≡ cut B rect.r0 rect.c0 rect.r1 rect.c1 in
    subst P is (λ within. ap (λ w. content (window w (rect.c1 - rect.c0))) e ∙ cut_held v cols rect h within whole) inside
