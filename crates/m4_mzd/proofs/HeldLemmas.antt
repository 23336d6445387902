-- A matrix that owns its words: what it is, and what it is once one of its rows is written.
use Rattle.std.proofs.Common.{rules, ◌≡◌, ℕ, zero, suc, ◌+◌, ◌-◌, ◌*◌, ◌<◌, ◌≤◌, List, [], ◌∷◌, length, get_or, take, drop, map, replicate, refl, sym, ◌∙◌, ap, subst, arith}
use Rattle.std.specs.List.{All}
use Rattle.std.proofs.Math.Nat.{suc-mul}
use Rattle.std.proofs.lemmas.List.{nil_from_length, length-replicate, take-replicate, drop-replicate, get_or-replicate, get_or-drop, ext_get_or}
use Rattle.std.proofs.lemmas.List.Elements.{All-from_get_or}
use Rattle.m4_model.specs.Field.{gf2}
use Rattle.m4_model.specs.Matrix.{Matrix, IsMatrix, at, row, with_row, zero_matrix}
use Rattle.m4_model.proofs.MatrixLemmas.{same_parts, same_table}
use Rattle.m4_bits.specs.Bits.{bit}
use Rattle.m4_area.specs.Rectangle.{Rectangle, HasShape}
use Rattle.m4_area.specs.Rows.{row_of}
use Rattle.m4_area.specs.Rows as rows
use Rattle.m4_area.specs.Storage.{rows_of}
use Rattle.m4_bits.proofs.OverlaidLemmas.{bit-zeros}
use Rattle.m4_mzd.specs.Window.{content}
use Rattle.m4_mzd.specs.Shown.{window, bits_of, bits_within, bits_past}
use Rattle.m4_mzd.specs.Held.{held, IsHeld, IsPadded}
use Rattle.m4_mzd.proofs.BitRows.{get_or-bits_of, within_written}
use Rattle.m4_mzd.proofs.WindowLemmas.{IsWindow_shown, at_window, framed_row}
use Rattle.m4_mzd.proofs.WriteLemmas.{Holds, Wrote, holds_own, row_written}

pub IsMatrix_held : (v : Rectangle) (cols : ℕ) (A : Matrix) → held v cols ≡ A → IsHeld v cols → IsMatrix A
IsMatrix_held v cols A is h = subst IsMatrix is (IsWindow_shown v cols (window v cols) refl h.framed).matrix

pub at_held : (v : Rectangle) (cols r c : ℕ) (A : Matrix) → held v cols ≡ A → IsHeld v cols → r < A.rows → c < A.cols → at A r c ≡ bit (row_of v.words r) c
at_held v cols r c A is h =
    let P : Matrix → Type 0 = λ B. r < B.rows → c < B.cols → at B r c ≡ bit (row_of v.words r) c in
    subst P is (at_window v cols r c h.framed)

-- a row of the matrix, as a row of words
pub holds_held : (v : Rectangle) (cols r : ℕ) (old : List ℕ) (A : Matrix) → held v cols ≡ A → IsHeld v cols → r < A.rows → old ≡ row_of v.words r → Holds cols old (row A r)
holds_held v cols r old A is h =
    let P : Matrix → Type 0 = λ B. r < B.rows → old ≡ row_of v.words r → Holds cols old (row B r) in
    subst P is (λ below was. holds_own v cols r old (window v cols) refl h.framed below was)

-- once a row of its words was written, the matrix is one still, and which it is
pub held_written : {v : Rectangle} {cols r : ℕ} {old new entries : List ℕ} {A : Matrix} → held v cols ≡ A → IsHeld v cols → r < A.rows → old ≡ row_of v.words r
    → (Holds cols old (row A r) → Wrote cols old new entries)
    → IsHeld (record v { words = rows.with_row v.words r new }) cols × (held (record v { words = rows.with_row v.words r new }) cols ≡ with_row A r entries)
held_written {v} {cols} {r} {old} {new} {entries} {A} is h below was writes =
    let wrote : Wrote cols old new entries = writes (holds_held v cols r old A is h below was) in
    let P : Matrix → Type 0 = λ B. r < B.rows
    → IsHeld (record v { words = rows.with_row v.words r new }) cols × (held (record v { words = rows.with_row v.words r new }) cols ≡ with_row B r entries) in
    subst P is (λ below.
    let written = row_written v cols r old new entries (window v cols) refl h.framed below was wrote in
    (record { framed = framed_row v cols r new (window v cols) refl h.framed below; padded = subst IsPadded (sym written) h.padded }, ap content written)) below

-- a matrix of no rows and no columns
pub held_none : (v : Rectangle) → HasShape v → v.rows ≡ 0 → v.width ≡ 0 → IsHeld v 0
held_none v shape no_rows no_width =
    let none : v.words ≡ [] = nil_from_length v.words (shape.count ∙ no_rows) in
    record {
      framed = record { shape = shape; wide = no_width; few_rows = omega arith; few_cols = omega arith };
      padded = subst (λ ws. All (λ row. row ≡ replicate (length row) 0) (map (bits_past 0) ws)) (sym none) (search rules);
    }

-- rows of words that are 0
rows_of_zeros : (n w m : ℕ) → m ≡ n * w → rows_of n w (replicate m 0) ≡ replicate n (replicate w 0)
unfolding rows_of
rows_of_zeros zero w m all = refl
rows_of_zeros (suc n) w m all =
    let enough : w ≤ m = omega (arith, suc-mul n w) in
    let left : m - w ≡ n * w = omega (arith, suc-mul n w) in
    let first : take w (replicate m 0) ≡ replicate w 0 = take-replicate w m 0 enough in
    let rest : rows_of n w (drop w (replicate m 0)) ≡ replicate n (replicate w 0) =
    ap (rows_of n w) (drop-replicate w m 0) ∙ rows_of_zeros n w (m - w) left in
    λ i. first i ∷ rest i

map_replicate : {A B : Type 0} (f : A → B) (n : ℕ) (x : A) → map f (replicate n x) ≡ replicate n (f x)
map_replicate f zero x = refl
map_replicate f (suc n) x = ap (λ l. f x ∷ l) (map_replicate f n x)

within_zeros : (cols w : ℕ) → cols ≤ w * 64 → bits_within cols (replicate w 0) ≡ replicate cols 0
within_zeros cols w enough =
    within_written cols (replicate w 0) (replicate cols 0) (omega (arith, length-replicate {A = ℕ} w 0)) (length-replicate cols 0)
    (λ j inside. bit-zeros w j ∙ sym (get_or-replicate cols j 0 0 inside))

past_zeros : (cols w : ℕ) → bits_past cols (replicate w 0) ≡ replicate (length (bits_past cols (replicate w 0))) 0
past_zeros cols w =
    let past = bits_past cols (replicate w 0) in
    ext_get_or 0 past (replicate (length past) 0) (sym (length-replicate (length past) 0)) (λ j inside.
    get_or-drop cols (bits_of (replicate w 0)) j 0 ∙ get_or-bits_of (replicate w 0) (cols + j) ∙ bit-zeros w (cols + j)
    ∙ sym (get_or-replicate (length past) j 0 0 inside))

-- the words of a new matrix
pub new_rows : (n w : ℕ) (items : List ℕ) (rows : List (List ℕ)) → rows ≡ rows_of n w items → items ≡ replicate (n * w) 0 → rows ≡ replicate n (replicate w 0)
new_rows n w items rows is zeros = is ∙ ap (rows_of n w) zeros ∙ rows_of_zeros n w (n * w) refl

pub padded_zeros : (v : Rectangle) (n w cols : ℕ) → v.words ≡ replicate n (replicate w 0) → IsPadded (window v cols)
padded_zeros v n w cols is =
    let past : (window v cols).past ≡ replicate n (bits_past cols (replicate w 0)) = ap (map (bits_past cols)) is ∙ map_replicate (bits_past cols) n (replicate w 0) in
    subst (All (λ row. row ≡ replicate (length row) 0)) (sym past)
    (All-from_get_or (λ row. row ≡ replicate (length row) 0) (replicate n (bits_past cols (replicate w 0))) [] (λ i below.
    let within : i < n = omega (arith, length-replicate n (bits_past cols (replicate w 0))) in
    subst (λ row. row ≡ replicate (length row) 0) (sym (get_or-replicate n i (bits_past cols (replicate w 0)) [] within)) (past_zeros cols w)))

pub held_zeros : (v : Rectangle) (n w cols : ℕ) → v.rows ≡ n → v.words ≡ replicate n (replicate w 0) → cols ≤ w * 64 → held v cols ≡ zero_matrix gf2 n cols
held_zeros v n w cols rows is enough =
    same_parts (held v cols) (zero_matrix gf2 n cols) refl rows refl
    (ap (map (bits_within cols)) is ∙ map_replicate (bits_within cols) n (replicate w 0) ∙ ap (replicate n) (within_zeros cols w enough)
    ∙ same_table n cols (λ i j. 0) (replicate n (replicate cols 0)) (length-replicate n (replicate cols 0))
    (λ i below. ap length (get_or-replicate n i (replicate cols 0) [] below) ∙ length-replicate cols 0)
    (λ i j below within. ap (λ row. get_or row j 0) (get_or-replicate n i (replicate cols 0) [] below) ∙ get_or-replicate cols j 0 0 within))
