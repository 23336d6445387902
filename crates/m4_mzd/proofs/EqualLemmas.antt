-- Matrices that own their words are equal where all bits of their rows are.
use Rattle.std.proofs.Common.{◌≡◌, Bool, ℕ, ◌+◌, ◌-◌, ◌*◌, ◌/◌, ◌%◌, ◌^◌, ◌<◌, ◌≤◌, inl, inr, List, [], length, get_or, map, replicate, refl, sym, ◌∙◌, ap, subst, arith}
use Rattle.std.specs.Prelude.{nat_eq, ◌==◌, ◌&&◌}
use Rattle.std.specs.Bool.{Decides, one_answer}
use Rattle.std.specs.Cmp.Lexicographic.{pointwise, pointwise_decides}
use Rattle.std.proofs.lemmas.Bool.Decides.{Decides-eqb, Decides-and}
use Rattle.std.proofs.lemmas.Nat.Bits.{same_from_bits_below}
use Rattle.std.proofs.lemmas.Bool.{cases_lt}
use Rattle.std.proofs.lemmas.List.{length-map, length-replicate, get_or-map, get_or-drop, get_or-replicate, get_or_past}
use Rattle.std.proofs.lemmas.List.Elements.{All-get_or}
use Rattle.m4_model.specs.Matrix.{Matrix, IsMatrix, at}
use Rattle.m4_model.proofs.MatrixLemmas.{same_parts, same_matrix}
use Rattle.m4_bits.specs.Bits.{bit}
use Rattle.m4_area.specs.Rectangle.{Rectangle}
use Rattle.m4_area.specs.Rows.{row_of}
use Rattle.m4_mzd.specs.Equal.{are_equal}
use Rattle.m4_mzd.specs.Shown.{bits_of, bits_past}
use Rattle.m4_mzd.specs.Held.{held, IsHeld}
use Rattle.m4_mzd.proofs.BitRows.{get_or-bits_of}
use Rattle.m4_mzd.proofs.HeldLemmas.{IsMatrix_held, at_held}

-- matrices of one shape with the same entries
same_entries : (A B : Matrix) → IsMatrix A → IsMatrix B → A.field ≡ B.field → A.rows ≡ B.rows → A.cols ≡ B.cols
    → ((i j : ℕ) → i < A.rows → j < A.cols → at A i j ≡ at B i j) → A ≡ B
same_entries A B s t field rows cols same =
    same_matrix A.field A.rows A.cols (at B) A refl refl refl s.height s.width same
    ∙ sym (same_matrix A.field A.rows A.cols (at B) B (sym field) (sym rows) (sym cols) (t.height ∙ sym rows)
    (λ i below. t.width i (omega (arith, rows)) ∙ sym cols) (λ i j below within. refl))

get_or-zeros : (n i : ℕ) → ◌≡◌ {A = ℕ} (get_or (replicate n 0) i 0) 0
get_or-zeros n i = elim (cases_lt i n) [
  | inl below ↦ get_or-replicate n i 0 0 below
  | inr past ↦ get_or_past (replicate n 0) i 0 (omega (arith, length-replicate {A = ℕ} n 0))
]

-- the bits past the last column are 0
bit_of_padded : (v : Rectangle) (cols r j : ℕ) → IsHeld v cols → r < v.rows → cols ≤ j → bit (row_of v.words r) j ≡ 0
bit_of_padded v cols r j h below past =
    let words = row_of v.words r in
    let P : List ℕ → Type 0 = λ l. l ≡ replicate (length l) 0 in
    let high : r < length v.words = omega (arith, h.framed.shape.count) in
    let in_map : r < length (map (bits_past cols) v.words) = omega (arith, length-map v.words (bits_past cols)) in
    let zeros : bits_past cols words ≡ replicate (length (bits_past cols words)) 0 =
    subst P (get_or-map (bits_past cols) v.words r [] [] high) (All-get_or P (map (bits_past cols) v.words) r [] in_map h.padded) in
    let place : cols + (j - cols) ≡ j = omega arith in
    sym (get_or-bits_of words j) ∙ ap (λ k. get_or (bits_of words) k 0) (sym place) ∙ sym (get_or-drop cols (bits_of words) (j - cols) 0)
    ∙ ap (λ l. get_or l (j - cols) 0) zeros ∙ get_or-zeros (length (bits_past cols words)) (j - cols)

-- equal matrices have the same bits
pub same_bits : {v u : Rectangle} {m n : ℕ} {A B : Matrix} → held v m ≡ A → IsHeld v m → held u n ≡ B → IsHeld u n → A ≡ B
    → (r j : ℕ) → r < A.rows → bit (row_of v.words r) j ≡ bit (row_of u.words r) j
same_bits {v} {u} {m} {n} {A} {B} is h other k same r j below =
    let rows : v.rows ≡ A.rows = ap (λ (M : Matrix). M.rows) is in
    let cols : m ≡ A.cols = ap (λ (M : Matrix). M.cols) is in
    let their_rows : u.rows ≡ A.rows = ap (λ (M : Matrix). M.rows) other ∙ sym (ap (λ (M : Matrix). M.rows) same) in
    let their_cols : n ≡ A.cols = ap (λ (M : Matrix). M.cols) other ∙ sym (ap (λ (M : Matrix). M.cols) same) in
    elim (cases_lt j A.cols) [
      | inl within ↦
          sym (at_held v m r j A is h below within) ∙ ap (λ (M : Matrix). at M r j) same
          ∙ at_held u n r j B other k (omega (arith, ap (λ (M : Matrix). M.rows) same)) (omega (arith, ap (λ (M : Matrix). M.cols) same))
      | inr past ↦ bit_of_padded v m r j h (omega arith) (omega arith) ∙ sym (bit_of_padded u n r j k (omega arith) (omega arith))
    ]

-- matrices of one shape with the same bits are equal
pub same_from_bits : {v u : Rectangle} {m n : ℕ} {A B : Matrix} → held v m ≡ A → IsHeld v m → held u n ≡ B → IsHeld u n → A.rows ≡ B.rows → A.cols ≡ B.cols
    → ((r j : ℕ) → r < A.rows → bit (row_of v.words r) j ≡ bit (row_of u.words r) j) → A ≡ B
same_from_bits {v} {u} {m} {n} {A} {B} is h other k rows cols same =
    same_entries A B (IsMatrix_held v m A is h) (IsMatrix_held u n B other k)
    (sym (ap (λ (M : Matrix). M.field) is) ∙ ap (λ (M : Matrix). M.field) other) rows cols (λ i j below within.
    at_held v m i j A is h below within ∙ same i j below ∙ sym (at_held u n i j B other k (omega (arith, rows)) (omega (arith, cols))))

-- the test of matrices over one field decides whether they are equal
pub Decides-are_equal : (A B : Matrix) → A.field ≡ B.field → Decides (are_equal A B) (A ≡ B)
Decides-are_equal A B field =
    let both = Decides-and (A.rows == B.rows) ((A.cols == B.cols) && pointwise (pointwise nat_eq) A.entries B.entries) (Decides-eqb A.rows B.rows)
    (Decides-and (A.cols == B.cols) (pointwise (pointwise nat_eq) A.entries B.entries) (Decides-eqb A.cols B.cols)
    (pointwise_decides (pointwise_decides Decides-eqb) A.entries B.entries)) in (
      λ yes. let parts = both.0 yes in same_parts A B field parts.0 parts.1.0 parts.1.1,
      λ same. both.1 (ap (λ (M : Matrix). M.rows) same, (ap (λ (M : Matrix). M.cols) same, ap (λ (M : Matrix). M.entries) same)),
    )

-- words with the same bits
pub same_words : (a b : List ℕ) (k : ℕ) → get_or a k 0 < 2 ^ 64 → get_or b k 0 < 2 ^ 64 → ((j : ℕ) → bit a j ≡ bit b j) → get_or a k 0 ≡ get_or b k 0
same_words a b k small other same =
    same_from_bits_below 64 (get_or a k 0) (get_or b k 0) small other (λ i below.
    let word : (k * 64 + i) / 64 ≡ k = omega arith in
    let place : (k * 64 + i) % 64 ≡ i = omega arith in
    rw (word, place) at (same (k * 64 + i)))

pub told : (A B : Matrix) (r : Bool) → A.field ≡ B.field → Decides r (A ≡ B) → r ≡ are_equal A B
told A B r field says = one_answer r (are_equal A B) says (Decides-are_equal A B field)
