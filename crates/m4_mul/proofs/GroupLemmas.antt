-- The entries of several tables added to a row are the terms of the product for their columns.
use Rattle.std.proofs.Common.{◌≡◌, ℕ, zero, suc, ◌+◌, ◌*◌, ◌^◌, ◌<◌, ◌≤◌, min, inl, inr, List, [], ◌∷◌, length, get_or, set, map, lit<, refl, sym, subst, ◌∙◌, ap, arith, bit_xor}
use Rattle.std.specs.List.{range_with_len}
use Rattle.std.specs.Int.{bit_at}
use Rattle.std.specs.Int.Bits.{xor_assoc, xor_zero_l, xor_zero_r}
use Rattle.std.proofs.Math.Nat.{pow-le-pow_right}
use Rattle.std.proofs.lemmas.Bool.{cases_lt, cases_eq}
use Rattle.std.proofs.lemmas.List.{get_or-set_same, get_or-set_other}
use Rattle.m4_model.specs.Field.{Field, gf2, sum_below, mul}
use Rattle.m4_model.specs.Matrix.{Matrix, IsMatrix, row, at, row_sum}
use Rattle.m4_model.proofs.FieldLemmas.{mul_gf2, sum_below-same}
use Rattle.m4_model.proofs.SumLemmas.{sum_below-split}
use Rattle.m4_model.proofs.MatrixLemmas.{length-row-table, at-table}
use Rattle.m4_bits.proofs.BitsLemmas.{length-row_sum, get_or-row_sum}
use Rattle.m4_mzd.specs.Rows.{sum_of}
use Rattle.m4_gray.specs.Slots.{Slots, IsSlots, entry, picked, filled, subset_sum, subset_sums}
use Rattle.m4_gray.proofs.SlotLemmas.{room-in_slot}
use Rattle.m4_gray.proofs.EntryLemmas.{entry-filled_same, entry-filled_other}
use Rattle.m4_mul.specs.Parts.{part_of_entry, slot_bits, IsFilled, IsIndex}

-- ---- the columns of all slots, slot by slot
pub sum-slots : (g : ℕ → ℕ) (k width n : ℕ)
    → sum_below n (λ s. sum_below (slot_bits k width s) (λ u. g (s * k + u))) ≡ sum_below (min (n * k) width) g
unfolding sum_below
sum-slots g k width zero = let none : 0 ≡ min (0 * k) width = omega arith in ap (λ m. sum_below m g) none
sum-slots g k width (suc n) =
    ap (λ x. bit_xor x (sum_below (slot_bits k width n) (λ u. g (n * k + u)))) (sum-slots g k width n)
    ∙ elim (cases_lt width (n * k)) [
      | inl past ↦
          let none : slot_bits k width n ≡ 0 = omega (arith, past) in
          let same : min (n * k) width ≡ min (suc n * k) width = omega (arith, past) in
          ap (λ m. bit_xor (sum_below (min (n * k) width) g) (sum_below m (λ u. g (n * k + u)))) none
          ∙ xor_zero_r (sum_below (min (n * k) width) g) ∙ ap (λ m. sum_below m g) same
      | inr within ↦
          let before : min (n * k) width ≡ n * k = omega (arith, within) in
          let all : n * k + slot_bits k width n ≡ min (suc n * k) width = omega (arith, within) in
          ap (λ m. bit_xor (sum_below m g) (sum_below (slot_bits k width n) (λ u. g (n * k + u)))) before
          ∙ sym (sum_below-split (n * k) (slot_bits k width n) g) ∙ ap (λ m. sum_below m g) all
    ]

-- ---- rows that are added to one, by the entry
-- each of so many rows has a length
abbrev pub AreLong : ℕ → ℕ → (ℕ → List ℕ) → Type 0
AreLong long n f = (s : ℕ) → s < n → length (f s) ≡ long

pub length-sum_of : (xs : List ℕ) (rows : List (List ℕ)) → length (sum_of xs rows) ≡ length xs
length-sum_of xs [] = refl
length-sum_of xs (y ∷ ys) = length-sum_of (row_sum xs y) ys ∙ length-row_sum xs y

sum_of-from : (xs : List ℕ) (f : ℕ → List ℕ) (a n j : ℕ) → ((s : ℕ) → s < n → length (f (a + s)) ≡ length xs)
    → get_or (sum_of xs (map f (range_with_len a n))) j 0 ≡ bit_xor (get_or xs j 0) (sum_below n (λ s. get_or (f (a + s)) j 0))
unfolding sum_below
sum_of-from xs f a zero j long = sym (xor_zero_r (get_or xs j 0))
sum_of-from xs f a (suc n) j long =
    let here : a + 0 ≡ a = omega arith in
    let same : length xs ≡ length (f a) = sym (ap (λ m. length (f m)) (sym here) ∙ long 0 (omega arith)) in
    let next : (s : ℕ) → a + (1 + s) ≡ a + 1 + s = λ s. omega arith in
    let rest : (s : ℕ) → s < n → length (f (a + 1 + s)) ≡ length (row_sum xs (f a)) =
    λ s below. ap (λ m. length (f m)) (sym (next s)) ∙ long (1 + s) (omega (arith, below)) ∙ sym (length-row_sum xs (f a)) in
    let g = λ (s : ℕ). get_or (f (a + s)) j 0 in
    let one_more : suc n ≡ 1 + n = omega arith in
    sum_of-from (row_sum xs (f a)) f (a + 1) n j rest
    ∙ ap (λ x. bit_xor x (sum_below n (λ s. get_or (f (a + 1 + s)) j 0))) (get_or-row_sum xs (f a) j same)
    ∙ xor_assoc (get_or xs j 0) (get_or (f a) j 0) (sum_below n (λ s. get_or (f (a + 1 + s)) j 0))
    ∙ ap (bit_xor (get_or xs j 0))
    ((λ i. bit_xor (get_or (f (sym here i)) j 0) (sum_below n (λ s. get_or (f (sym (next s) i)) j 0)))
    ∙ ap (λ x. bit_xor x (sum_below n (λ s. g (1 + s)))) (sym (xor_zero_l (g 0)))
    ∙ sym (ap (λ m. sum_below m g) one_more ∙ sum_below-split 1 n g))

pub get_or-sum_of : (xs : List ℕ) (f : ℕ → List ℕ) (n j : ℕ) → AreLong (length xs) n f
    → get_or (sum_of xs (map f (range_with_len 0 n))) j 0 ≡ bit_xor (get_or xs j 0) (sum_below n (λ s. get_or (f s) j 0))
get_or-sum_of xs f n j long =
    let zero_more : (s : ℕ) → 0 + s ≡ s = λ s. omega arith in
    sum_of-from xs f 0 n j (λ s below. ap (λ m. length (f m)) (zero_more s) ∙ long s below)
    ∙ (λ i. bit_xor (get_or xs j 0) (sum_below n (λ s. get_or (f (zero_more s i)) j 0)))

abbrev degree_of : Field → ℕ
degree_of F = F.degree

-- ---- the entry of a slot that stands for a row of A
module _ (t : Slots) (A B : Matrix) (i first width slots : ℕ) (index : List ℕ)
    (full : IsFilled t B first width slots) (is : IsIndex index A i first width t.k slots)
    (matrix_a : IsMatrix A) (matrix_b : IsMatrix B) (field_a : A.field ≡ gf2) (field_b : B.field ≡ gf2)
    (in_rows : i < A.rows) (in_a : first + width ≤ A.cols) (in_b : first + width ≤ B.rows) where
  abbrev chosen : ℕ → List ℕ
  chosen s = entry t B.cols s (get_or index s 0)

  chosen-is : (s : ℕ) → s < slots → chosen s ≡ row (subset_sums B (first + s * t.k) (slot_bits t.k width s)) (get_or index s 0)
  chosen-is s below = full.sums s (get_or index s 0) below (is.small s below)

  pub length-chosen : (s : ℕ) → s < slots → length (chosen s) ≡ B.cols
  length-chosen s below =
      let bits = slot_bits t.k width s in
      ap length (chosen-is s below) ∙ length-row-table (2 ^ bits) B.cols (subset_sum B (first + s * t.k) bits) (get_or index s 0) (is.small s below)

  term : ℕ → ℕ → ℕ
  term j u = mul A.field (at A i (first + u)) (at B (first + u) j)

  term-is : (j s u : ℕ) → s < slots → u < slot_bits t.k width s → j < B.cols
      → bit_at (get_or index s 0) u * at B (first + s * t.k + u) j ≡ term j (s * t.k + u)
  unfolding term
  term-is j s u below inside in_cols =
      let place : first + s * t.k + u ≡ first + (s * t.k + u) = omega arith in
      let within : s * t.k + u < width = omega (arith, inside) in
      let small_a : at A i (first + (s * t.k + u)) < 2 =
      let P : ℕ → Type 0 = λ d. at A i (first + (s * t.k + u)) < 2 ^ d in
      subst P (ap degree_of field_a) (matrix_a.elements i (first + (s * t.k + u)) in_rows (omega (arith, within, in_a))) in
      let small_b : at B (first + (s * t.k + u)) j < 2 =
      let P : ℕ → Type 0 = λ d. at B (first + (s * t.k + u)) j < 2 ^ d in
      subst P (ap degree_of field_b) (matrix_b.elements (first + (s * t.k + u)) j (omega (arith, within, in_b)) in_cols) in
      (λ n. is.bits s u below inside n * at B (place n) j)
      ∙ ap (λ p. at A i p * at B (first + (s * t.k + u)) j) place
      ∙ sym (ap (λ F. mul F (at A i (first + (s * t.k + u))) (at B (first + (s * t.k + u)) j)) field_a
      ∙ mul_gf2 (at A i (first + (s * t.k + u))) (at B (first + (s * t.k + u)) j) small_a small_b)

  at-chosen : (s j : ℕ) → s < slots → j < B.cols → get_or (chosen s) j 0 ≡ sum_below (slot_bits t.k width s) (λ u. term j (s * t.k + u))
  at-chosen s j below in_cols =
      let bits = slot_bits t.k width s in
      ap (λ l. get_or l j 0) (chosen-is s below)
      ∙ at-table (2 ^ bits) B.cols (subset_sum B (first + s * t.k) bits) (get_or index s 0) j (is.small s below) in_cols
      ∙ sum_below-same bits (λ u. bit_at (get_or index s 0) u * at B (first + s * t.k + u) j) (λ u. term j (s * t.k + u)) (λ u inside. term-is j s u below inside in_cols)

  -- all of them together add the terms of the product for these columns
  pub at-summed : (xs : List ℕ) (j : ℕ) → length xs ≡ B.cols → length index ≡ slots → width ≤ slots * t.k → j < B.cols
      → get_or (sum_of xs (picked t B.cols index)) j 0 ≡ bit_xor (get_or xs j 0) (part_of_entry A B first width i j)
  unfolding term
  at-summed xs j long many enough in_cols =
      let all : min (slots * t.k) width ≡ width = omega (arith, enough) in
      ap (λ n. get_or (sum_of xs (map chosen (range_with_len 0 n))) j 0) many
      ∙ get_or-sum_of xs chosen slots j (λ s below. length-chosen s below ∙ sym long)
      ∙ ap (bit_xor (get_or xs j 0))
      (sum_below-same slots (λ s. get_or (chosen s) j 0) (λ s. sum_below (slot_bits t.k width s) (λ u. term j (s * t.k + u))) (λ s below. at-chosen s j below in_cols)
      ∙ sum-slots (term j) t.k width slots ∙ ap (λ m. sum_below m (term j)) all)

-- one slot's number more
pub index-more : (index : List ℕ) (A : Matrix) (i first width k slot bits : ℕ) → slot < length index → IsIndex index A i first width k slot
    → ((u : ℕ) → u < slot_bits k width slot → bit_at bits u ≡ at A i (first + slot * k + u)) → bits < 2 ^ slot_bits k width slot
    → IsIndex (set index slot bits) A i first width k (slot + 1)
index-more index A i first width k slot bits within h read small = record {
  bits = λ s u below inside. elim (cases_eq s slot) [
    | inl here ↦
        let same : slot_bits k width s ≡ slot_bits k width slot = ap (slot_bits k width) here in
        ap (λ n. bit_at (get_or (set index slot bits) n 0) u) here ∙ ap (λ w. bit_at w u) (get_or-set_same index slot bits 0 within)
        ∙ read u (omega (arith, inside, same)) ∙ ap (λ n. at A i (first + n * k + u)) (sym here)
    | inr away ↦ ap (λ w. bit_at w u) (get_or-set_other index slot s bits 0 away) ∙ h.bits s u (omega (arith, below, away)) inside
  ];
  small = λ s below. elim (cases_eq s slot) [
    | inl here ↦
        let P : ℕ → Type 0 = λ n. get_or (set index slot bits) n 0 < 2 ^ slot_bits k width n in
        let Q : ℕ → Type 0 = λ w. w < 2 ^ slot_bits k width slot in
        subst P (sym here) (subst Q (sym (get_or-set_same index slot bits 0 within)) small)
    | inr away ↦
        let Q : ℕ → Type 0 = λ w. w < 2 ^ slot_bits k width s in
        subst Q (sym (get_or-set_other index slot s bits 0 away)) (h.small s (omega (arith, below, away)))
  ];
}

-- ---- one slot more is filled
pub filled-more : (t : Slots) (B : Matrix) (first width slot : ℕ) → IsSlots t → IsMatrix B → slot < t.count → B.cols ≤ t.entries.cols
    → IsFilled t B first width slot
    → IsFilled (filled t slot (subset_sums B (first + slot * t.k) (slot_bits t.k width slot))) B first width (slot + 1)
filled-more t B first width slot shape matrix in_slots wide h =
    let bits = slot_bits t.k width slot in
    let S = subset_sums B (first + slot * t.k) bits in
    let few : bits ≤ t.k = omega arith in
    record {
      sums = λ s x below inside. elim (cases_eq s slot) [
        | inl here ↦
            let P : ℕ → Type 0 = λ n. x < 2 ^ slot_bits t.k width n in
            let inside_here : x < 2 ^ bits = subst P here inside in
            ap (λ n. entry (filled t slot S) B.cols n x) here
            ∙ entry-filled_same t slot x S (let room = room-in_slot slot t.count t.k bits in_slots few in omega (arith, room, shape.rows)) wide inside_here
            (length-row-table (2 ^ bits) B.cols (subset_sum B (first + slot * t.k) bits) x inside_here)
            ∙ ap (λ n. row (subset_sums B (first + n * t.k) (slot_bits t.k width n)) x) (sym here)
        | inr away ↦
            let earlier : s < slot = omega (arith, below, away) in
            let few_s : slot_bits t.k width s ≤ t.k = omega arith in
            let power : 2 ^ slot_bits t.k width s ≤ 2 ^ t.k = pow-le-pow_right (lit< tt) few_s in
            let height : 2 ^ bits ≤ 2 ^ t.k = pow-le-pow_right (lit< tt) few in
            let small : x < 2 ^ t.k = omega (arith, inside, power) in
            let room = room-in_slot s t.count t.k t.k (omega (arith, earlier, in_slots)) (omega arith) in
            entry-filled_other t slot s x B.cols S shape.matrix height wide away small (omega (arith, room, small, shape.rows)) ∙ h.sums s x earlier inside
      ];
    }
