-- A row of elements is zero where its bits are.
use Rattle.std.proofs.Common.{◌≡◌, ◌≢◌, ℕ, zero, suc, ◌+◌, ◌*◌, ◌/◌, ◌%◌, ◌^◌, ◌<◌, ◌≤◌, ◌⊎◌, inl, inr, sym, ◌∙◌, ap, subst, arith}
use Rattle.std.specs.Int.{bit_at}
use Rattle.std.proofs.Math.Nat.{div-lt_iff_lt-mul, mod-lt, mod-add-div'}
use Rattle.std.proofs.Math.Pow.{pow_pos}
use Rattle.std.proofs.lemmas.Bool.{cases_lt, cases_eq}
use Rattle.std.proofs.lemmas.Nat.Bits.{bit_at-zero, same_from_bits_below}
use Rattle.std.proofs.lemmas.List.{get_or_past}
use Rattle.m4_model.specs.Field.{Field, gf2, width}
use Rattle.m4_model.specs.Matrix.{Matrix, IsMatrix, row, at}
use Rattle.m4_field.proofs.WidthLemmas.{width_facts}
use Rattle.m4_mzed.specs.Owned.{e_matrix}
use Rattle.m4_mzed.specs.PackedIn.{IsPackedIn}
use Rattle.m4_mzed.proofs.EntryLemmas.{entry_element}
use Rattle.m4_mzed.proofs.RectLemmas.{matrix_bit}

-- a number has a bit that isn't zero, or none
pub bit_found : (n x : ℕ) → ((j : ℕ) → j < n → bit_at x j ≡ 0) ⊎ ((j : ℕ) × (j < n) × (bit_at x j ≢ 0))
bit_found zero x = inl (λ j none. absurd (omega (arith, none)))
bit_found (suc n) x = elim (bit_found n x) [
  | inl zeros ↦ elim (cases_eq (bit_at x n) 0) [
    | inl last ↦ inl (λ j below. elim (cases_lt j n) [
      | inl earlier ↦ zeros j earlier
      | inr from ↦ let same : n ≡ j = omega (arith, below, from) in subst (λ (j : ℕ). bit_at x j ≡ 0) same last
    ])
    | inr some ↦ inr (n, omega arith, some)
  ]
  | inr found ↦ inr (found.0, let below = found.1 in omega (arith, below), found.2)
]

-- a word that isn't zero has a bit within its row
pub some_in_word : (B : Matrix) (i w x : ℕ) → IsMatrix B → i < B.rows → x < 2 ^ 64 → x ≢ 0 → ((j : ℕ) → j < 64 → bit_at x j ≡ at B i (w * 64 + j))
    → (p : ℕ) × (p < B.cols) × (at B i p ≢ 0)
some_in_word B i w x matrix below small some bits = elim (bit_found 64 x) [
  | inl zeros ↦ absurd (some (same_from_bits_below 64 x 0 small (pow_pos 64) (λ j within. zeros j within ∙ sym (bit_at-zero j))))
  | inr found ↦
      let there : at B i (w * 64 + found.0) ≢ 0 = λ none. found.2 (bits found.0 found.1 ∙ none) in
      elim (cases_lt (w * 64 + found.0) B.cols) [
        | inl within ↦ (w * 64 + found.0, within, there)
        | inr past ↦ absurd (there (get_or_past (row B i) (w * 64 + found.0) 0 (let wide = matrix.width i below in omega (arith, wide, past))))
      ]
]

module _ (F : Field) (n : ℕ) (B : Matrix) (is : IsPackedIn F n B) (matrix : IsMatrix B) (over : B.field ≡ gf2) (i : ℕ) (below : i < B.rows) where
  -- zero bits make zeros
  pub zeros_from : ((p : ℕ) → p < B.cols → at B i p ≡ 0) → (j : ℕ) → j < n → at (e_matrix F n B) i j ≡ 0
  zeros_from zeros j within =
      let wide = is.wide in
      let degree = (width_facts F is.carried).room in
      let fits = room j n (width F) within in
      same_from_bits_below F.degree _ 0 (entry_element F n B is i j below) (pow_pos F.degree)
      (λ v inside.
      sym (matrix_bit F n B is matrix over i j v below within (omega (arith, inside, degree)))
      ∙ zeros (j * width F + v) (omega (arith, fits, wide, inside, degree))
      ∙ sym (bit_at-zero v))
    where
      room : (j n w : ℕ) → j < n → j * w + w ≤ n * w
      room j n w within = grind arith

  -- a bit that isn't zero is of such an entry
  pub some_from : (p : ℕ) → p < B.cols → at B i p ≢ 0 → (j : ℕ) × (j < n) × (at (e_matrix F n B) i j ≢ 0)
  some_from p within there =
      let w = width F in
      let facts = width_facts F is.carried in
      let some : 0 < w = omega (arith, facts, is.carried.degree_low) in
      let j_below : p / w < n = (div-lt_iff_lt-mul some).1 (let wide = is.wide in omega (arith, wide, within)) in
      let place : p ≡ p / w * w + p % w = let e = mod-add-div' p w in omega (arith, e) in (
        p / w,
        j_below,
        λ none. there
            (ap (at B i) place
            ∙ matrix_bit F n B is matrix over i (p / w) (p % w) below j_below (mod-lt p some)
            ∙ ap (λ (x : ℕ). bit_at x (p % w)) none
            ∙ bit_at-zero (p % w)),
      )
