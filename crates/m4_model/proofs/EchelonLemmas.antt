-- In an echelon form a pivot column isn't free, and every other column is.
use Rattle.std.proofs.Common.{◌≡◌, ◌≢◌, ℕ, zero, suc, ◌+◌, ◌<◌, ◌≤◌, ◌⊎◌, inl, inr, ⊎_elim, refl, sym, ◌∙◌, ap, ap₂, arith, bit_xor, nat_lt, if◌then◌else◌, ◌==◌, length, slice_index, List, Contains}
use Rattle.std.specs.Int.Bits.{xor_lt, xor_self, xor_zero_l}
use Rattle.std.proofs.Math.Pow.{pow_pos}
use Rattle.std.proofs.lemmas.List.{get_or_default}
use Rattle.std.proofs.lemmas.Bool.{cases_lt, cases_order, eq-eqb, ne_eqb, lt-ltb, le-ltb}
use Rattle.m4_model.specs.Field.{Field, IsElement, sum_below, mul}
use Rattle.m4_model.specs.Matrix.{Matrix, IsMatrix, at}
use Rattle.m4_model.specs.Rank.{IsRising, IsFree, ArePivots}
use Rattle.m4_model.specs.Forms.{Echelon}
use Rattle.m4_model.proofs.FieldLaws.{FieldLaws}
use Rattle.m4_model.proofs.FieldLemmas.{sum_below-same, sum_below-more}
use Rattle.m4_model.proofs.SumLemmas.{xor_off, sum_below-zero, sum_below-short, mul-zero_left}
use Rattle.m4_model.proofs.DependenceLemmas.{Combined}

-- a later number of a rising list isn't smaller
pub rising-le : (q : List ℕ) (i j : ℕ) → IsRising q → i ≤ j → j < length q → slice_index q i ≤ slice_index q j
rising-le q i j rising order within = at (cases_order i j)
  where
    at : (i ≡ j) ⊎ ((i < j) ⊎ (j < i)) → slice_index q i ≤ slice_index q j
    at (inl same) = rw same (omega arith)
    at (inr (inl less)) = let rises = rising i j less within in omega arith
    at (inr (inr more)) = absurd (omega arith)

-- an entry of a list is in it
pub Contains-entry : (q : List ℕ) (k j : ℕ) → k < length q → slice_index q k ≡ j → Contains q j
Contains-entry q k j within same = (k, within, sym (get_or_default q k 0 j within) ∙ same)

-- how many of a rising list's first n numbers are below j
front : (q : List ℕ) (j n : ℕ) → IsRising q → n ≤ length q
    → (k : ℕ) × (k ≤ n) × ((i : ℕ) → i < k → slice_index q i < j) × (k < n → j ≤ slice_index q k)
front q j zero rising within = (0, omega arith, λ i before. absurd (omega (arith, before)), λ before. absurd (omega (arith, before)))
front q j (suc n) rising within = at (front q j n rising (omega arith))
  where
    more : (n < length q) → (k : ℕ) → k ≡ n → ((i : ℕ) → i < k → slice_index q i < j) → (slice_index q n < j) ⊎ (j ≤ slice_index q n)
        → (k : ℕ) × (k ≤ suc n) × ((i : ℕ) → i < k → slice_index q i < j) × (k < suc n → j ≤ slice_index q k)
    more here k all low (inl less) = (
      suc n,
      omega arith,
      λ i before. ⊎_elim (λ (sooner : i < k). low i sooner)
          (λ (last : k ≤ i). let same : i ≡ n = omega (arith, last, before, all) in rw same less) (cases_lt i k),
      λ before. absurd (omega (arith, before)),
    )
    more here k all low (inr high) = (n, omega arith, λ i before. low i (omega (arith, before, all)), λ before. high)

    at : (k : ℕ) × (k ≤ n) × ((i : ℕ) → i < k → slice_index q i < j) × (k < n → j ≤ slice_index q k)
        → (k : ℕ) × (k ≤ suc n) × ((i : ℕ) → i < k → slice_index q i < j) × (k < suc n → j ≤ slice_index q k)
    at found = ⊎_elim
        (λ (short : found.0 < n). (found.0, omega (arith, short), found.2, λ before. found.3 short))
        (λ (whole : n ≤ found.0). let k = found.0 in let most = found.1 in more (omega arith) k (omega (arith, whole, most)) found.2 (cases_lt (slice_index q n) j))
        (cases_lt found.0 n)

-- the numbers of a rising list below j come first
pub rising-front : (q : List ℕ) (j : ℕ) → IsRising q
    → (k : ℕ) × (k ≤ length q) × ((i : ℕ) → i < k → slice_index q i < j) × ((i : ℕ) → k ≤ i → i < length q → j ≤ slice_index q i)
rising-front q j rising =
    let found = front q j (length q) rising (omega arith) in (
      found.0,
      found.1,
      found.2,
      λ i above within.
          let first = found.3 (omega (arith, above, within)) in
          let later = rising-le q found.0 i rising above within in
          omega (arith, first, later),
    )

-- whether a number is in a list
in_front : (q : List ℕ) (j n : ℕ) → n ≤ length q
    → ((k : ℕ) × (k < length q) × (slice_index q k ≡ j)) ⊎ ((k : ℕ) → k < n → slice_index q k ≢ j)
in_front q j zero within = inr (λ k before. absurd (omega (arith, before)))
in_front q j (suc n) within = ⊎_elim inl (λ none. at none (cases_order (slice_index q n) j)) (in_front q j n (omega arith))
  where
    at : ((k : ℕ) → k < n → slice_index q k ≢ j) → (slice_index q n ≡ j) ⊎ ((slice_index q n < j) ⊎ (j < slice_index q n))
        → ((k : ℕ) × (k < length q) × (slice_index q k ≡ j)) ⊎ ((k : ℕ) → k < suc n → slice_index q k ≢ j)
    at none (inl same) = inl (n, omega arith, same)
    at none (inr other) = inr (λ k before same. ⊎_elim (λ (sooner : k < n). none k sooner same)
        (λ (last : n ≤ k). let here : n ≡ k = omega (arith, last, before) in
        let same_here : slice_index q n ≡ j = rw here same in
        ⊎_elim (λ (less : slice_index q n < j). absurd (omega arith)) (λ (more : j < slice_index q n). absurd (omega arith)) other)
        (cases_lt k n))

pub place_of : (q : List ℕ) (j : ℕ) → ((k : ℕ) × (k < length q) × (slice_index q k ≡ j)) ⊎ ((k : ℕ) → k < length q → slice_index q k ≢ j)
place_of q j = in_front q j (length q) (omega arith)

-- coefficients with one more, x at p, and none after it
abbrev extended : ℕ → ℕ → (ℕ → ℕ) → ℕ → ℕ
extended p x c t = if t == p then x else if nat_lt t p then c t else 0

extended-here : (p x : ℕ) (c : ℕ → ℕ) → extended p x c p ≡ x
extended-here p x c = rw (eq-eqb p p refl) refl

extended-before : (p x : ℕ) (c : ℕ → ℕ) (t : ℕ) → t < p → extended p x c t ≡ c t
extended-before p x c t before = rw (ne_eqb t p (λ same. absurd (omega (arith, same, before))), lt-ltb t p before) refl

extended-after : (p x : ℕ) (c : ℕ → ℕ) (t : ℕ) → p < t → extended p x c t ≡ 0
extended-after p x c t after = rw (ne_eqb t p (λ same. absurd (omega (arith, same, after))), le-ltb t p (omega (arith, after))) refl

module _ (F : Field) (laws : FieldLaws F) where
  -- b divided by e, times e
  divided : (e y b : ℕ) → IsElement F b → mul F e y ≡ 1 → mul F (mul F y b) e ≡ b
  divided e y b element inverse =
      laws.comm (mul F y b) e ∙ sym (laws.assoc e y b) ∙ ap (λ (x : ℕ). mul F x b) inverse ∙ laws.unit b element

  -- a combination with one more coefficient
  combination-extended : (p x j : ℕ) (c a : ℕ → ℕ) → p < j
      → sum_below j (λ t. mul F (extended p x c t) (a t)) ≡ bit_xor (sum_below p (λ t. mul F (c t) (a t))) (mul F x (a p))
  combination-extended p x j c a lower =
      sum_below-short (p + 1) j (λ t. mul F (extended p x c t) (a t)) (omega (arith, lower))
      (λ t from before. ap (λ (y : ℕ). mul F y (a t)) (extended-after p x c t (omega (arith, from))) ∙ mul-zero_left F laws (a t))
      ∙ sum_below-more p (λ t. mul F (extended p x c t) (a t))
      ∙ ap₂ bit_xor
      (sum_below-same p (λ t. mul F (extended p x c t) (a t)) (λ t. mul F (c t) (a t))
      (λ t sooner. ap (λ (y : ℕ). mul F y (a t)) (extended-before p x c t sooner)))
      (ap (λ (y : ℕ). mul F y (a p)) (extended-here p x c))

  -- its coefficients are elements
  IsElement-extended : (p x : ℕ) (c : ℕ → ℕ) → IsElement F x → ((t : ℕ) → t < p → IsElement F (c t)) → (t : ℕ) → IsElement F (extended p x c t)
  IsElement-extended p x c element elements t = ⊎_elim
      (λ (same : t ≡ p). rw (same, extended-here p x c) element)
      (⊎_elim (λ (sooner : t < p). rw (extended-before p x c t sooner) (elements t sooner))
      (λ (later : p < t). rw (extended-after p x c t later) (pow_pos F.degree)))
      (cases_order t p)

-- b is a combination of the columns of E before j, by elements
abbrev pub Spans : Matrix → ℕ → (ℕ → ℕ) → Type 0
Spans E j b = (c : ℕ → ℕ) × ((t : ℕ) → t < j → IsElement E.field (c t))
    × ((i : ℕ) → i < E.rows → b i ≡ sum_below j (λ t. mul E.field (c t) (at E i t)))

module _ (E : Matrix) (laws : FieldLaws E.field) (is_matrix : IsMatrix E) (q : List ℕ) (echelon : Echelon E q) where
  -- a pivot's row refutes a combination
  pivot_combined : (k : ℕ) (c : ℕ → ℕ) → k < length q → Combined E.field E.rows (at E) (slice_index q k) c → ⊥
  pivot_combined k c within combined =
      let within_rows = echelon.within in
      echelon.nonzero k within
      (combined k (omega arith)
      ∙ sum_below-zero (slice_index q k) (λ t. mul E.field (c t) (at E k t))
      (λ t before. ap (mul E.field (c t)) (echelon.before k t within before) ∙ laws.annihilates (c t)))

  -- a pivot column isn't free
  pub pivot_unfree : (k : ℕ) → k < length q → IsFree E (slice_index q k) → ⊥
  pivot_unfree k within free = pivot_combined k free.coefficients within free.combined

  -- below its pivot's row a pivot column is zero
  pub pivot_below : (i k : ℕ) → k < i → i < E.rows → k < length q → at E i (slice_index q k) ≡ 0
  pivot_below i k later below within = ⊎_elim
      (λ (pivoted : i < length q). echelon.before i (slice_index q k) pivoted (echelon.rising k i later pivoted))
      (λ (rest : length q ≤ i). echelon.below i (slice_index q k) rest below (echelon.columns k within))
      (cases_lt i (length q))

  -- the combination of a column less a multiple of column p, with that multiple
  extend : (b : ℕ → ℕ) (j p x : ℕ) → IsElement E.field x → p < j → Spans E p (λ i. bit_xor (b i) (mul E.field x (at E i p))) → Spans E j b
  extend b j p x element lower less = (
    extended p x less.0,
    λ t before. IsElement-extended E.field laws p x less.0 element less.1 t,
    λ i below. sym (combination-extended E.field laws p x j less.0 (at E i) lower
        ∙ ap (λ (y : ℕ). bit_xor y (mul E.field x (at E i p))) (sym (less.2 i below))
        ∙ xor_off (b i) (mul E.field x (at E i p))),
  )

  -- a column that is zero from row k on is a combination of columns up to the k-th pivot
  pub spanned : (k : ℕ) → k ≤ length q → (b : ℕ → ℕ) → ((i : ℕ) → i < E.rows → IsElement E.field (b i))
      → ((i : ℕ) → k ≤ i → i < E.rows → b i ≡ 0) → (j : ℕ) → ((i : ℕ) → i < k → slice_index q i < j)
      → (c : ℕ → ℕ) × ((t : ℕ) → t < j → IsElement E.field (c t))
      × ((i : ℕ) → i < E.rows → b i ≡ sum_below j (λ t. mul E.field (c t) (at E i t)))
  spanned zero most b elements none j low = (
    λ t. 0,
    λ t before. pow_pos E.field.degree,
    λ i below. none i (omega arith) below
        ∙ sym (sum_below-zero j (λ t. mul E.field 0 (at E i t)) (λ t before. mul-zero_left E.field laws (at E i t))),
  )
  spanned (suc k) most b elements none j low =
      let p : ℕ = slice_index q k in
      let pivoted : k < length q = omega arith in
      let within_rows = echelon.within in
      let in_rows : k < E.rows = omega arith in
      let in_cols : p < E.cols = echelon.columns k pivoted in
      let lower : p < j = low k (omega arith) in
      let entry : ℕ = at E k p in
      let entry_in : IsElement E.field entry = is_matrix.elements k p in_rows in_cols in
      let inverse = laws.inverse entry entry_in (echelon.nonzero k pivoted) in
      let x : ℕ = mul E.field inverse.0 (b k) in
      let x_in : IsElement E.field x = laws.closed inverse.0 (b k) inverse.1 (elements k in_rows) in
      let whole : mul E.field x entry ≡ b k = divided E.field laws entry inverse.0 (b k) (elements k in_rows) inverse.2 in
      let less : ℕ → ℕ = λ i. bit_xor (b i) (mul E.field x (at E i p)) in
      let less_in : (i : ℕ) → i < E.rows → IsElement E.field (less i)
      = λ i below. xor_lt E.field.degree (b i) (mul E.field x (at E i p)) (elements i below)
      (laws.closed x (at E i p) x_in (is_matrix.elements i p below in_cols)) in
      let less_none : (i : ℕ) → k ≤ i → i < E.rows → less i ≡ 0
      = λ i from below. ⊎_elim
      (λ (later : k < i).
      ap₂ bit_xor (none i later below) (ap (mul E.field x) (pivot_below i k later below pivoted) ∙ laws.annihilates x) ∙ xor_zero_l 0)
      (λ (here : i ≤ k). let same : i ≡ k = omega (arith, from, here) in
      rw same (ap (bit_xor (b k)) whole ∙ xor_self (b k)))
      (cases_lt k i) in
      extend b j p x x_in lower (spanned k (omega arith) less less_in less_none p (λ i before. echelon.rising i k before pivoted))

  -- any other column is free
  pub other_free : (j : ℕ) → j < E.cols → (Contains q j → ⊥) → IsFree E j
  other_free j in_cols other =
      let found = rising-front q j echelon.rising in
      let column = spanned found.0 found.1 (λ i. at E i j) (λ i below. is_matrix.elements i j below in_cols)
      (λ i from below. ⊎_elim
      (λ (pivoted : i < length q).
      let high = found.3 i from pivoted in
      echelon.before i j pivoted (⊎_elim (λ (same : j ≡ slice_index q i). absurd (other (Contains-entry q i j pivoted (sym same))))
      (⊎_elim (λ (less : j < slice_index q i). less) (λ (more : slice_index q i < j). absurd (omega arith))) (cases_order j (slice_index q i))))
      (λ (rest : length q ≤ i). echelon.below i j rest below in_cols)
      (cases_lt i (length q)))
      j found.2 in
      record { coefficients = column.0; elements = column.1; combined = column.2 }

  -- the pivots of an echelon form are those of its list
  pub pivots_of_echelon : ArePivots E q
  pivots_of_echelon = record { rising = echelon.rising; columns = echelon.columns; unfree = pivot_unfree; others = other_free }
