-- The entries of a row or a column, from some of which others are taken out: what is left, and the sums that were taken,
-- make the entries that there were.
use Rattle.std.proofs.Common.{◌≡◌, ◌≢◌, ℕ, ◌+◌, ◌-◌, ◌<◌, ◌≤◌, Bool, true, false, not, cond, eqb, ltb, inl, inr, List, length, get_or, refl, sym, ◌∙◌, ap, ap₂, arith, bit_xor}
use Rattle.std.specs.Int.Bits.{xor_assoc, xor_self, xor_zero_r}
use Rattle.std.proofs.lemmas.Nat.{xor_comm}
use Rattle.std.proofs.lemmas.Bool.{cases_eq, cases_lt, cond-true, cond-false, eq-eqb, ne_eqb, lt-ltb, le-ltb, true≢false}
use Rattle.m4_model.specs.Field.{Field, IsField, IsElement, sum_below, mul}
use Rattle.m4_model.proofs.FieldLaws.{FieldLaws}
use Rattle.m4_model.proofs.FieldProofs.{field_laws}
use Rattle.std.proofs.Math.Pow.{pow_mono, pow_pos}
use Rattle.m4_model.specs.Matrix.{Matrix, at}
use Rattle.m4_model.proofs.MatrixLemmas.{at-table}
use Rattle.m4_model.proofs.FieldLemmas.{sum_below-same}
use Rattle.m4_model.proofs.SumLemmas.{sum_below-xor, sum_below-single, sum_below-zero}
use Rattle.m4_trsm.specs.Triangles.{inside}
use Rattle.m4_trsm.specs.Elimination.{without_row, without_entry}
use Rattle.m4_trsm.proofs.RowSteps.{get_or-without_entry}
use Rattle.m4_trsm.specs.ByRows.{place, rises_on_left, rises_on_right}
use Rattle.m4_trsm.specs.declared.side.Side.{Side}
use Rattle.m4_trsm.specs.declared.side.Side.TheVariants.{Lower, Upper}

-- a sum whose last part is there twice
xor_both : (a b c : ℕ) → bit_xor (bit_xor a c) (bit_xor b c) ≡ bit_xor a b
xor_both a b c =
    ap (bit_xor (bit_xor a c)) (xor_comm b c) ∙ xor_assoc a c (bit_xor c b)
    ∙ ap (bit_xor a) (sym (xor_assoc c c b) ∙ ap (λ x. bit_xor x b) (xor_self c) ∙ (xor_comm 0 b ∙ xor_zero_r b))

module _ (K : Field) where
  -- Entry p of x, with what the entries that are done add to it.
  abbrev pub restored : ℕ → (ℕ → ℕ → ℕ) → (ℕ → Bool) → (ℕ → ℕ) → ℕ → ℕ
  restored n adds done x p = bit_xor (x p) (sum_below n (λ s. cond (done s) (mul K (x s) (adds s p)) 0))

module _ (K : Field) (is_field : IsField K) where
  -- with one entry more done
  pub restored-more : (n : ℕ) (adds : ℕ → ℕ → ℕ) (done next : ℕ → Bool) (x y : ℕ → ℕ) (j : ℕ) → j < n → done j ≡ false → next j ≡ true
      → ((s : ℕ) → s < n → s ≢ j → next s ≡ done s) → ((s : ℕ) → s < n → next s ≡ true → adds j s ≡ 0)
      → ((p : ℕ) → p < n → y p ≡ bit_xor (x p) (mul K (x j) (adds j p)))
      → (p : ℕ) → p < n → restored K n adds next y p ≡ restored K n adds done x p
  restored-more n adds done next x y j below before_it shut others kept is p within_all =
      let one : ℕ → ℕ = λ s. cond (eqb s j) (mul K (x j) (adds j p)) 0 in
      let before : ℕ → ℕ = λ s. cond (done s) (mul K (x s) (adds s p)) 0 in
      let same : (s : ℕ) → s < n → next s ≡ true → y s ≡ x s =
      λ s within in_next. is s within
      ∙ ap (λ a. bit_xor (x s) (mul K (x j) a)) (kept s within in_next)
      ∙ ap (bit_xor (x s)) ((field_laws K is_field).annihilates (x j)) ∙ xor_zero_r (x s) in
      let each : (s : ℕ) → s < n → cond (next s) (mul K (y s) (adds s p)) 0 ≡ bit_xor (before s) (one s) =
      λ s within. elim (cases_eq s j) [
        | inl here ↦
            let in_next : next s ≡ true = ap next here ∙ shut in
            cond-true (next s) _ _ in_next
            ∙ ap (λ a. mul K a (adds s p)) (same s within in_next)
            ∙ ap (λ k. mul K (x k) (adds k p)) here
            ∙ sym (ap₂ bit_xor (cond-false (done s) _ _ (ap done here ∙ before_it)) (cond-true (eqb s j) _ _ (eq-eqb s j here))
            ∙ xor_comm 0 (mul K (x j) (adds j p)) ∙ xor_zero_r (mul K (x j) (adds j p)))
        | inr away ↦
            ap (λ b. cond b (mul K (y s) (adds s p)) 0) (others s within away)
            ∙ unchanged (done s) s (λ in_done. same s within (others s within away ∙ in_done))
            ∙ sym (ap (bit_xor (before s)) (cond-false (eqb s j) _ _ (ne_eqb s j away)) ∙ xor_zero_r (before s))
      ] in
      ap₂ bit_xor (is p within_all)
      (sum_below-same n (λ s. cond (next s) (mul K (y s) (adds s p)) 0) (λ s. bit_xor (before s) (one s)) each
      ∙ sum_below-xor n before one
      ∙ ap (bit_xor (sum_below n before)) (sum_below-single n j one below (λ s within away. cond-false (eqb s j) _ _ (ne_eqb s j away))
      ∙ cond-true (eqb j j) _ _ (eq-eqb j j refl)))
      ∙ xor_both (x p) (sum_below n before) (mul K (x j) (adds j p))
    where
      unchanged : (b : Bool) (s : ℕ) → (b ≡ true → y s ≡ x s) → cond b (mul K (y s) (adds s p)) 0 ≡ cond b (mul K (x s) (adds s p)) 0
      unchanged true s equal = ap (λ a. mul K a (adds s p)) (equal refl)
      unchanged false s equal = refl

  -- with none done
  pub restored-none : (n : ℕ) (adds : ℕ → ℕ → ℕ) (done : ℕ → Bool) (x : ℕ → ℕ) (p : ℕ) → ((s : ℕ) → s < n → done s ≡ false) → restored K n adds done x p ≡ x p
  restored-none n adds done x p none =
      ap (bit_xor (x p)) (sum_below-zero n (λ s. cond (done s) (mul K (x s) (adds s p)) 0) (λ s within. cond-false (done s) _ _ (none s within)))
      ∙ xor_zero_r (x p)

  -- with all done
  pub restored-all : (n : ℕ) (adds : ℕ → ℕ → ℕ) (done : ℕ → Bool) (x : ℕ → ℕ) (p : ℕ) → ((s : ℕ) → s < n → done s ≡ true)
      → restored K n adds done x p ≡ bit_xor (x p) (sum_below n (λ s. mul K (x s) (adds s p)))
  restored-all n adds done x p all =
      ap (bit_xor (x p)) (sum_below-same n (λ s. cond (done s) (mul K (x s) (adds s p)) 0) (λ s. mul K (x s) (adds s p))
      (λ s within. cond-true (done s) _ _ (all s within)))

-- Whether place s is among the first k of n, counted from the first on or from the last on.
abbrev pub is_done : Bool → ℕ → ℕ → ℕ → Bool
is_done rising n k s = cond rising (ltb s k) (not (ltb s (n - k)))

pub done_start : (rising : Bool) (n s : ℕ) → s < n → is_done rising n 0 s ≡ false
done_start true n s below = le-ltb s 0 (omega arith)
done_start false n s below = ap not (lt-ltb s (n - 0) (omega arith))

pub done_end : (rising : Bool) (n s : ℕ) → s < n → is_done rising n n s ≡ true
done_end true n s below = lt-ltb s n below
done_end false n s below = ap not (le-ltb s (n - n) (omega arith))

pub done_before : (rising : Bool) (n k : ℕ) → k < n → is_done rising n k (place rising n k) ≡ false
done_before true n k below = le-ltb k k (omega arith)
done_before false n k below = ap not (lt-ltb (n - 1 - k) (n - k) (omega arith))

pub done_now : (rising : Bool) (n k : ℕ) → k < n → is_done rising n (k + 1) (place rising n k) ≡ true
done_now true n k below = lt-ltb k (k + 1) (omega arith)
done_now false n k below = ap not (le-ltb (n - 1 - k) (n - (k + 1)) (omega arith))

pub done_others : (rising : Bool) (n k s : ℕ) → k < n → s < n → s ≢ place rising n k → is_done rising n (k + 1) s ≡ is_done rising n k s
done_others true n k s below inside other =
    elim (cases_lt s k) [
      | inl before ↦ lt-ltb s (k + 1) (omega arith) ∙ sym (lt-ltb s k before)
      | inr behind ↦ le-ltb s (k + 1) (omega (arith, other)) ∙ sym (le-ltb s k behind)
    ]
done_others false n k s below inside other =
    elim (cases_lt s (n - k)) [
      | inl before ↦ ap not (lt-ltb s (n - (k + 1)) (omega (arith, other)) ∙ sym (lt-ltb s (n - k) before))
      | inr behind ↦ ap not (le-ltb s (n - (k + 1)) (omega arith) ∙ sym (le-ltb s (n - k) behind))
    ]

-- those that are done lie on one side of the place
rising_order : (n k s : ℕ) → is_done true n (k + 1) s ≡ true → s ≤ k
rising_order n k s is =
    elim (cases_lt s (k + 1)) [
      | inl before ↦ omega arith
      | inr behind ↦ absurd (true≢false (sym is ∙ le-ltb s (k + 1) behind))
    ]

falling_order : (n k s : ℕ) → k < n → is_done false n (k + 1) s ≡ true → n - 1 - k ≤ s
falling_order n k s below is =
    elim (cases_lt s (n - (k + 1))) [
      | inl before ↦ absurd (true≢false (sym is ∙ ap not (lt-ltb s (n - (k + 1)) before)))
      | inr behind ↦ omega arith
    ]

-- what is taken out of the others leaves those that are done
kept_on_left : (side : Side) (T : Matrix) (n k s : ℕ) → k < n → is_done (rises_on_left side) n (k + 1) s ≡ true
    → inside side T s (place (rises_on_left side) n k) ≡ 0
kept_on_left Lower T n k s below is = cond-false (ltb k s) _ _ (le-ltb k s (rising_order n k s is))
kept_on_left Upper T n k s below is = cond-false (ltb s (n - 1 - k)) _ _ (le-ltb s (n - 1 - k) (falling_order n k s below is))

kept_on_right : (side : Side) (T : Matrix) (n k s : ℕ) → k < n → is_done (rises_on_right side) n (k + 1) s ≡ true
    → inside side T (place (rises_on_right side) n k) s ≡ 0
kept_on_right Lower T n k s below is = cond-false (ltb s (n - 1 - k)) _ _ (le-ltb s (n - 1 - k) (falling_order n k s below is))
kept_on_right Upper T n k s below is = cond-false (ltb k s) _ _ (le-ltb k s (rising_order n k s is))

place_inside : (rising : Bool) (n k : ℕ) → k < n → place rising n k < n
place_inside true n k below = below
place_inside false n k below = omega arith

module _ (K : Field) where
  -- Entry (p, q) of the window, with what the rows that are done add to it.
  abbrev pub restored_left : Side → Matrix → Matrix → ℕ → ℕ → ℕ → ℕ → ℕ
  restored_left side T X n k p q = restored K n (λ s p. inside side T p s) (is_done (rises_on_left side) n k) (λ s. at X s q) p

module _ (K : Field) (is_field : IsField K) where
  pub left_more : (side : Side) (T X Y : Matrix) (n m k j : ℕ) → X.field ≡ K → X.rows ≡ n → X.cols ≡ m → k < n → j ≡ place (rises_on_left side) n k
      → Y ≡ without_row side T X j → (p q : ℕ) → p < n → q < m → restored_left K side T Y n (k + 1) p q ≡ restored_left K side T X n k p q
  left_more side T X Y n m k j over rows cols below here written p q in_rows in_cols =
      let i = place (rises_on_left side) n k in
      let made : Y ≡ without_row side T X i = written ∙ ap (without_row side T X) here in
      restored-more K is_field n (λ s p. inside side T p s) (is_done (rises_on_left side) n k) (is_done (rises_on_left side) n (k + 1))
      (λ s. at X s q) (λ s. at Y s q) i (place_inside (rises_on_left side) n k below)
      (done_before (rises_on_left side) n k below) (done_now (rises_on_left side) n k below)
      (λ s within other. done_others (rises_on_left side) n k s below within other)
      (λ s within is. kept_on_left side T n k s below is)
      (λ s within. ap (λ (A : Matrix). at A s q) made
      ∙ at-table X.rows X.cols (λ r c. bit_xor (at X r c) (mul X.field (at X i c) (inside side T r i))) s q (omega (arith, rows)) (omega (arith, cols))
      ∙ ap (λ (G : Field). bit_xor (at X s q) (mul G (at X i q) (inside side T s i))) over)
      p in_rows

module _ (K : Field) where
  -- Entry p of a row, with what the entries that are done add to it.
  abbrev pub restored_right : Side → Matrix → List ℕ → ℕ → ℕ → ℕ → ℕ
  restored_right side T xs n k p = restored K n (λ s p. inside side T s p) (is_done (rises_on_right side) n k) (λ s. get_or xs s 0) p

module _ (K : Field) (is_field : IsField K) where
  pub right_more : (side : Side) (T : Matrix) (xs ys : List ℕ) (n k j : ℕ) → T.field ≡ K → length xs ≡ n → k < n → j ≡ place (rises_on_right side) n k
      → ys ≡ without_entry side T xs j → (p : ℕ) → p < n → restored_right K side T ys n (k + 1) p ≡ restored_right K side T xs n k p
  right_more side T xs ys n k j over long below here written p inside_row =
      let i = place (rises_on_right side) n k in
      let made : ys ≡ without_entry side T xs i = written ∙ ap (without_entry side T xs) here in
      restored-more K is_field n (λ s p. inside side T s p) (is_done (rises_on_right side) n k) (is_done (rises_on_right side) n (k + 1))
      (λ s. get_or xs s 0) (λ s. get_or ys s 0) i (place_inside (rises_on_right side) n k below)
      (done_before (rises_on_right side) n k below) (done_now (rises_on_right side) n k below)
      (λ s within other. done_others (rises_on_right side) n k s below within other)
      (λ s within is. kept_on_right side T n k s below is)
      (λ s within. ap (λ l. get_or l s 0) made ∙ get_or-without_entry side T xs i s (omega (arith, long))
      ∙ ap (λ (G : Field). bit_xor (get_or xs s 0) (mul G (get_or xs i 0) (inside side T i s))) over)
      p inside_row
