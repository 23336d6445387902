-- There is one list of pivots. Factors of a matrix tell its free columns, and a PLE its pivots.
use Rattle.std.proofs.Common.{◌≡◌, ◌≢◌, ℕ, zero, suc, ◌<◌, ◌≤◌, ◌⊎◌, inl, inr, ⊎_elim, sym, ◌∙◌, ap, subst, arith, length, slice_index, List, Contains}
use Rattle.std.proofs.lemmas.List.{same_lists, get_or_default}
use Rattle.std.proofs.lemmas.Bool.{cases_lt, cases_order}
use Rattle.m4_model.specs.Field.{Field, IsElement, sum_below, mul}
use Rattle.m4_model.specs.Matrix.{Matrix, IsMatrix, HasShape, at, product}
use Rattle.m4_model.specs.Rank.{IsRising, IsFree, ArePivots, IsRank}
use Rattle.m4_model.specs.Factors.{IsPle}
use Rattle.m4_model.proofs.FieldLaws.{FieldLaws}
use Rattle.m4_model.proofs.ProductLemmas.{times}
use Rattle.m4_model.proofs.DependenceLemmas.{Combined, Combined-times, Combined_from_times}
use Rattle.m4_model.proofs.ShapeLemmas.{at_shape, IsElement-shape, at-product}
use Rattle.m4_model.proofs.EchelonLemmas.{rising-le, place_of, pivots_of_echelon}

-- each number of p stands in q
abbrev pub AreIn : List ℕ → List ℕ → Type 0
AreIn p q = (i : ℕ) → i < length p → (k : ℕ) × (k < length q) × (slice_index q k ≡ slice_index p i)

module _ (p q : List ℕ) (p_rising : IsRising p) (q_rising : IsRising q) (p_in : AreIn p q) (q_in : AreIn q p) where
  -- entry i agrees where the earlier ones do
  agree_at : (i : ℕ) → i < length p → ((k : ℕ) → k < i → (k < length q) × (slice_index q k ≡ slice_index p k))
      → (k : ℕ) × (k < length q) × (slice_index q k ≡ slice_index p i) → (i < length q) × (slice_index q i ≡ slice_index p i)
  agree_at i within earlier found = by (cases_order found.0 i)
    where
      by : (found.0 ≡ i) ⊎ ((found.0 < i) ⊎ (i < found.0)) → (i < length q) × (slice_index q i ≡ slice_index p i)
      by (inl same) = (subst (λ (k : ℕ). k < length q) same found.1, subst (λ (k : ℕ). slice_index q k ≡ slice_index p i) same found.2)
      by (inr (inl sooner)) =
          let rises = p_rising found.0 i sooner within in
          let same_there = (earlier found.0 sooner).1 in
          let same_here = found.2 in
          absurd (omega arith)
      by (inr (inr later)) =
          let within_q : i < length q = let most = found.1 in omega (arith, later) in
          let back = q_in i within_q in
          let rises = q_rising i found.0 later found.1 in
          let same_here = found.2 in
          let same_back = back.2 in
          let low : back.0 < i = ⊎_elim (λ (less : back.0 < i). less)
          (λ (more : i ≤ back.0). let grows = rising-le p i back.0 p_rising more back.1 in absurd (omega arith)) (cases_lt back.0 i) in
          let same_there = (earlier back.0 low).1 in
          let rises_too = q_rising back.0 i low within_q in
          absurd (omega arith)

  -- entry by entry two rising lists of the same numbers agree
  agree : (n i : ℕ) → i < n → i < length p → (i < length q) × (slice_index q i ≡ slice_index p i)
  agree zero i before within = absurd (omega (arith, before))
  agree (suc n) i before within =
      agree_at i within (λ k sooner. agree n k (omega (arith, sooner, before)) (omega (arith, sooner, within))) (p_in i within)

-- two rising lists of the same numbers are equal
pub same_rising : (p q : List ℕ) → IsRising p → IsRising q → AreIn p q → AreIn q p → p ≡ q
same_rising p q p_rising q_rising p_in q_in =
    let short : length p ≤ length q = ⊎_elim
    (λ (longer : length q < length p). let here = (agree p q p_rising q_rising p_in q_in (length p) (length q) longer longer).0 in absurd (omega arith))
    (λ (fits : length p ≤ length q). fits) (cases_lt (length q) (length p)) in
    let long : length q ≤ length p = ⊎_elim
    (λ (longer : length p < length q). let here = (agree q p q_rising p_rising q_in p_in (length q) (length p) longer longer).0 in absurd (omega arith))
    (λ (fits : length q ≤ length p). fits) (cases_lt (length p) (length q)) in
    same_lists p q (omega arith) (λ i d below.
    let found = agree p q p_rising q_rising p_in q_in (length p) i below below in
    get_or_default p i d 0 below ∙ sym found.1 ∙ get_or_default q i 0 d found.0)

-- a number that stands nowhere in a list isn't in it
pub Contains_none : (q : List ℕ) (j : ℕ) → ((k : ℕ) → k < length q → slice_index q k ≢ j) → Contains q j → ⊥
Contains_none q j none found = none found.0 found.1 (get_or_default q found.0 0 j found.1 ∙ found.2)

-- the pivots of one list are in any other
pivots_in : (A : Matrix) (p q : List ℕ) → ArePivots A p → ArePivots A q → AreIn p q
pivots_in A p q p_pivots q_pivots i within = ⊎_elim
    (λ (found : (k : ℕ) × (k < length q) × (slice_index q k ≡ slice_index p i)). found)
    (λ (none : (k : ℕ) → k < length q → slice_index q k ≢ slice_index p i).
    absurd (p_pivots.unfree i within (q_pivots.others (slice_index p i) (p_pivots.columns i within) (Contains_none q (slice_index p i) none))))
    (place_of q (slice_index p i))

-- there is at most one list of pivots
pub same_pivots : (A : Matrix) (p q : List ℕ) → ArePivots A p → ArePivots A q → p ≡ q
same_pivots A p q p_pivots q_pivots =
    same_rising p q p_pivots.rising q_pivots.rising (pivots_in A p q p_pivots q_pivots) (pivots_in A q p q_pivots p_pivots)

-- and at most one rank
pub same_rank : (A : Matrix) (r s : ℕ) → IsRank A r → IsRank A s → r ≡ s
same_rank A r s first second = sym first.2 ∙ ap length (same_pivots A first.0 second.0 first.1 second.1) ∙ second.2

-- in m rows over F, column j is a combination of the columns before it, by elements
pub record Dependent (F : Field) (m : ℕ) (a : ℕ → ℕ → ℕ) (j : ℕ) : Type 0 where
  pub coefficients : ℕ → ℕ
  pub elements : (t : ℕ) → t < j → IsElement F (coefficients t)
  pub combined : Combined F m a j coefficients

module _ {F : Field} {m n : ℕ} {A : Matrix} (a : HasShape F m n A) (j : ℕ) where
  -- a free column by its shape
  pub dependent_from_free : IsFree A j → Dependent F m (at A) j
  dependent_from_free free = at_shape a (λ F m n. Dependent F m (at A) j)
      (record { coefficients = free.coefficients; elements = free.elements; combined = free.combined })

  pub free_from_dependent : Dependent F m (at A) j → IsFree A j
  free_from_dependent = at_shape a (λ F m n. Dependent F m (at A) j → IsFree A j)
      (λ dependent. record { coefficients = dependent.coefficients; elements = dependent.elements; combined = dependent.combined })

-- free columns of a right factor are free in the product
pub free-product : {F : Field} {m l n : ℕ} {A B : Matrix} → FieldLaws F → HasShape F m l A → HasShape F l n B → HasShape F m n (product A B)
    → (j : ℕ) → j < n → IsFree B j → IsFree (product A B) j
free-product {F} {m} {l} {n} {A} {B} laws a b made j within free =
    let given = dependent_from_free b j free in
    free_from_dependent made j (record {
      coefficients = given.coefficients;
      elements = given.elements;
      combined = Combined-times F laws m l (at A) (at B) (at (product A B)) j given.coefficients
          (λ i t below before. at-product a b i t below (omega (arith, before, within))) given.combined;
    })

-- two lists of columns of two matrices with the same free columns
pub pivots_like : (A B : Matrix) (q : List ℕ) → A.cols ≡ B.cols → ((j : ℕ) → j < B.cols → IsFree A j → IsFree B j)
    → ((j : ℕ) → j < B.cols → IsFree B j → IsFree A j) → ArePivots B q → ArePivots A q
pivots_like A B q cols there back pivots = record {
  rising = pivots.rising;
  columns = λ k within. let below = pivots.columns k within in omega (arith, below, cols);
  unfree = λ k within free. pivots.unfree k within (there (slice_index q k) (pivots.columns k within) free);
  others = λ j within none. let in_cols : j < B.cols = omega (arith, within, cols) in back j in_cols (pivots.others j in_cols none);
}

module _ (A : Matrix) (p q : List ℕ) (r : ℕ) (L E : Matrix) (laws : FieldLaws A.field) (is_matrix : IsMatrix A) (ple : IsPle A p q r L E) where
  row_of_ple : (i j : ℕ) → i < A.rows → j < A.cols → at A (slice_index p i) j ≡ times A.field A.rows (at L) (at E) i j
  row_of_ple i j in_rows in_cols = ple.rows i j in_rows in_cols ∙ at-product ple.l_shape ple.e_shape i j in_rows in_cols

  -- what is free in E is free in A
  free_from_e : (j : ℕ) → j < A.cols → IsFree E j → IsFree A j
  free_from_e j within free =
      let given = dependent_from_free ple.e_shape j free in
      let through = Combined-times A.field laws A.rows A.rows (at L) (at E) (λ i t. at A (slice_index p i) t) j given.coefficients
      (λ i t below before. row_of_ple i t below (omega (arith, before, within))) given.combined in
      record {
        coefficients = given.coefficients;
        elements = given.elements;
        combined = λ i below.
            let found = ple.order.onto i below in
            subst (λ (i : ℕ). at A i j ≡ sum_below j (λ t. mul A.field (given.coefficients t) (at A i t))) found.2 (through found.0 found.1);
      }

  -- what is free in A is free in E
  free_in_e : (j : ℕ) → j < A.cols → IsFree A j → IsFree E j
  free_in_e j within free =
      let l_rows = ple.l_shape.rows in
      let l_cols = ple.l_shape.cols in
      free_from_dependent ple.e_shape j (record {
        coefficients = free.coefficients;
        elements = free.elements;
        combined = Combined_from_times A.field laws A.rows (at L) (at E) (λ i t. at A (slice_index p i) t) j free.coefficients
            (λ i below. ple.l_form.diagonal i (omega (arith, below)))
            (λ i s later below. ple.l_form.above i s later (omega (arith, below)))
            free.elements
            (λ i t below before. IsElement-shape ple.e_shape i t below (omega (arith, before, within)))
            (λ i t below before. row_of_ple i t below (omega (arith, before, within)))
            (λ i below. free.combined (slice_index p i) (ple.order.below i below));
      })

  -- a PLE tells the pivots
  pub pivots_of_ple : ArePivots A q
  pivots_of_ple =
      let e_laws : FieldLaws E.field = subst FieldLaws (sym ple.e_shape.over) laws in
      let cols = ple.e_shape.cols in
      pivots_like A E q (sym cols) (λ j within free. free_in_e j (omega (arith, within)) free) (λ j within free. free_from_e j (omega (arith, within)) free)
      (pivots_of_echelon E e_laws ple.e_shape.is_matrix q ple.e_form)

  -- and the rank
  pub rank_of_ple : IsRank A r
  rank_of_ple = (q, pivots_of_ple, ple.rank)
