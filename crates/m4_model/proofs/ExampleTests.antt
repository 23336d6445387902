-- Tests by which small examples meet the definitions: what each tells when it computes to true.
use Rattle.std.proofs.Common.{◌≡◌, ℕ, zero, suc, ◌<◌, ◌≤◌, ◌⊎◌, inl, inr, ⊎_elim, refl, sym, arith, Bool, true, false, not, ◌&&◌, ◌||◌, eqb-true, ltb-true, leb-true, ltb, leb, eqb, List, length, slice_index, true≢false, lt-ltb, le-leb}
use Rattle.std.proofs.lemmas.Bool.{and_parts, or_cases, not-true, eqb-false, cases_lt}
use Rattle.m4_model.specs.Field.{gf2}
use Rattle.m4_model.specs.Matrix.{Matrix, HasShape, row, at}
use Rattle.m4_model.specs.Rank.{IsRising}
use Rattle.m4_model.specs.Forms.{Echelon, Reduced}
use Rattle.m4_model.specs.Factors.{IsOrder, IsUnitLower, IsUpper}
use Rattle.m4_model.proofs.FieldLemmas.{gf2_field}
use Rattle.m4_model.proofs.ProductLemmas.{unit_at}

-- each number below n passes
abbrev pub every : ℕ → (ℕ → Bool) → Bool
every zero test = true
every (suc n) test = every n test && test n

pub every_at : (n : ℕ) (test : ℕ → Bool) → every n test ≡ true → (i : ℕ) → i < n → test i ≡ true
every_at zero test passed i below = absurd (omega (arith, below))
every_at (suc n) test passed i below =
    let parts = and_parts (every n test) (test n) passed in
    ⊎_elim (λ (sooner : i < n). every_at n test parts.0 i sooner)
    (λ (last : n ≤ i). let same : i ≡ n = omega (arith, last, below) in rw same parts.1) (cases_lt i n)

-- some number below n passes
abbrev pub some : ℕ → (ℕ → Bool) → Bool
some zero test = false
some (suc n) test = some n test || test n

pub some_at : (n : ℕ) (test : ℕ → Bool) → some n test ≡ true → (i : ℕ) × (i < n) × (test i ≡ true)
some_at zero test passed = absurd (true≢false (sym passed))
some_at (suc n) test passed = ⊎_elim
    (λ (sooner : some n test ≡ true). let found = some_at n test sooner in (found.0, (let less = found.1 in omega (arith, less)), found.2))
    (λ (here : test n ≡ true). (n, omega arith, here))
    (or_cases (some n test) (test n) passed)

-- where a test fails or another passes, the other passes if the first does
pub passes_then : (a b : Bool) → (not a || b) ≡ true → a ≡ true → b ≡ true
passes_then true b either first = either
passes_then false b either first = absurd (true≢false (sym first))

-- entries that agree
abbrev pub same_test : ℕ → ℕ → (ℕ → ℕ → ℕ) → (ℕ → ℕ → ℕ) → Bool
same_test m n g h = every m (λ i. every n (λ j. eqb (g i j) (h i j)))

pub same_passed : (m n : ℕ) (g h : ℕ → ℕ → ℕ) → same_test m n g h ≡ true → (i j : ℕ) → i < m → j < n → g i j ≡ h i j
same_passed m n g h passed i j in_rows in_cols =
    eqb-true (g i j) (h i j) (every_at n (λ j. eqb (g i j) (h i j)) (every_at m (λ i. every n (λ j. eqb (g i j) (h i j))) passed i in_rows) j in_cols)

-- a matrix of bits
abbrev pub shape_test : Matrix → Bool
shape_test A = eqb (length A.entries) A.rows && (every A.rows (λ i. eqb (length (row A i)) A.cols)
    && every A.rows (λ i. every A.cols (λ j. ltb (at A i j) 2)))

pub shape_passed : (m n : ℕ) (entries : List (List ℕ))
    → shape_test (record { field = gf2; rows = m; cols = n; entries = entries }) ≡ true
    → HasShape gf2 m n (record { field = gf2; rows = m; cols = n; entries = entries })
shape_passed m n entries passed =
    let A : Matrix = record { field = gf2; rows = m; cols = n; entries = entries } in
    let widths : Bool = every m (λ i. eqb (length (row A i)) n) in
    let small : Bool = every m (λ i. every n (λ j. ltb (at A i j) 2)) in
    let parts = and_parts (eqb (length entries) m) (widths && small) passed in
    let others = and_parts widths small parts.1 in
    record {
      is_matrix = record {
        over_field = gf2_field;
        height = eqb-true (length entries) m parts.0;
        width = λ i below. eqb-true (length (row A i)) n (every_at m (λ i. eqb (length (row A i)) n) others.0 i below);
        elements = λ i j in_rows in_cols. ltb-true (at A i j) 2
            (every_at n (λ j. ltb (at A i j) 2) (every_at m (λ i. every n (λ j. ltb (at A i j) 2)) others.1 i in_rows) j in_cols);
      };
      over = refl;
      rows = refl;
      cols = refl;
    }

-- a rising list
abbrev pub rising_test : List ℕ → Bool
rising_test q = every (length q) (λ j. every j (λ i. ltb (slice_index q i) (slice_index q j)))

pub rising_passed : (q : List ℕ) → rising_test q ≡ true → IsRising q
rising_passed q passed i j before within =
    ltb-true (slice_index q i) (slice_index q j) (every_at j (λ i. ltb (slice_index q i) (slice_index q j))
    (every_at (length q) (λ j. every j (λ i. ltb (slice_index q i) (slice_index q j))) passed j within) i before)

-- an echelon form
abbrev pub echelon_test : Matrix → List ℕ → Bool
echelon_test R q = rising_test q
    && (every (length q) (λ i. ltb (slice_index q i) R.cols)
    && (leb (length q) R.rows
    && (every (length q) (λ i. not (eqb (at R i (slice_index q i)) 0))
    && (every (length q) (λ i. every (slice_index q i) (λ j. eqb (at R i j) 0))
    && every R.rows (λ i. every R.cols (λ j. not (leb (length q) i) || eqb (at R i j) 0))))))

pub echelon_passed : (R : Matrix) (q : List ℕ) → echelon_test R q ≡ true → Echelon R q
echelon_passed R q passed =
    let one = and_parts _ _ passed in
    let two = and_parts _ _ one.1 in
    let three = and_parts _ _ two.1 in
    let four = and_parts _ _ three.1 in
    let five = and_parts _ _ four.1 in
    record {
      rising = rising_passed q one.0;
      columns = λ i within. ltb-true (slice_index q i) R.cols (every_at (length q) (λ i. ltb (slice_index q i) R.cols) two.0 i within);
      within = leb-true (length q) R.rows three.0;
      nonzero = λ i within. eqb-false (at R i (slice_index q i)) 0
          (not-true (eqb (at R i (slice_index q i)) 0) (every_at (length q) (λ i. not (eqb (at R i (slice_index q i)) 0)) four.0 i within));
      before = λ i j within before. eqb-true (at R i j) 0 (every_at (slice_index q i) (λ j. eqb (at R i j) 0)
          (every_at (length q) (λ i. every (slice_index q i) (λ j. eqb (at R i j) 0)) five.0 i within) j before);
      below = λ i j rest in_rows in_cols. eqb-true (at R i j) 0 (passes_then (leb (length q) i) (eqb (at R i j) 0)
          (every_at R.cols (λ j. not (leb (length q) i) || eqb (at R i j) 0)
          (every_at R.rows (λ i. every R.cols (λ j. not (leb (length q) i) || eqb (at R i j) 0)) five.1 i in_rows) j in_cols)
          (le-leb (length q) i rest));
    }

-- a reduced one
pub reduced_passed : (R : Matrix) (q : List ℕ) → echelon_test R q ≡ true
    → same_test R.rows (length q) (λ i k. at R i (slice_index q k)) unit_at ≡ true → Reduced R q
reduced_passed R q echelon units = record {
  echelon = echelon_passed R q echelon;
  units = same_passed R.rows (length q) (λ i k. at R i (slice_index q k)) unit_at units;
}

-- a permutation
abbrev pub order_test : ℕ → List ℕ → Bool
order_test n p = eqb (length p) n && (every n (λ i. ltb (slice_index p i) n) && every n (λ j. some n (λ i. eqb (slice_index p i) j)))

pub order_passed : (n : ℕ) (p : List ℕ) → order_test n p ≡ true → IsOrder n p
order_passed n p passed =
    let one = and_parts _ _ passed in
    let two = and_parts _ _ one.1 in
    record {
      count = eqb-true (length p) n one.0;
      below = λ i below. ltb-true (slice_index p i) n (every_at n (λ i. ltb (slice_index p i) n) two.0 i below);
      onto = λ j below.
          let found = some_at n (λ i. eqb (slice_index p i) j) (every_at n (λ j. some n (λ i. eqb (slice_index p i) j)) two.1 j below) in
          (found.0, found.1, eqb-true (slice_index p found.0) j found.2);
    }

-- ones on the diagonal and zeros above it, and below it from column r on
abbrev pub unit_lower_test : ℕ → Matrix → Bool
unit_lower_test r L = every L.rows (λ i. eqb (at L i i) 1)
    && (every L.cols (λ j. every j (λ i. eqb (at L i j) 0)) && every L.rows (λ i. every i (λ j. not (leb r j) || eqb (at L i j) 0)))

pub unit_lower_passed : (r : ℕ) (L : Matrix) → unit_lower_test r L ≡ true → IsUnitLower r L
unit_lower_passed r L passed =
    let one = and_parts _ _ passed in
    let two = and_parts _ _ one.1 in
    record {
      diagonal = λ i below. eqb-true (at L i i) 1 (every_at L.rows (λ i. eqb (at L i i) 1) one.0 i below);
      above = λ i j later below. eqb-true (at L i j) 0 (every_at j (λ i. eqb (at L i j) 0)
          (every_at L.cols (λ j. every j (λ i. eqb (at L i j) 0)) two.0 j below) i later);
      rest = λ i j from before below. eqb-true (at L i j) 0 (passes_then (leb r j) (eqb (at L i j) 0)
          (every_at i (λ j. not (leb r j) || eqb (at L i j) 0)
          (every_at L.rows (λ i. every i (λ j. not (leb r j) || eqb (at L i j) 0)) two.1 i below) j before)
          (le-leb r j from));
    }

-- zeros where either of two tests holds
abbrev pub zeros_test : Matrix → (ℕ → ℕ → Bool) → Bool
zeros_test A place = every A.rows (λ i. every A.cols (λ j. not (place i j) || eqb (at A i j) 0))

pub zeros_passed : (A : Matrix) (place : ℕ → ℕ → Bool) → zeros_test A place ≡ true
    → (i j : ℕ) → i < A.rows → j < A.cols → place i j ≡ true → at A i j ≡ 0
zeros_passed A place passed i j in_rows in_cols here =
    eqb-true (at A i j) 0 (passes_then (place i j) (eqb (at A i j) 0)
    (every_at A.cols (λ j. not (place i j) || eqb (at A i j) 0)
    (every_at A.rows (λ i. every A.cols (λ j. not (place i j) || eqb (at A i j) 0)) passed i in_rows) j in_cols) here)

either_way : (a b : Bool) → (a ≡ true) ⊎ (b ≡ true) → (a || b) ≡ true
either_way true b sides = refl
either_way false b (inl first) = absurd (true≢false (sym first))
either_way false b (inr second) = second

-- an upper factor
abbrev pub upper_test : ℕ → Matrix → Bool
upper_test r U = every r (λ i. not (eqb (at U i i) 0)) && zeros_test U (λ i j. ltb j i || leb r i)

pub upper_passed : (r : ℕ) (U : Matrix) → upper_test r U ≡ true → IsUpper r U
upper_passed r U passed =
    let parts = and_parts _ _ passed in
    record {
      diagonal = λ i within. eqb-false (at U i i) 0 (not-true (eqb (at U i i) 0) (every_at r (λ i. not (eqb (at U i i) 0)) parts.0 i within));
      zeros = λ i j in_rows in_cols place. zeros_passed U (λ i j. ltb j i || leb r i) parts.1 i j in_rows in_cols
          (either_way (ltb j i) (leb r i) (⊎_elim (λ (under : j < i). inl (lt-ltb j i under)) (λ (rest : r ≤ i). inr (le-leb r i rest)) place));
    }

-- what an echelon form leaves zero
pub echelon_zeros_passed : (E : Matrix) (q : List ℕ) → zeros_test E (λ i j. leb (length q) i || ltb j (slice_index q i)) ≡ true
    → (i j : ℕ) → i < E.rows → j < E.cols → (length q ≤ i) ⊎ (j < slice_index q i) → at E i j ≡ 0
echelon_zeros_passed E q passed i j in_rows in_cols place =
    zeros_passed E (λ i j. leb (length q) i || ltb j (slice_index q i)) passed i j in_rows in_cols
    (either_way (leb (length q) i) (ltb j (slice_index q i))
    (⊎_elim (λ (rest : length q ≤ i). inl (le-leb (length q) i rest)) (λ (before : j < slice_index q i). inr (lt-ltb j (slice_index q i) before)) place))
