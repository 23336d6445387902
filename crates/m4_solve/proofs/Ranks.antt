-- What a reduced form tells of its matrix: the pivots, the rank, and how many rows the basis of the kernel has.
use Rattle.std.proofs.Common.{◌≡◌, ◌≢◌, ℕ, zero, suc, ◌+◌, ◌<◌, ◌≤◌, ⊎_elim, refl, sym, ◌∙◌, ap, subst, arith, List, length, slice_index}
use Rattle.std.proofs.lemmas.Bool.{cases_lt}
use Rattle.m4_model.specs.Matrix.{Matrix, IsMatrix}
use Rattle.m4_model.specs.Rank.{IsRising, ArePivots, IsRank}
use Rattle.m4_model.specs.Forms.{Reduced}
use Rattle.m4_model.proofs.FieldLaws.{FieldLaws}
use Rattle.m4_model.proofs.ShapeLemmas.{HasShape-product}
use Rattle.m4_model.proofs.EchelonLemmas.{place_of}
use Rattle.m4_model.proofs.ExchangeLemmas.{rising_room}
use Rattle.m4_model.proofs.FormLemmas.{pivots_of_reduced}
use Rattle.m4_solve.specs.Kernel.{AreOthers}
use Rattle.m4_solve.specs.Reduction.{IsReducedAt}

-- what a reduced form with known pivots tells
module _ {R M : Matrix} {q : List ℕ} (reduced : IsReducedAt R M q) where
  pub rising_at : IsRising q
  rising_at = subst IsRising reduced.at_pivots reduced.form.reduced.echelon.rising

  columns_at : (s : ℕ) → s < length q → slice_index q s < R.cols
  columns_at s inside =
      let low = reduced.form.reduced.echelon.columns s (subst (λ (q : List ℕ). s < length q) (sym reduced.at_pivots) inside) in
      subst (λ (q : List ℕ). slice_index q s < R.cols) reduced.at_pivots low

  pub rank_at : length q ≤ M.rows
  rank_at =
      let within = reduced.form.reduced.echelon.within in
      let same = ap length reduced.at_pivots in
      let rows = reduced.form.shape.rows in
      omega (arith, within, same, rows)

  pub form_at : Reduced R q
  form_at = subst (Reduced R) reduced.at_pivots reduced.form.reduced

  pub few_at : length q ≤ M.cols
  few_at = let room = rising_room q R.cols rising_at columns_at in let cols = reduced.form.shape.cols in omega (arith, room, cols)

-- the same for pivots and a matrix that are known by other names
pub pivots_seen : (items seen : List ℕ) (R M N : Matrix) → seen ≡ items → M ≡ N → IsReducedAt R M items → IsReducedAt R N seen
pivots_seen items seen R M N same made reduced =
    subst (λ (q : List ℕ). IsReducedAt R N q) (sym same) (subst (λ (M : Matrix). IsReducedAt R M items) made reduced)

-- what it tells of a matrix over a field
module _ {R A : Matrix} {q : List ℕ} (laws : FieldLaws A.field) (reduced : IsReducedAt R A q) where
  pub matrix_at : IsMatrix A
  matrix_at = subst IsMatrix (sym reduced.form.unmade) (HasShape-product reduced.form.back_shape reduced.form.shape laws).is_matrix

  pub pivots_at : ArePivots A q
  pivots_at = subst (ArePivots A) reduced.at_pivots (pivots_of_reduced A laws matrix_at R reduced.form)

  pub rank_of_reduced : IsRank A (length q)
  rank_of_reduced = (q, pivots_at, refl)

-- The first a numbers of q are those below n.
record AreBelow (q : List ℕ) (a n : ℕ) : Type 0 where
  rising : IsRising q
  room : a ≤ length q
  before : (s : ℕ) → s < a → slice_index q s < n
  behind : (s : ℕ) → a ≤ s → s < length q → n ≤ slice_index q s

-- one number fewer, where n is in q
below_one : {q : List ℕ} {a n : ℕ} (s : ℕ) → AreBelow q a (suc n) → s < length q → slice_index q s ≡ n → (a ≡ suc s) × AreBelow q s n
below_one {q} {a} {n} s old inside here = (
  ⊎_elim
      (λ (early : s < a). ⊎_elim
      (λ (more : suc s < a).
      let rises = old.rising s (suc s) (omega arith) (let room = old.room in omega (arith, more, room)) in
      let low = old.before (suc s) more in
      absurd (omega (arith, rises, low, here)))
      (λ (last : a ≤ suc s). omega (arith, early, last))
      (cases_lt (suc s) a))
      (λ (late : a ≤ s). let high = old.behind s late inside in absurd (omega (arith, high, here)))
      (cases_lt s a),
  record {
    rising = old.rising;
    room = omega (arith, inside);
    before = λ t early. let rises = old.rising t s early inside in omega (arith, rises, here);
    behind = λ t from within. ⊎_elim
        (λ (later : s < t). let rises = old.rising s t later within in omega (arith, rises, here))
        (λ (own : t ≤ s). let same : t ≡ s = omega (arith, own, from) in rw (same, here) (omega arith))
        (cases_lt s t);
  },
)

-- as many, where it isn't
below_none : {q : List ℕ} {a n : ℕ} → AreBelow q a (suc n) → ((s : ℕ) → s < length q → slice_index q s ≢ n) → AreBelow q a n
below_none {q} {a} {n} old none = record {
  rising = old.rising;
  room = old.room;
  before = λ s early.
      let room = old.room in
      let low = old.before s early in
      let other = none s (omega (arith, early, room)) in
      omega (arith, low, other);
  behind = λ s from within. let high = old.behind s from within in omega (arith, high);
}

-- two rising lists that part the numbers below n have n numbers
parted_count : (n a b : ℕ) (q g : List ℕ) → AreBelow q a n → AreBelow g b n
    → ((t s : ℕ) → t < length g → s < length q → slice_index q s ≢ slice_index g t)
    → ((j : ℕ) → j < n → ((t : ℕ) → t < length g → slice_index g t ≢ j) → (s : ℕ) × (s < length q) × (slice_index q s ≡ j))
    → a + b ≡ n
parted_count zero a b q g first second apart rest =
    let none : (c : ℕ) (p : List ℕ) → AreBelow p c 0 → c ≡ 0
    = λ c p old. ⊎_elim
    (λ (some : 0 < c). let low = old.before 0 some in absurd (omega (arith, low)))
    (λ (few : c ≤ 0). let e : c ≡ 0 = omega (arith, few) in e)
    (cases_lt 0 c) in
    let no_first = none a q first in
    let no_second = none b g second in
    omega (arith, no_first, no_second)
parted_count (suc n) a b q g first second apart rest = ⊎_elim
    (λ (found : (t : ℕ) × (t < length g) × (slice_index g t ≡ n)).
    let less = below_one found.0 second found.1 found.2 in
    let more = less.0 in
    let fewer = below_none first (λ s inside same. apart found.0 s found.1 inside (same ∙ sym found.2)) in
    let count = parted_count n a found.0 q g fewer less.1 apart (λ j low none. rest j (omega (arith, low)) none) in
    omega (arith, count, more))
    (λ (none : (t : ℕ) → t < length g → slice_index g t ≢ n).
    let own = rest n (omega arith) none in
    let less = below_one own.0 first own.1 own.2 in
    let more = less.0 in
    let count = parted_count n own.0 b q g less.1 (below_none second none) apart (λ j low none. rest j (omega (arith, low)) none) in
    omega (arith, count, more))
    (place_of g n)

-- a rising list of numbers below n
all_below : (q : List ℕ) (n : ℕ) → IsRising q → ((s : ℕ) → s < length q → slice_index q s < n) → AreBelow q (length q) n
all_below q n rising below = record {
  rising = rising;
  room = omega arith;
  before = below;
  behind = λ s from within. absurd (omega (arith, from, within));
}

-- the pivots and the other columns are all columns
pub others_count : (n : ℕ) (q g : List ℕ) → IsRising q → ((s : ℕ) → s < length q → slice_index q s < n) → AreOthers n q g → length q + length g ≡ n
others_count n q g rising below others =
    parted_count n (length q) (length g) q g (all_below q n rising below) (all_below g n others.rising others.below) others.apart others.rest
