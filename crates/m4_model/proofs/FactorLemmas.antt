-- A PLE gives a PLUQ, and what is stored in place tells its factors.
use Rattle.std.proofs.Common.{◌≡◌, ℕ, ◌<◌, ◌≤◌, ⊎_elim, refl, sym, ◌∙◌, ap, subst, arith, List, length, slice_index, ◌&&◌, nat_lt, nat_le, if◌then◌else◌}
use Rattle.std.proofs.lemmas.Bool.{cases_lt, cases_order, lt-ltb, le-ltb, le-leb}
use Rattle.m4_model.specs.Field.{Field}
use Rattle.m4_model.specs.Matrix.{Matrix, IsMatrix, HasShape, at}
use Rattle.m4_model.specs.Shapes.{swaps}
use Rattle.m4_model.specs.Factors.{IsOrder, IsUnitLower, IsPle, IsUpper, IsPluq, Stored, StoredPluq, stored, stored_pluq}
use Rattle.m4_model.proofs.FieldLaws.{FieldLaws}
use Rattle.m4_model.proofs.MatrixLemmas.{at-table}
use Rattle.m4_model.proofs.ProductLemmas.{times-same}
use Rattle.m4_model.proofs.ShapeLemmas.{at_shape, same_entries, at-product}
use Rattle.m4_model.proofs.BlockLemmas.{picked_cols, at-picked_cols, HasShape-picked_cols}
use Rattle.m4_model.proofs.ExchangeLemmas.{IsOrder-swaps, swaps-rising, rising_room}
use Rattle.m4_model.proofs.RankLemmas.{pivots_of_ple}

module _ (A : Matrix) (p q : List ℕ) (r : ℕ) (L E : Matrix) (laws : FieldLaws A.field) (is_matrix : IsMatrix A) (ple : IsPle A p q r L E) where
  -- the columns of A in the order of the exchanges with the pivots
  order_of_ple : IsOrder A.cols (swaps A.cols q)
  order_of_ple =
      let cols = ple.e_shape.cols in
      let room = rising_room q E.cols ple.e_form.rising ple.e_form.columns in
      IsOrder-swaps A.cols q (omega arith) (λ k below. let within = ple.e_form.columns k below in omega (arith, within))

  -- its k-th column is the k-th pivot
  order_at_pivot : (k : ℕ) → k < length q → slice_index (swaps A.cols q) k ≡ slice_index q k
  order_at_pivot k below =
      let cols = ple.e_shape.cols in
      let room = rising_room q E.cols ple.e_form.rising ple.e_form.columns in
      swaps-rising A.cols q k ple.e_form.rising (omega arith) (λ k below. let within = ple.e_form.columns k below in omega (arith, within)) below

  -- E with its columns in that order
  abbrev pub upper_of_ple : Matrix
  upper_of_ple = picked_cols E (slice_index (swaps A.cols q))

  upper_entry : (i j : ℕ) → i < A.rows → j < A.cols → at upper_of_ple i j ≡ at E i (slice_index (swaps A.cols q) j)
  upper_entry = at-picked_cols ple.e_shape (slice_index (swaps A.cols q))

  upper_shape : HasShape A.field A.rows A.cols upper_of_ple
  upper_shape = HasShape-picked_cols ple.e_shape (slice_index (swaps A.cols q)) order_of_ple.below

  -- above its diagonal's first r places, and zero elsewhere
  upper_form : IsUpper r upper_of_ple
  upper_form =
      let rows = ple.e_shape.rows in
      let cols = ple.e_shape.cols in
      let rank = ple.rank in
      let in_rows = ple.e_form.within in
      let room = rising_room q E.cols ple.e_form.rising ple.e_form.columns in
      record {
        diagonal = λ i within same.
            let pivoted : i < length q = omega (arith, within) in
            ple.e_form.nonzero i pivoted
            (ap (at E i) (sym (order_at_pivot i pivoted)) ∙ sym (upper_entry i i (omega (arith, pivoted)) (omega (arith, pivoted))) ∙ same);
        zeros = λ i j below right place.
            let row_in : i < A.rows = omega (arith, below) in
            let col_in : j < A.cols = omega (arith, right) in
            let moved = order_of_ple.below j col_in in
            upper_entry i j row_in col_in
            ∙ ⊎_elim
            (λ (pivoted : i < length q). ⊎_elim
            (λ (under : j < i).
            let pivoted_too : j < length q = omega (arith, under, pivoted) in
            rw (order_at_pivot j pivoted_too) (ple.e_form.before i (slice_index q j) pivoted (ple.e_form.rising j i under pivoted)))
            (λ (rest : r ≤ i). absurd (omega (arith, rest, pivoted)))
            place)
            (λ (rest : length q ≤ i). ple.e_form.below i (slice_index (swaps A.cols q) j) rest below (omega (arith, moved)))
            (cases_lt i (length q));
      }

  -- a PLE gives a PLUQ
  pub pluq_of_ple : IsPluq A p (swaps A.cols q) r L upper_of_ple
  pluq_of_ple = record {
    order = ple.order;
    pivots = q;
    are_pivots = pivots_of_ple A p q r L E laws is_matrix ple;
    rank = ple.rank;
    columns = refl;
    l_shape = ple.l_shape;
    l_form = ple.l_form;
    u_shape = upper_shape;
    u_form = upper_form;
    entries = λ i j below right.
        let moved = order_of_ple.below j right in
        ple.rows i (slice_index (swaps A.cols q) j) below moved
        ∙ at-product ple.l_shape ple.e_shape i (slice_index (swaps A.cols q) j) below moved
        ∙ times-same A.field A.rows (at L) (at E) (at L) (at upper_of_ple) i (slice_index (swaps A.cols q) j) i j
        (λ t within. refl) (λ t within. sym (upper_entry t j within right))
        ∙ sym (at-product ple.l_shape upper_shape i j below right);
  }

-- the entries of a matrix in which L and E are stored
module _ {F : Field} {m n : ℕ} {E : Matrix} (e : HasShape F m n E) (q : List ℕ) (L W : Matrix) (is_stored : Stored W q L E) where
  entry_stored : (i j : ℕ) → i < m → j < n
      → at W i j ≡ (if nat_lt j i && nat_lt j (length q) then at L i j else if nat_lt i (length q) && nat_le (slice_index q i) j then at E i j else 0)
  entry_stored i j below right =
      ap (λ (C : Matrix). at C i j) is_stored.table
      ∙ at_shape e (λ F m n. (i j : ℕ) → i < m → j < n → at (stored q L E) i j
      ≡ (if nat_lt j i && nat_lt j (length q) then at L i j else if nat_lt i (length q) && nat_le (slice_index q i) j then at E i j else 0))
      (at-table E.rows E.cols (λ i j. if nat_lt j i && nat_lt j (length q) then at L i j else if nat_lt i (length q) && nat_le (slice_index q i) j then at E i j else 0))
      i j below right

  -- L's entries below its diagonal, in its first columns
  pub at-stored_lower : (i j : ℕ) → i < m → j < n → j < i → j < length q → at W i j ≡ at L i j
  at-stored_lower i j below right under within = entry_stored i j below right ∙ rw (lt-ltb j i under, lt-ltb j (length q) within) refl

  -- E's entries from its pivots on
  pub at-stored_upper : (i j : ℕ) → i < m → j < n → i < length q → i ≤ j → slice_index q i ≤ j → at W i j ≡ at E i j
  at-stored_upper i j below right within over from =
      entry_stored i j below right ∙ rw (le-ltb j i over, lt-ltb i (length q) within, le-leb (slice_index q i) j from) refl

-- lower factors that agree below the diagonal in their first r columns are equal
pub same_unit_lower : {F : Field} {m : ℕ} {L M : Matrix} (r : ℕ) → HasShape F m m L → HasShape F m m M → IsUnitLower r L → IsUnitLower r M
    → ((i j : ℕ) → i < m → j < i → j < r → at L i j ≡ at M i j) → L ≡ M
same_unit_lower {F} {m} {L} {M} r l_shape m_shape l_form m_form agree =
    let l_rows = l_shape.rows in
    let l_cols = l_shape.cols in
    let m_rows = m_shape.rows in
    let m_cols = m_shape.cols in
    same_entries l_shape m_shape (λ i j below right. ⊎_elim
    (λ (diagonal : i ≡ j). subst (λ (j : ℕ). at L i j ≡ at M i j) diagonal
    (l_form.diagonal i (omega (arith, below)) ∙ sym (m_form.diagonal i (omega (arith, below)))))
    (⊎_elim
    (λ (over : i < j). l_form.above i j over (omega (arith, right)) ∙ sym (m_form.above i j over (omega (arith, right))))
    (λ (under : j < i). ⊎_elim
    (λ (first : j < r). agree i j below under first)
    (λ (rest : r ≤ j). l_form.rest i j rest under (omega (arith, below)) ∙ sym (m_form.rest i j rest under (omega (arith, below))))
    (cases_lt j r)))
    (cases_order i j))

-- the entries of a matrix in which L and U are stored
module _ {F : Field} {m n : ℕ} {U : Matrix} (u : HasShape F m n U) (r : ℕ) (L W : Matrix) (is_stored : StoredPluq W r L U) where
  entry_stored_pluq : (i j : ℕ) → i < m → j < n
      → at W i j ≡ (if nat_lt j i && nat_lt j r then at L i j else if nat_lt i r && nat_le i j then at U i j else 0)
  entry_stored_pluq i j below right =
      ap (λ (C : Matrix). at C i j) is_stored.table
      ∙ at_shape u (λ F m n. (i j : ℕ) → i < m → j < n → at (stored_pluq r L U) i j
      ≡ (if nat_lt j i && nat_lt j r then at L i j else if nat_lt i r && nat_le i j then at U i j else 0))
      (at-table U.rows U.cols (λ i j. if nat_lt j i && nat_lt j r then at L i j else if nat_lt i r && nat_le i j then at U i j else 0))
      i j below right

  -- L's entries below its diagonal, in its first columns
  pub at-stored_pluq_lower : (i j : ℕ) → i < m → j < n → j < i → j < r → at W i j ≡ at L i j
  at-stored_pluq_lower i j below right under within = entry_stored_pluq i j below right ∙ rw (lt-ltb j i under, lt-ltb j r within) refl

  -- U's entries from its diagonal on
  pub at-stored_pluq_upper : (i j : ℕ) → i < m → j < n → i < r → i ≤ j → at W i j ≡ at U i j
  at-stored_pluq_upper i j below right within over =
      entry_stored_pluq i j below right ∙ rw (le-ltb j i over, lt-ltb i r within, le-leb i j over) refl
