-- What the factors of a matrix tell of its equations and of its inverse.
use Rattle.std.proofs.Common.{◌≡◌, ◌≢◌, ℕ, ◌<◌, ◌≤◌, inl, inr, refl, sym, ◌∙◌, ap, subst, arith, List, length, slice_index, take, length-take-le, get_or-take}
use Rattle.m4_model.specs.Field.{Field}
use Rattle.m4_model.specs.Matrix.{Matrix, IsMatrix, HasShape, at, identity}
use Rattle.m4_model.specs.Shapes.{swaps}
use Rattle.m4_model.specs.Rank.{IsFree, ArePivots}
use Rattle.m4_model.specs.Step.{reordered}
use Rattle.m4_model.specs.Forms.{IsSolution, NoSolution, IsInverse, Singular}
use Rattle.m4_model.proofs.FieldLaws.{FieldLaws}
use Rattle.m4_model.proofs.FieldProofs.{field_laws}
use Rattle.m4_model.proofs.ProductLemmas.{times}
use Rattle.m4_model.proofs.ExchangeLemmas.{rising-at_least}
use Rattle.m4_model.proofs.FactorLemmas.{at-stored_upper}
use Rattle.m4_model.proofs.RankLemmas.{pivots_of_ple, Contains_none}
use Rattle.m4_model.proofs.RingLemmas.{HasShape-one}
use Rattle.m4_model.proofs.SingularLemmas.{singular_from_free, inverse_from_right}
use Rattle.m4_perm.specs.Perm.{AreSwaps}
use Rattle.m4_ple.specs.Held.{HoldsPle}
use Rattle.m4_eple.specs.Halves.{IsBroughtUp}
use Rattle.m4_solve.specs.Equations.{IsPlaced, IsZeroFrom, upper_entry}
use Rattle.m4_solve.specs.Factored.{IsFactored, IsBackSolved}
use Rattle.m4_solve.specs.declared.factored.Factored.{Factored}
use Rattle.m4_solve.proofs.Risings.{first_missing, too_few}
use Rattle.m4_solve.proofs.Equations.{no_solution_left, solution_left}

-- what an elimination in the place of the matrix leaves
pub factored_from : (A W : Matrix) (f : Factored) (p q : List ℕ) (r : ℕ) → f.matrix ≡ W → f.exchanges.items ≡ p → f.pivots.items ≡ take r q → r ≤ length q
    → HasShape A.field A.rows A.cols W → AreSwaps A.rows p → r ≤ A.rows → r ≤ A.cols → ((i : ℕ) → i < r → slice_index q i < A.cols)
    → HoldsPle A (swaps A.rows p) (take r q) W → IsFactored A f
factored_from A W f p q r matrix exchanges pivots room shape in_turn rows cols in_cols holds =
    let long : length f.pivots.items ≡ r = ap length pivots ∙ length-take-le r q room in
    record {
      shape = subst (HasShape A.field A.rows A.cols) (sym matrix) shape;
      exchanges = subst (AreSwaps A.rows) (sym exchanges) in_turn;
      few_rows = omega (arith, long, rows);
      few_cols = omega (arith, long, cols);
      in_cols = λ s inside.
          let same : slice_index f.pivots.items s ≡ slice_index q s
          = ap (λ (xs : List ℕ). slice_index xs s) pivots ∙ get_or-take r q s 0 (omega (arith, inside, long)) in
          let own = in_cols s (omega (arith, inside, long)) in
          omega (arith, own, same);
      holds = subst (λ (p : List ℕ). HoldsPle A (swaps A.rows p) f.pivots.items f.matrix) (sym exchanges)
          (subst (λ (q : List ℕ). HoldsPle A (swaps A.rows p) q f.matrix) (sym pivots)
          (subst (HoldsPle A (swaps A.rows p) (take r q)) (sym matrix) holds));
    }

module _ (A : Matrix) (f : Factored) (is_matrix : IsMatrix A) (factored : IsFactored A f) where
  laws : FieldLaws A.field
  laws = field_laws A.field is_matrix.over_field

  pub are_pivots : ArePivots A f.pivots.items
  are_pivots =
      pivots_of_ple A (swaps A.rows f.exchanges.items) f.pivots.items (length f.pivots.items) factored.holds.l factored.holds.e laws is_matrix factored.holds.factors

  -- what stands at the pivots isn't zero
  pub pivots_some : (s : ℕ) → s < length f.pivots.items → at f.matrix s (slice_index f.pivots.items s) ≢ 0
  pivots_some s inside none =
      let few = factored.few_rows in
      let form = factored.holds.factors.e_form in
      form.nonzero s inside
      (sym (at-stored_upper factored.holds.factors.e_shape f.pivots.items factored.holds.l f.matrix factored.holds.stored s (slice_index f.pivots.items s)
      (omega (arith, few, inside)) (factored.in_cols s inside) inside (rising-at_least f.pivots.items s form.rising inside) (omega arith))
      ∙ none)

  module _ (B Y : Matrix) (b : HasShape A.field A.rows B.cols B) (y : HasShape B.field B.rows B.cols Y)
      (up : IsBroughtUp (length f.pivots.items) f.matrix (reordered (swaps B.rows f.exchanges.items) B) Y) where
    y_shape : HasShape A.field A.rows B.cols Y
    y_shape = subst (λ (F : Field). HasShape F A.rows B.cols Y) b.over (subst (λ (m : ℕ). HasShape B.field m B.cols Y) b.rows y)

    up_of_a : IsBroughtUp (length f.pivots.items) f.matrix (reordered (swaps A.rows f.exchanges.items) B) Y
    up_of_a = subst (λ (m : ℕ). IsBroughtUp (length f.pivots.items) f.matrix (reordered (swaps m f.exchanges.items) B) Y) b.rows up

    -- an entry past the rank leaves no solution
    pub none_is : (i j : ℕ) → length f.pivots.items ≤ i → i < Y.rows → j < Y.cols → at Y i j ≢ 0 → NoSolution A B
    none_is i j low below within =
        let rows = y_shape.rows in
        let cols = y_shape.cols in
        no_solution_left A B f.matrix Y (swaps A.rows f.exchanges.items) f.pivots.items laws is_matrix b factored.shape y_shape factored.holds factored.few_cols up_of_a
        i j low (omega (arith, below, rows)) (omega (arith, within, cols))

    -- else there is one
    pub solution_is : (Z X : Matrix) → IsZeroFrom (length f.pivots.items) Y → IsBackSolved f.matrix f.pivots.items Y Z → IsPlaced Z f.pivots.items A.cols X → IsSolution X A B
    solution_is Z X none_left solved placed =
        let z : HasShape A.field A.rows B.cols Z
        = subst (λ (n : ℕ). HasShape A.field A.rows n Z) y_shape.cols (subst (λ (m : ℕ). HasShape A.field m Y.cols Z) y_shape.rows
        (subst (λ (F : Field). HasShape F Y.rows Y.cols Z) y_shape.over solved.shape)) in
        let cols = y_shape.cols in
        let entries : (i j : ℕ) → i < length f.pivots.items → j < B.cols → at Y i j ≡ times A.field (length f.pivots.items) (upper_entry f.matrix f.pivots.items) (at Z) i j
        = λ i j below within.
        subst (λ (F : Field). at Y i j ≡ times F (length f.pivots.items) (upper_entry f.matrix f.pivots.items) (at Z) i j) y_shape.over
        (solved.solved i j below (omega (arith, within, cols))) in
        solution_left A B f.matrix Y (swaps A.rows f.exchanges.items) f.pivots.items laws is_matrix b factored.shape y_shape factored.holds factored.few_cols up_of_a
        Z X z placed entries none_left

  -- fewer pivots than columns
  pub singular_is : A.cols ≡ A.rows → length f.pivots.items < A.cols → Singular A
  singular_is square few = elim (first_missing A.cols f.pivots.items are_pivots.rising) [
    | inl all ↦ let h = all.0 in absurd (omega (arith, h, few))
    | inr missing ↦
        singular_from_free A laws is_matrix square missing.0 missing.1 (are_pivots.others missing.0 missing.1 (Contains_none f.pivots.items missing.0 missing.2))
  ]

  -- as many, which are the columns in their order
  module _ (square : A.cols ≡ A.rows) (all : A.cols ≤ length f.pivots.items) where
    own_place : (s : ℕ) → s < A.cols → slice_index f.pivots.items s ≡ s
    own_place s inside = elim (first_missing A.cols f.pivots.items are_pivots.rising) [
      | inl each ↦ each.1 s inside
      | inr missing ↦ absurd (none_missing missing.0 missing.1 missing.2)
    ]
      where
        none_missing : (j : ℕ) → j < A.cols → ((s : ℕ) → s < length f.pivots.items → slice_index f.pivots.items s ≢ j) → ⊥
        none_missing j below missing =
            too_few A.cols f.pivots.items are_pivots.rising are_pivots.columns j below missing (let few = factored.few_cols in omega (arith, few, all))

    pub inverse_is : (Y Z : Matrix) → HasShape A.field A.rows A.rows Y
        → IsBroughtUp (length f.pivots.items) f.matrix (reordered (swaps A.rows f.exchanges.items) (identity A.field A.rows)) Y
        → IsBackSolved f.matrix f.pivots.items Y Z → IsInverse Z A
    inverse_is Y Z y up solved =
        let one = HasShape-one A.field A.rows is_matrix.over_field in
        let none_left : IsZeroFrom (length f.pivots.items) Y = λ i j low below within. let rows = y.rows in absurd (omega (arith, low, below, rows, all, square)) in
        let z_rows : Z.rows ≡ A.cols = solved.shape.rows ∙ y.rows ∙ sym square in
        let z_own : HasShape Z.field A.cols Z.cols Z = record { is_matrix = solved.shape.is_matrix; over = refl; rows = z_rows; cols = refl } in
        let placed : IsPlaced Z f.pivots.items A.cols Z = record {
          shape = z_own;
          at_pivot = λ s j inside within. let few = factored.few_cols in ap (λ (t : ℕ). at Z t j) (own_place s (omega (arith, inside, few)));
          elsewhere = λ t j below within none. absurd (none t (omega (arith, below, all)) (own_place t below));
        } in
        let solution = solution_is (identity A.field A.rows) Y one y up Z Z none_left solved placed in
        inverse_from_right A laws is_matrix Z square
        (λ j within free. are_pivots.unfree j (omega (arith, within, all)) (subst (IsFree A) (sym (own_place j within)) free))
        (subst (λ (m : ℕ). HasShape A.field m A.rows Z) square solution.shape) solution.solves
