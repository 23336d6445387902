-- The windows of the step of a PLE, and the factors that they hold.
use Rattle.std.proofs.Common.{◌≡◌, ℕ, ◌+◌, ◌-◌, ◌<◌, ◌≤◌, eqb, ltb, cond, inl, inr, List, [], ◌++◌, length, get_or, take, drop, refl, sym, ◌∙◌, ap, ap₂, subst, arith, get_or-take, get_or-drop}
use Rattle.std.proofs.lemmas.Bool.{cases_eq, cases_lt, cond-true, cond-false, eq-eqb, ne_eqb, lt-ltb, le-ltb}
use Rattle.std.proofs.lemmas.List.{length-drop, length-take-le}
use Rattle.m4_model.specs.Field.{Field, IsField}
use Rattle.m4_model.specs.Matrix.{Matrix, IsMatrix, HasShape, at, matrix_of, added, product}
use Rattle.m4_model.specs.Shapes.{beside, cut, above}
use Rattle.m4_model.specs.Factors.{IsPle, IsUnitLower, Stored, stored}
use Rattle.m4_model.specs.Step.{reordered, upper_triangle, lower_rows, step_order, step_pivots, step_lower, step_echelon}
use Rattle.m4_model.proofs.FieldProofs.{field_laws}
use Rattle.m4_model.proofs.MatrixLemmas.{same_matrix}
use Rattle.m4_model.proofs.ShapeLemmas.{same_entries, at-matrix_of}
use Rattle.m4_model.proofs.CutLemmas.{at-cut, HasShape-cut, cut-above_top, cut-above_bottom}
use Rattle.m4_model.proofs.FactorLemmas.{at-stored_lower}
use Rattle.m4_model.proofs.StepLemmas.{ple_of_step}
use Rattle.m4_ple.specs.Held.{HoldsPle}
use Rattle.m4_trsm.specs.Triangles.{inside, unit_lower}
use Rattle.m4_trsm.specs.declared.side.Side.TheVariants.{Lower}
use Rattle.m4_trsm.proofs.Triangles.{triangle_is, HasShape-triangle}
use Rattle.m4_mzed.specs.EWindow.{EWindow, content, showing}
use Rattle.m4_trsm.proofs.Windows.{upper, lower, stacked, stays_more, rows_joined}
use Rattle.m4_eple.specs.Halves.{IsBroughtUp}

-- whole rows of a matrix
pub top_cut : (A : Matrix) (r : ℕ) → IsMatrix A → r ≤ A.rows → record A { rows = r; entries = take r A.entries } ≡ cut A 0 0 r A.cols
top_cut A r is within =
    same_matrix A.field r A.cols (λ i j. at A (0 + i) (0 + j)) (record A { rows = r; entries = take r A.entries }) refl refl refl
    (length-take-le r A.entries (omega (arith, is.height)))
    (λ i below. ap length (get_or-take r A.entries i [] below) ∙ is.width i (omega arith))
    (λ i j below inside_cols.
    let row_place : i ≡ 0 + i = omega arith in
    let col_place : j ≡ 0 + j = omega arith in
    ap (λ l. get_or l j 0) (get_or-take r A.entries i [] below) ∙ ap₂ (at A) row_place col_place)
    ∙ (let high : r ≡ r - 0 = omega arith in let wide : A.cols ≡ A.cols - 0 = omega arith in λ k. matrix_of A.field (high k) (wide k) (λ i j. at A (0 + i) (0 + j)))

pub bottom_cut : (A : Matrix) (r : ℕ) → IsMatrix A → r ≤ A.rows → record A { rows = A.rows - r; entries = drop r A.entries } ≡ cut A r 0 A.rows A.cols
bottom_cut A r is within =
    same_matrix A.field (A.rows - r) A.cols (λ i j. at A (r + i) (0 + j)) (record A { rows = A.rows - r; entries = drop r A.entries }) refl refl refl
    (omega (arith, is.height, length-drop r A.entries))
    (λ i below. ap length (get_or-drop r A.entries i []) ∙ is.width (r + i) (omega arith))
    (λ i j below inside_cols.
    let col_place : j ≡ 0 + j = omega arith in
    ap (λ l. get_or l j 0) (get_or-drop r A.entries i []) ∙ ap (at A (r + i)) col_place)
    ∙ (let wide : A.cols ≡ A.cols - 0 = omega arith in λ k. matrix_of A.field (A.rows - r) (wide k) (λ i j. at A (r + i) (0 + j)))

-- the parts of two matrices, one over the other
pub joined_top : (V X R : Matrix) (F : Field) (r k n : ℕ) → V ≡ above X R → HasShape F r n X → HasShape F k n R → cut V 0 0 r V.cols ≡ X
joined_top V X R F r k n is x y =
    let cols : V.cols ≡ n = ap (λ (A : Matrix). A.cols) is ∙ x.cols in
    (λ i. cut (is i) 0 0 r (cols i)) ∙ cut-above_top x y

pub joined_bottom : (V X R : Matrix) (F : Field) (r k n : ℕ) → V ≡ above X R → HasShape F r n X → HasShape F k n R → cut V r 0 V.rows V.cols ≡ R
joined_bottom V X R F r k n is x y =
    let cols : V.cols ≡ n = ap (λ (A : Matrix). A.cols) is ∙ x.cols in
    let rows : V.rows ≡ r + k = ap (λ (A : Matrix). A.rows) is ∙ ap₂ (λ a b. a + b) x.rows y.rows in
    (λ i. cut (is i) r 0 (rows i) (cols i)) ∙ cut-above_bottom x y

-- a window whose parts were written and joined again
pub kept_joined : (w a b s : EWindow) (k : ℕ) → k ≤ w.rows → a ≡ showing (upper w k) (content a) → b ≡ showing (lower w k) (content b) → s ≡ stacked a b → s ≡ showing w (content s)
kept_joined w a b s k within top bottom joined =
    stays_more w w s (record (content w) { entries = a.entries ++ b.entries }) refl
    (joined ∙ (λ i. stacked (top i) (bottom i)) ∙ rows_joined w k a.entries b.entries within)

-- the factors that a matrix holds
module _ {K : Field} {m n : ℕ} (W L E : Matrix) (q : List ℕ) (r : ℕ) (w : HasShape K m n W) (l : HasShape K m m L) (e : HasShape K m n E)
    (form : IsUnitLower r L) (is : Stored W q L E) (count : length q ≡ r) (in_rows : r ≤ m) (in_cols : r ≤ n) (is_field : IsField K) where
  same_lower : (i j : ℕ) → i < m → j < r → j < i → at W i j ≡ at L i j
  same_lower i j below left under = at-stored_lower e q L W is i j below (omega (arith, left, in_cols)) under (omega (arith, count, left))

  corner_shape : HasShape K r r (cut W 0 0 r r)
  corner_shape = HasShape-cut w 0 0 r r r r (omega arith) (omega arith) in_rows in_cols

  pub held_triangle : unit_lower (cut W 0 0 r r) ≡ upper_triangle r L
  held_triangle =
      triangle_is K is_field Lower (cut W 0 0 r r) r corner_shape
      ∙ same_entries (HasShape-triangle K is_field Lower (cut W 0 0 r r) r corner_shape) (HasShape-cut l 0 0 r r r r (omega arith) (omega arith) in_rows in_rows) (λ i j below right.
      let ip : 0 + i ≡ i = omega arith in
      let jp : 0 + j ≡ j = omega arith in
      at-matrix_of K r r (λ i j. cond (eqb i j) 1 (inside Lower (cut W 0 0 r r) i j)) i j below right
      ∙ elim (cases_eq i j) [
        | inl same ↦
            cond-true (eqb i j) _ _ (eq-eqb i j same)
            ∙ sym (ap (at L i) (sym same) ∙ form.diagonal i (let h = l.rows in omega (arith, h, below, in_rows)))
        | inr other ↦
            cond-false (eqb i j) _ _ (ne_eqb i j other)
            ∙ elim (cases_lt j i) [
              | inl under ↦
                  cond-true (ltb j i) _ _ (lt-ltb j i under)
                  ∙ at-cut W 0 0 r r r r (omega arith) (omega arith) i j below right ∙ ap₂ (at W) ip jp
                  ∙ same_lower i j (omega (arith, below, in_rows)) right under
              | inr over ↦
                  cond-false (ltb j i) _ _ (le-ltb j i over)
                  ∙ sym (form.above i j (omega (arith, over, other)) (let h = l.cols in omega (arith, h, right, in_rows)))
            ]
      ]
      ∙ sym (at-cut L 0 0 r r r r (omega arith) (omega arith) i j below right ∙ ap₂ (at L) ip jp))

  pub held_lower : cut W r 0 W.rows r ≡ lower_rows r L
  held_lower =
      let w_rows : r + (m - r) ≡ W.rows = let h = w.rows in omega (arith, h, in_rows) in
      let l_rows : r + (m - r) ≡ L.rows = let h = l.rows in omega (arith, h, in_rows) in
      same_entries
      (HasShape-cut w r 0 W.rows r (m - r) r w_rows (omega arith) (let h = w.rows in omega (arith, h)) in_cols)
      (HasShape-cut l r 0 L.rows r (m - r) r l_rows (omega arith) (let h = l.rows in omega (arith, h)) in_rows)
      (λ i j below right.
      let jp : 0 + j ≡ j = omega arith in
      at-cut W r 0 W.rows r (m - r) r w_rows (omega arith) i j below right ∙ ap (at W (r + i)) jp
      ∙ same_lower (r + i) j (omega (arith, below)) right (omega (arith, right))
      ∙ sym (at-cut L r 0 L.rows r (m - r) r l_rows (omega arith) i j below right ∙ ap (at L (r + i)) jp))

-- The factors of both halves: W holds a PLE of A1, V is A2 brought up to it, and its lower rows have the PLE that is held.
pub factors_of_step : (A1 A2 W V R : Matrix) (p1 q1 p2 q2 : List ℕ) (r : ℕ) → IsMatrix A1 → HasShape A1.field A1.rows A2.cols A2 → HasShape A1.field A1.rows A1.cols W
    → HasShape A1.field r A2.cols (cut V 0 0 r V.cols) → r ≤ A1.rows → r ≤ A1.cols → length q1 ≡ r → (first : HoldsPle A1 p1 q1 W)
    → IsBroughtUp r W (reordered p1 A2) V → (rest : HoldsPle (cut V r 0 V.rows V.cols) p2 q2 R)
    → IsPle (beside A1 A2) (step_order r p1 p2) (step_pivots A1.cols q1 q2) (r + length q2) (step_lower r first.l p2 rest.l) (step_echelon r first.e (cut V 0 0 r V.cols) rest.e)
factors_of_step A1 A2 W V R p1 q1 p2 q2 r is a2 w x in_rows in_cols count first up rest =
    let F = A1.field in
    let X = cut V 0 0 r V.cols in
    let ple = first.factors in
    let form : IsUnitLower r first.l = subst (λ k. IsUnitLower k first.l) count ple.l_form in
    let tri = held_triangle W first.l first.e q1 r w ple.l_shape ple.e_shape form first.stored count in_rows in_cols is.over_field in
    let low = held_lower W first.l first.e q1 r w ple.l_shape ple.e_shape form first.stored count in_rows in_cols is.over_field in
    let H : ℕ → Type 0 = λ k. IsPle A1 p1 q1 k first.l first.e in
    let J : Matrix → Type 0 = λ C. IsPle C p2 q2 (length q2) rest.l rest.e in
    ple_of_step A1 A2 X p1 q1 p2 q2 r (length q2) first.l first.e rest.l rest.e (field_laws F is.over_field) is a2 x
    (subst H count ple) (ap (λ (C : Matrix). product C X) (sym tri) ∙ up.solved)
    (subst J (up.rest ∙ ap (λ (C : Matrix). added (cut (reordered p1 A2) r 0 A2.rows A2.cols) (product C X)) low) rest.factors)

-- any PLE is held by its table
pub held_table : (A : Matrix) (p q : List ℕ) (r : ℕ) (L E : Matrix) → IsPle A p q r L E → HoldsPle A p q (stored q L E)
held_table A p q r L E is = record {
  l = L;
  e = E;
  factors = let P : ℕ → Type 0 = λ k. IsPle A p q k L E in subst P (sym is.rank) is;
  stored = record {
    table = refl;
    l_form = let P : ℕ → Type 0 = λ k. IsUnitLower k L in subst P (sym is.rank) is.l_form;
    e_zeros = λ i j below right which. elim (cases_lt i (length q)) [
      | inl inside ↦ elim which [
        | inl past ↦ absurd (omega (arith, inside, past))
        | inr before ↦ is.e_form.before i j inside before
      ]
      | inr past ↦ is.e_form.below i j past below right
    ];
  };
}
