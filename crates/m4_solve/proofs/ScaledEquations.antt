-- Rows that are scaled so that ones stand at their pivots: a solve with ones on the diagonal solves the equations as they were.
use Rattle.std.proofs.Common.{◌≡◌, ◌≢◌, ℕ, ◌+◌, ◌<◌, ◌≤◌, eqb, ltb, leb, cond, inl, inr, refl, sym, ◌∙◌, ap, ap₂, subst, arith, List, [], length, slice_index, get_or}
use Rattle.std.proofs.lemmas.Bool.{cases_lt, cases_order, cond-true, cond-false, eq-eqb, ne_eqb, lt-ltb, le-ltb, le-leb, lt-leb}
use Rattle.std.proofs.lemmas.List.{get_or-map, get_or-set_same, get_or-set_other}
use Rattle.m4_model.specs.Field.{Field, IsElement, mul}
use Rattle.m4_model.specs.Matrix.{Matrix, IsMatrix, HasShape, row, at, with_row}
use Rattle.m4_model.specs.Shapes.{cut}
use Rattle.m4_model.proofs.FieldLaws.{FieldLaws}
use Rattle.m4_model.proofs.FieldProofs.{field_laws}
use Rattle.m4_model.proofs.SumLemmas.{mul-one_right}
use Rattle.m4_model.proofs.ProductLemmas.{times, times-same, times-multiple, IsElement-times}
use Rattle.m4_model.proofs.ShapeLemmas.{IsElement-shape, at-matrix_of, at-product}
use Rattle.m4_model.proofs.CutLemmas.{at-cut, HasShape-cut}
use Rattle.m4_mzed.specs.Rows.{multiples}
use Rattle.m4_trsm.specs.Triangles.{inside, unit_upper}
use Rattle.m4_trsm.specs.declared.side.Side.TheVariants.{Upper}
use Rattle.m4_trsm.proofs.Triangles.{triangle_is, HasShape-triangle}
use Rattle.m4_solve.specs.Equations.{IsScaledEquation, upper_entry}
use Rattle.m4_solve.specs.Factored.{IsUnitSolved, IsBackSolved}

-- an entry of a row that was scaled
pub scaled_entry : (A : Matrix) (F : Field) (s x j : ℕ) → IsMatrix A → s < A.rows → j < A.cols → at (with_row A s (multiples F x (row A s))) s j ≡ mul F (at A s j) x
scaled_entry A F s x j is_matrix below within =
    let height = is_matrix.height in
    let wide = is_matrix.width s below in
    ap (λ (xs : List ℕ). get_or xs j 0) (get_or-set_same A.entries s (multiples F x (row A s)) [] (omega (arith, height, below)))
    ∙ get_or-map (λ y. mul F y x) (row A s) j 0 0 (omega (arith, wide, within))

-- an entry of another row
pub other_entry : (A : Matrix) (xs : List ℕ) (s i j : ℕ) → i ≢ s → at (with_row A s xs) i j ≡ at A i j
other_entry A xs s i j other = ap (λ (ys : List ℕ). get_or ys j 0) (get_or-set_other A.entries s i xs [] other)

-- one row of a matrix and of right sides, scaled by the inverse of an entry
pub row_scaled : (A Y : Matrix) (c s x : ℕ) → IsMatrix A → IsMatrix Y → A.field ≡ Y.field → s < A.rows → s < Y.rows → mul A.field (at A s c) x ≡ 1
    → IsScaledEquation c s A Y (with_row A s (multiples A.field x (row A s))) (with_row Y s (multiples Y.field x (row Y s)))
row_scaled A Y c s x is_matrix right field below within one = record {
  factor = x;
  one = one;
  left = λ j inside. scaled_entry A A.field s x j is_matrix below inside;
  right = λ j inside. scaled_entry Y Y.field s x j right within inside ∙ ap (λ (F : Field). mul F (at Y s j) x) (sym field);
}

-- where the entry is 1 the row stays
pub row_stays : (A Y : Matrix) (c s : ℕ) → IsMatrix A → IsMatrix Y → A.field ≡ Y.field → s < A.rows → s < Y.rows → c < A.cols → at A s c ≡ 1 → IsScaledEquation c s A Y A Y
row_stays A Y c s is_matrix right field below within in_cols one =
    let laws = field_laws A.field is_matrix.over_field in
    record {
      factor = 1;
      one = mul-one_right A.field laws (at A s c) (is_matrix.elements s c below in_cols) ∙ one;
      left = λ j inside. sym (mul-one_right A.field laws (at A s j) (is_matrix.elements s j below inside));
      right = λ j inside. sym (mul-one_right A.field laws (at Y s j) (subst (λ (F : Field). IsElement F (at Y s j)) (sym field) (right.elements s j within inside)));
    }

-- The first k rows of A and Y were scaled, and the others are as they were.
pub record AreScaledTo (q : List ℕ) (A Y : Matrix) (k : ℕ) (B Z : Matrix) : Type 0 where
  pub scaled : (s : ℕ) → s < k → IsScaledEquation (slice_index q s) s A Y B Z
  pub later : (i j : ℕ) → k ≤ i → at B i j ≡ at A i j
  pub right_later : (i j : ℕ) → k ≤ i → at Z i j ≡ at Y i j

pub scaled_none : (q : List ℕ) (A Y : Matrix) → AreScaledTo q A Y 0 A Y
scaled_none q A Y = record {
  scaled = λ s before. absurd (omega (arith, before));
  later = λ i j from. refl;
  right_later = λ i j from. refl;
}

-- one row more
pub scaled_more : (q : List ℕ) (A Y B Z B1 Z1 : Matrix) (k : ℕ) → B.field ≡ A.field → B.cols ≡ A.cols → Z.cols ≡ Y.cols → AreScaledTo q A Y k B Z
    → IsScaledEquation (slice_index q k) k B Z B1 Z1 → ((i j : ℕ) → i ≢ k → at B1 i j ≡ at B i j) → ((i j : ℕ) → i ≢ k → at Z1 i j ≡ at Z i j) → AreScaledTo q A Y (k + 1) B1 Z1
scaled_more q A Y B Z B1 Z1 k field cols right_cols old step others right_others = record {
  scaled = λ s before. elim (cases_lt s k) [
    | inl earlier ↦
        let own = old.scaled s earlier in
        record {
          factor = own.factor;
          one = own.one;
          left = λ j inside. others s j (λ same. absurd (omega (arith, same, earlier))) ∙ own.left j inside;
          right = λ j inside. right_others s j (λ same. absurd (omega (arith, same, earlier))) ∙ own.right j inside;
        }
    | inr last ↦
        let same : k ≡ s = omega (arith, before, last) in
        subst (λ (s : ℕ). IsScaledEquation (slice_index q s) s A Y B1 Z1) same (record {
          factor = step.factor;
          one = ap₂ (λ (F : Field) (a : ℕ). mul F a step.factor) (sym field) (sym (old.later k (slice_index q k) (omega arith))) ∙ step.one;
          left = λ j inside. step.left j (omega (arith, inside, cols)) ∙ ap₂ (λ (F : Field) (a : ℕ). mul F a step.factor) field (old.later k j (omega arith));
          right = λ j inside. step.right j (omega (arith, inside, right_cols)) ∙ ap₂ (λ (F : Field) (a : ℕ). mul F a step.factor) field (old.right_later k j (omega arith));
        })
  ];
  later = λ i j from. others i j (λ same. absurd (omega (arith, same, from))) ∙ old.later i j (omega (arith, from));
  right_later = λ i j from. right_others i j (λ same. absurd (omega (arith, same, from))) ∙ old.right_later i j (omega (arith, from));
}

-- what is equal once it is scaled was equal
cancelled : (F : Field) (p x a b : ℕ) → FieldLaws F → IsElement F a → IsElement F b → mul F p x ≡ 1 → mul F x a ≡ mul F b x → a ≡ b
cancelled F p x a b laws small small_too one same =
    sym (laws.unit a small)
    ∙ ap (λ (u : ℕ). mul F u a) (sym one)
    ∙ laws.assoc p x a
    ∙ ap (mul F p) (same ∙ laws.comm b x)
    ∙ sym (laws.assoc p x b)
    ∙ ap (λ (u : ℕ). mul F u b) one
    ∙ laws.unit b small_too

module _ (W Y W1 Y1 Z : Matrix) (q : List ℕ) (is_matrix : IsMatrix W) (right : IsMatrix Y) (field : W.field ≡ Y.field) (in_rows : length q ≤ W.rows)
    (in_right : length q ≤ Y.rows) (in_cols : (s : ℕ) → s < length q → slice_index q s < W.cols)
    (scaled : (s : ℕ) → s < length q → IsScaledEquation (slice_index q s) s W Y W1 Y1) (w1 : HasShape W.field W.rows W.cols W1)
    (y1 : HasShape Y.field Y.rows Y.cols Y1) (done : IsUnitSolved W1 q Y1 Z) where
  laws : FieldLaws W.field
  laws = field_laws W.field is_matrix.over_field

  z : HasShape Y.field Y.rows Y.cols Z
  z = subst (λ (n : ℕ). HasShape Y.field Y.rows n Z) y1.cols (subst (λ (m : ℕ). HasShape Y.field m Y1.cols Z) y1.rows (subst (λ (F : Field). HasShape F Y1.rows Y1.cols Z) y1.over done.shape))

  z_here : HasShape W.field Y.rows Y.cols Z
  z_here = subst (λ (F : Field). HasShape F Y.rows Y.cols Z) (sym field) z

  g : HasShape W.field (length q) (length q) done.gathered
  g = subst (λ (F : Field). HasShape F (length q) (length q) done.gathered) w1.over done.is_gathered.shape

  triangle_shape : HasShape W.field (length q) (length q) (unit_upper done.gathered)
  triangle_shape =
      subst (HasShape W.field (length q) (length q)) (sym (triangle_is W.field is_matrix.over_field Upper done.gathered (length q) g))
      (HasShape-triangle W.field is_matrix.over_field Upper done.gathered (length q) g)

  first : HasShape W.field (length q) Y.cols (cut Z 0 0 (length q) Z.cols)
  first =
      let cols = z.cols in
      HasShape-cut z_here 0 0 (length q) Z.cols (length q) Y.cols (omega arith) (omega (arith, cols)) in_right (omega (arith, cols))

  at-first : (t j : ℕ) → t < length q → j < Y.cols → at (cut Z 0 0 (length q) Z.cols) t j ≡ at Z t j
  at-first t j below within =
      let cols = z.cols in
      let row : 0 + t ≡ t = omega arith in
      let col : 0 + j ≡ j = omega arith in
      at-cut Z 0 0 (length q) Z.cols (length q) Y.cols (omega arith) (omega (arith, cols)) t j below within ∙ ap₂ (at Z) row col

  at-scaled_right : (i j : ℕ) → i < length q → j < Y.cols → at (cut Y1 0 0 (length q) Y1.cols) i j ≡ at Y1 i j
  at-scaled_right i j below within =
      let cols = y1.cols in
      let row : 0 + i ≡ i = omega arith in
      let col : 0 + j ≡ j = omega arith in
      at-cut Y1 0 0 (length q) Y1.cols (length q) Y.cols (omega arith) (omega (arith, cols)) i j below within ∙ ap₂ (at Y1) row col

  small_entry : (i s : ℕ) → i < length q → s < length q → IsElement W.field (upper_entry W q i s)
  small_entry i s below within = elim (cases_lt s i) [
    | inl under ↦ subst (IsElement W.field) (sym (cond-false (leb i s) (at W i (slice_index q s)) 0 (lt-leb i s under))) zero
    | inr over ↦
        subst (IsElement W.field) (sym (cond-true (leb i s) (at W i (slice_index q s)) 0 (le-leb i s over)))
        (is_matrix.elements i (slice_index q s) (omega (arith, below, in_rows)) (in_cols s within))
  ]
    where
      zero : IsElement W.field 0
      zero = let small = is_matrix.elements i (slice_index q s) (omega (arith, below, in_rows)) (in_cols s within) in omega (arith, small)

  -- the scaled triangle is the triangle, each row times its factor
  triangle_entry : (i s : ℕ) (below : i < length q) → s < length q → at (unit_upper done.gathered) i s ≡ mul W.field (scaled i below).factor (upper_entry W q i s)
  triangle_entry i s below within =
      let own = scaled i below in
      ap (λ (T : Matrix). at T i s) (triangle_is W.field is_matrix.over_field Upper done.gathered (length q) g)
      ∙ at-matrix_of W.field (length q) (length q) (λ i j. cond (eqb i j) 1 (inside Upper done.gathered i j)) i s below within
      ∙ elim (cases_order i s) [
        | inl same ↦
            cond-true (eqb i s) _ _ (eq-eqb i s same)
            ∙ sym own.one
            ∙ laws.comm (at W i (slice_index q i)) own.factor
            ∙ ap (λ (s : ℕ). mul W.field own.factor (at W i (slice_index q s))) same
            ∙ ap (mul W.field own.factor) (sym (cond-true (leb i s) (at W i (slice_index q s)) 0 (le-leb i s (omega (arith, same)))))
        | inr other ↦ elim other [
          | inl over ↦
              cond-false (eqb i s) _ _ (ne_eqb i s (λ same. absurd (omega (arith, same, over))))
              ∙ cond-true (ltb i s) _ _ (lt-ltb i s over)
              ∙ done.is_gathered.columns i s below within
              ∙ own.left (slice_index q s) (in_cols s within)
              ∙ laws.comm (at W i (slice_index q s)) own.factor
              ∙ ap (mul W.field own.factor) (sym (cond-true (leb i s) (at W i (slice_index q s)) 0 (le-leb i s (omega (arith, over)))))
          | inr under ↦
              cond-false (eqb i s) _ _ (ne_eqb i s (λ same. absurd (omega (arith, same, under))))
              ∙ cond-false (ltb i s) _ _ (le-ltb i s (omega (arith, under)))
              ∙ sym (laws.annihilates own.factor)
              ∙ ap (mul W.field own.factor) (sym (cond-false (leb i s) (at W i (slice_index q s)) 0 (lt-leb i s under)))
        ]
      ]

  solved_entry : (i j : ℕ) → i < length q → j < Y.cols → at Y i j ≡ times W.field (length q) (upper_entry W q) (at Z) i j
  solved_entry i j below within =
      let own = scaled i below in
      let product_entry : mul W.field own.factor (times W.field (length q) (upper_entry W q) (at Z) i j) ≡ mul W.field (at Y i j) own.factor
      = sym (times-multiple W.field laws (length q) own.factor (upper_entry W q) (at Z) i j)
      ∙ sym (times-same W.field (length q) (at (unit_upper done.gathered)) (at (cut Z 0 0 (length q) Z.cols)) (λ k t. mul W.field own.factor (upper_entry W q k t)) (at Z) i j i j
      (λ t inside. triangle_entry i t below inside) (λ t inside. at-first t j inside within))
      ∙ sym (at-product triangle_shape first i j below within)
      ∙ ap (λ (C : Matrix). at C i j) done.solved
      ∙ at-scaled_right i j below within
      ∙ own.right j within in
      sym (cancelled W.field (at W i (slice_index q i)) own.factor (times W.field (length q) (upper_entry W q) (at Z) i j) (at Y i j) laws
      (IsElement-times W.field laws (length q) (upper_entry W q) (at Z) i j (λ t inside. small_entry i t below inside)
      (λ t inside. IsElement-shape z_here t j (omega (arith, inside, in_right)) within))
      (subst (λ (F : Field). IsElement F (at Y i j)) (sym field) (right.elements i j (omega (arith, below, in_right)) within))
      own.one product_entry)

  pub back_solved_from : IsBackSolved W q Y Z
  back_solved_from = record {
    shape = z;
    solved = λ i j below within. subst (λ (F : Field). at Y i j ≡ times F (length q) (upper_entry W q) (at Z) i j) field (solved_entry i j below within);
  }
