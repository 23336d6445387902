-- Pivots, reduced forms, inverses, solutions, kernels and factors of small matrices over GF(2), and wrong ones refuted.
use Rattle.std.proofs.Common.{◌≡◌, ℕ, zero, suc, ◌<◌, List, [], ◌∷◌, refl, sym, ◌∙◌, ap, arith, slice_index, Contains}
use Rattle.std.proofs.lemmas.Bool.{eqb-false}
use Rattle.m4_model.specs.Field.{gf2, clmul, mul, sum_below, bits_within, rem_within}
use Rattle.m4_model.specs.Matrix.{Matrix, HasShape, at, table, product}
use Rattle.m4_model.specs.Shapes.{swaps, exchanged}
use Rattle.m4_model.specs.Rank.{IsFree, ArePivots, IsRank}
use Rattle.m4_model.specs.Forms.{IsReduced, IsInverse, Singular, IsSolution, NoSolution, AreFree, IsKernel}
use Rattle.m4_model.specs.Factors.{IsPle, IsPluq, Stored, StoredPluq}
use Rattle.m4_model.proofs.Gf2Lemmas.{gf2_laws}
use Rattle.m4_model.proofs.ProductLemmas.{times-zero_row, unit_at}
use Rattle.m4_model.proofs.ShapeLemmas.{at-product}
use Rattle.m4_model.proofs.EchelonLemmas.{pivots_of_echelon}
use Rattle.m4_model.proofs.RankLemmas.{pivots_of_ple, rank_of_ple, same_pivots, same_rank}
use Rattle.m4_model.proofs.FormLemmas.{same_reduced, same_inverse, inverse_refuted, same_solution, solution_refuted, same_kernel}
use Rattle.m4_model.proofs.Examples.{bits}
use Rattle.m4_model.proofs.ExampleTests.{rising_passed, upper_passed, echelon_zeros_passed, shape_passed, echelon_passed, reduced_passed, order_passed, unit_lower_passed, same_passed}

-- what holds of 0 and 1 holds below 2
below_two : (P : ℕ → Type 0) → P 0 → P 1 → (i : ℕ) → i < 2 → P i
below_two P first second zero below = first
below_two P first second (suc zero) below = second
below_two P first second (suc (suc i)) below = absurd (omega (arith, below))

below_one : (P : ℕ → Type 0) → P 0 → (i : ℕ) → i < 1 → P i
below_one P first zero below = first
below_one P first (suc i) below = absurd (omega (arith, below))

below_three : (P : ℕ → Type 0) → P 0 → P 1 → P 2 → (i : ℕ) → i < 3 → P i
below_three P first second third zero below = first
below_three P first second third (suc zero) below = second
below_three P first second third (suc (suc zero)) below = third
below_three P first second third (suc (suc (suc i))) below = absurd (omega (arith, below))

-- ---- a PLE of 000/011

abbrev late : Matrix
late = bits 2 3 ((0 ∷ 0 ∷ 0 ∷ []) ∷ (0 ∷ 1 ∷ 1 ∷ []) ∷ [])

late_shape : HasShape gf2 2 3 late
late_shape = shape_passed 2 3 ((0 ∷ 0 ∷ 0 ∷ []) ∷ (0 ∷ 1 ∷ 1 ∷ []) ∷ []) refl

abbrev plain : Matrix
plain = bits 2 2 ((1 ∷ 0 ∷ []) ∷ (0 ∷ 1 ∷ []) ∷ [])

plain_shape : HasShape gf2 2 2 plain
plain_shape = shape_passed 2 2 ((1 ∷ 0 ∷ []) ∷ (0 ∷ 1 ∷ []) ∷ []) refl

abbrev early : Matrix
early = bits 2 3 ((0 ∷ 1 ∷ 1 ∷ []) ∷ (0 ∷ 0 ∷ 0 ∷ []) ∷ [])

early_shape : HasShape gf2 2 3 early
early_shape = shape_passed 2 3 ((0 ∷ 1 ∷ 1 ∷ []) ∷ (0 ∷ 0 ∷ 0 ∷ []) ∷ []) refl

-- rank 1, rows 1 0, pivots 1, L = 10/01, E = 011/000
ple_of_late : IsPle late (1 ∷ 0 ∷ []) (1 ∷ []) 1 plain early
unfolding mul clmul sum_below bits_within rem_within table
ple_of_late = record {
  order = order_passed 2 (1 ∷ 0 ∷ []) refl;
  rank = refl;
  l_shape = plain_shape;
  l_form = unit_lower_passed 1 plain refl;
  e_shape = early_shape;
  e_form = echelon_passed early (1 ∷ []) refl;
  rows = same_passed 2 3 (λ i j. at late (slice_index (1 ∷ 0 ∷ []) i) j) (at (product plain early)) refl;
}

-- its pivots and its rank, and none but these
pivots_of_late : ArePivots late (1 ∷ [])
pivots_of_late = pivots_of_ple late (1 ∷ 0 ∷ []) (1 ∷ []) 1 plain early gf2_laws late_shape.is_matrix ple_of_late

rank_of_late : IsRank late 1
rank_of_late = rank_of_ple late (1 ∷ 0 ∷ []) (1 ∷ []) 1 plain early gf2_laws late_shape.is_matrix ple_of_late

pivot_two_refuted : ArePivots late (2 ∷ []) → ⊥
pivot_two_refuted other = let same = same_pivots late (1 ∷ []) (2 ∷ []) pivots_of_late other in absurd (omega (arith, ap (λ (q : List ℕ). slice_index q 0) same))

rank_two_refuted : IsRank late 2 → ⊥
rank_two_refuted other = let same = same_rank late 1 2 rank_of_late other in absurd (omega arith)

-- no factors have the rows in the order 0 1, with these
rows_in_order : (r : ℕ) → IsPle late (0 ∷ 1 ∷ []) (1 ∷ []) r plain early → ⊥
unfolding mul clmul sum_below bits_within rem_within table
rows_in_order r ple = eqb-false 0 1 refl (ple.rows 0 1 (omega arith) (omega arith))

-- its column 2 is free, and its column 0, with no coefficients at all
column_two_free : IsFree late 2
unfolding mul clmul sum_below bits_within rem_within
column_two_free = record {
  coefficients = λ t. t;
  elements = λ t below. below;
  combined = below_two (λ i. at late i 2 ≡ sum_below 2 (λ t. mul gf2 t (at late i t))) refl refl;
}

column_zero_free : IsFree late 0
unfolding sum_below
column_zero_free = record {
  coefficients = λ t. 0;
  elements = λ t below. omega arith;
  combined = below_two (λ i. at late i 0 ≡ sum_below 0 (λ t. mul gf2 0 (at late i t))) refl refl;
}

-- the PLUQ: columns 1 0 2, U = 101/000
abbrev upper : Matrix
upper = bits 2 3 ((1 ∷ 0 ∷ 1 ∷ []) ∷ (0 ∷ 0 ∷ 0 ∷ []) ∷ [])

pluq_of_late : IsPluq late (1 ∷ 0 ∷ []) (1 ∷ 0 ∷ 2 ∷ []) 1 plain upper
unfolding mul clmul sum_below bits_within rem_within table exchanged
pluq_of_late = record {
  order = order_passed 2 (1 ∷ 0 ∷ []) refl;
  pivots = 1 ∷ [];
  are_pivots = pivots_of_late;
  rank = refl;
  columns = refl;
  l_shape = plain_shape;
  l_form = unit_lower_passed 1 plain refl;
  u_shape = shape_passed 2 3 ((1 ∷ 0 ∷ 1 ∷ []) ∷ (0 ∷ 0 ∷ 0 ∷ []) ∷ []) refl;
  u_form = upper_passed 1 upper refl;
  entries = same_passed 2 3 (λ i j. at late (slice_index (1 ∷ 0 ∷ []) i) (slice_index (1 ∷ 0 ∷ 2 ∷ []) j)) (at (product plain upper)) refl;
}

-- the columns in any other order are refused
other_columns : (r : ℕ) (L U : Matrix) → IsPluq late (1 ∷ 0 ∷ []) (1 ∷ 2 ∷ 0 ∷ []) r L U → ⊥
unfolding exchanged
other_columns r L U pluq =
    let pivots : pluq.pivots ≡ 1 ∷ [] = same_pivots late pluq.pivots (1 ∷ []) pluq.are_pivots pivots_of_late in
    eqb-false 2 0 refl (ap (λ (c : List ℕ). slice_index c 1) (pluq.columns ∙ ap (swaps 3) pivots))

-- ---- a PLE of 11/11 in place: L = 10/11 and E = 11/00 are stored as 11/10

abbrev ones : Matrix
ones = bits 2 2 ((1 ∷ 1 ∷ []) ∷ (1 ∷ 1 ∷ []) ∷ [])

ones_shape : HasShape gf2 2 2 ones
ones_shape = shape_passed 2 2 ((1 ∷ 1 ∷ []) ∷ (1 ∷ 1 ∷ []) ∷ []) refl

abbrev lower : Matrix
lower = bits 2 2 ((1 ∷ 0 ∷ []) ∷ (1 ∷ 1 ∷ []) ∷ [])

abbrev top : Matrix
top = bits 2 2 ((1 ∷ 1 ∷ []) ∷ (0 ∷ 0 ∷ []) ∷ [])

ple_of_ones : IsPle ones (0 ∷ 1 ∷ []) (0 ∷ []) 1 lower top
unfolding mul clmul sum_below bits_within rem_within table
ple_of_ones = record {
  order = order_passed 2 (0 ∷ 1 ∷ []) refl;
  rank = refl;
  l_shape = shape_passed 2 2 ((1 ∷ 0 ∷ []) ∷ (1 ∷ 1 ∷ []) ∷ []) refl;
  l_form = unit_lower_passed 1 lower refl;
  e_shape = shape_passed 2 2 ((1 ∷ 1 ∷ []) ∷ (0 ∷ 0 ∷ []) ∷ []) refl;
  e_form = echelon_passed top (0 ∷ []) refl;
  rows = same_passed 2 2 (λ i j. at ones (slice_index (0 ∷ 1 ∷ []) i) j) (at (product lower top)) refl;
}

stored_ones : Stored (bits 2 2 ((1 ∷ 1 ∷ []) ∷ (1 ∷ 0 ∷ []) ∷ [])) (0 ∷ []) lower top
unfolding table
stored_ones = record {
  table = refl;
  l_form = unit_lower_passed 1 lower refl;
  e_zeros = echelon_zeros_passed top (0 ∷ []) refl;
}

-- E alone doesn't store them
not_stored : Stored top (0 ∷ []) lower top → ⊥
unfolding table
not_stored other = eqb-false 0 1 refl (ap (λ (W : Matrix). at W 1 0) other.table)

-- its PLUQ is the same, and stored the same
stored_pluq_of_ones : StoredPluq (bits 2 2 ((1 ∷ 1 ∷ []) ∷ (1 ∷ 0 ∷ []) ∷ [])) 1 lower top
unfolding table
stored_pluq_of_ones = record {
  table = refl;
  l_form = unit_lower_passed 1 lower refl;
  u_zeros = (upper_passed 1 top refl).zeros;
}

-- ---- the reduced form of 011/010/000 is 010/001/000

abbrev three : Matrix
three = bits 3 3 ((0 ∷ 1 ∷ 1 ∷ []) ∷ (0 ∷ 1 ∷ 0 ∷ []) ∷ (0 ∷ 0 ∷ 0 ∷ []) ∷ [])

three_shape : HasShape gf2 3 3 three
three_shape = shape_passed 3 3 ((0 ∷ 1 ∷ 1 ∷ []) ∷ (0 ∷ 1 ∷ 0 ∷ []) ∷ (0 ∷ 0 ∷ 0 ∷ []) ∷ []) refl

abbrev form : Matrix
form = bits 3 3 ((0 ∷ 1 ∷ 0 ∷ []) ∷ (0 ∷ 0 ∷ 1 ∷ []) ∷ (0 ∷ 0 ∷ 0 ∷ []) ∷ [])

reduced_three : IsReduced form three
unfolding mul clmul sum_below bits_within rem_within table
reduced_three = record {
  shape = shape_passed 3 3 ((0 ∷ 1 ∷ 0 ∷ []) ∷ (0 ∷ 0 ∷ 1 ∷ []) ∷ (0 ∷ 0 ∷ 0 ∷ []) ∷ []) refl;
  pivots = 1 ∷ 2 ∷ [];
  reduced = reduced_passed form (1 ∷ 2 ∷ []) refl refl;
  to = bits 3 3 ((0 ∷ 1 ∷ 0 ∷ []) ∷ (1 ∷ 1 ∷ 0 ∷ []) ∷ (0 ∷ 0 ∷ 1 ∷ []) ∷ []);
  to_shape = shape_passed 3 3 ((0 ∷ 1 ∷ 0 ∷ []) ∷ (1 ∷ 1 ∷ 0 ∷ []) ∷ (0 ∷ 0 ∷ 1 ∷ []) ∷ []) refl;
  made = refl;
  back = bits 3 3 ((1 ∷ 1 ∷ 0 ∷ []) ∷ (1 ∷ 0 ∷ 0 ∷ []) ∷ (0 ∷ 0 ∷ 1 ∷ []) ∷ []);
  back_shape = shape_passed 3 3 ((1 ∷ 1 ∷ 0 ∷ []) ∷ (1 ∷ 0 ∷ 0 ∷ []) ∷ (0 ∷ 0 ∷ 1 ∷ []) ∷ []) refl;
  unmade = refl;
}

-- 011/001/000 isn't
not_reduced : IsReduced (bits 3 3 ((0 ∷ 1 ∷ 1 ∷ []) ∷ (0 ∷ 0 ∷ 1 ∷ []) ∷ (0 ∷ 0 ∷ 0 ∷ []) ∷ [])) three → ⊥
not_reduced other =
    let same = same_reduced three gf2_laws three_shape.is_matrix
    (bits 3 3 ((0 ∷ 1 ∷ 1 ∷ []) ∷ (0 ∷ 0 ∷ 1 ∷ []) ∷ (0 ∷ 0 ∷ 0 ∷ []) ∷ [])) form other reduced_three in
    eqb-false 1 0 refl (ap (λ (R : Matrix). at R 0 2) same)

-- ---- 11/01 is its own inverse, and 11/11 is singular

abbrev shear : Matrix
shear = bits 2 2 ((1 ∷ 1 ∷ []) ∷ (0 ∷ 1 ∷ []) ∷ [])

shear_shape : HasShape gf2 2 2 shear
shear_shape = shape_passed 2 2 ((1 ∷ 1 ∷ []) ∷ (0 ∷ 1 ∷ []) ∷ []) refl

inverse_of_shear : IsInverse shear shear
unfolding mul clmul sum_below bits_within rem_within table
inverse_of_shear = record { square = refl; shape = shear_shape; right = refl; left = refl }

-- the identity isn't its inverse
not_inverse : IsInverse plain shear → ⊥
unfolding table
not_inverse other =
    let same = same_inverse shear gf2_laws shear_shape.is_matrix plain shear other inverse_of_shear in
    eqb-false 0 1 refl (ap (λ (X : Matrix). at X 0 1) same)

ones_singular : Singular ones
unfolding mul clmul sum_below bits_within rem_within table
ones_singular = record {
  square = refl;
  v = bits 2 1 ((1 ∷ []) ∷ (1 ∷ []) ∷ []);
  shape = shape_passed 2 1 ((1 ∷ []) ∷ (1 ∷ []) ∷ []) refl;
  nonzero = λ same. eqb-false 1 0 refl (ap (λ (v : Matrix). at v 0 0) same);
  killed = refl;
}

-- so nothing is its inverse, and 11/01 isn't singular
no_inverse_of_ones : (X : Matrix) → IsInverse X ones → ⊥
no_inverse_of_ones X inverse = inverse_refuted ones gf2_laws ones_shape.is_matrix X inverse ones_singular

shear_not_singular : Singular shear → ⊥
shear_not_singular = inverse_refuted shear gf2_laws shear_shape.is_matrix shear inverse_of_shear

-- ---- 11/00: with 1/0 the solution is 1/0, and with 1/1 there is none

top_shape : HasShape gf2 2 2 top
top_shape = shape_passed 2 2 ((1 ∷ 1 ∷ []) ∷ (0 ∷ 0 ∷ []) ∷ []) refl

pivots_of_top : ArePivots top (0 ∷ [])
pivots_of_top = pivots_of_echelon top gf2_laws top_shape.is_matrix (0 ∷ []) (echelon_passed top (0 ∷ []) refl)

abbrev first : Matrix
first = bits 2 1 ((1 ∷ []) ∷ (0 ∷ []) ∷ [])

first_shape : HasShape gf2 2 1 first
first_shape = shape_passed 2 1 ((1 ∷ []) ∷ (0 ∷ []) ∷ []) refl

solution_of_top : IsSolution first top first
unfolding mul clmul sum_below bits_within rem_within table
solution_of_top = record {
  shape = first_shape;
  solves = refl;
  zeros = λ j k below free in_cols.
      below_two (λ j. IsFree top j → at first j k ≡ 0)
      (λ at_pivot. absurd (pivots_of_top.unfree 0 (omega arith) at_pivot))
      (λ at_one. below_one (λ k. at first 1 k ≡ 0) refl k in_cols)
      j below free;
}

-- 0/1 solves the equation too, but its row at the free column isn't zero
not_the_solution : IsSolution (bits 2 1 ((0 ∷ []) ∷ (1 ∷ []) ∷ [])) top first → ⊥
not_the_solution other =
    let same = same_solution top gf2_laws top_shape.is_matrix (bits 2 1 ((0 ∷ []) ∷ (1 ∷ []) ∷ [])) first first other solution_of_top in
    eqb-false 0 1 refl (ap (λ (X : Matrix). at X 0 0) same)

no_solution_of_top : NoSolution top (bits 2 1 ((1 ∷ []) ∷ (1 ∷ []) ∷ []))
no_solution_of_top X shape solves =
    eqb-false 0 1 refl
    (sym (times-zero_row gf2 gf2_laws 2 (at top) (at X) 1 0 (below_two (λ t. at top 1 t ≡ 0) refl refl))
    ∙ sym (at-product top_shape shape 1 0 (omega arith) (omega arith))
    ∙ ap (λ (B : Matrix). at B 1 0) solves)

-- and with 1/0 it isn't so that there is none
not_without_solution : NoSolution top first → ⊥
not_without_solution = solution_refuted top gf2_laws top_shape.is_matrix first first solution_of_top

-- ---- the kernel of 110/011 is 111

abbrev chain : Matrix
chain = bits 2 3 ((1 ∷ 1 ∷ 0 ∷ []) ∷ (0 ∷ 1 ∷ 1 ∷ []) ∷ [])

chain_shape : HasShape gf2 2 3 chain
chain_shape = shape_passed 2 3 ((1 ∷ 1 ∷ 0 ∷ []) ∷ (0 ∷ 1 ∷ 1 ∷ []) ∷ []) refl

pivots_of_chain : ArePivots chain (0 ∷ 1 ∷ [])
pivots_of_chain = pivots_of_echelon chain gf2_laws chain_shape.is_matrix (0 ∷ 1 ∷ []) (echelon_passed chain (0 ∷ 1 ∷ []) refl)

free_of_chain : AreFree chain (2 ∷ [])
unfolding mul clmul sum_below bits_within rem_within
free_of_chain = record {
  rising = rising_passed (2 ∷ []) refl;
  columns = below_one (λ k. slice_index (2 ∷ []) k < 3) (omega arith);
  free = below_one (λ k. IsFree chain (slice_index (2 ∷ []) k)) (record {
    coefficients = λ t. 1;
    elements = λ t below. omega arith;
    combined = below_two (λ i. at chain i 2 ≡ sum_below 2 (λ t. mul gf2 1 (at chain i t))) refl refl;
  });
  others = below_three (λ j. (Contains (2 ∷ []) j → ⊥) → IsFree chain j → ⊥)
      (λ outside free. pivots_of_chain.unfree 0 (omega arith) free)
      (λ outside free. pivots_of_chain.unfree 1 (omega arith) free)
      (λ outside free. outside (0, omega arith, refl));
}

kernel_of_chain : IsKernel (bits 1 3 ((1 ∷ 1 ∷ 1 ∷ []) ∷ [])) chain
unfolding mul clmul sum_below bits_within rem_within table
kernel_of_chain = record {
  free = 2 ∷ [];
  are_free = free_of_chain;
  shape = shape_passed 1 3 ((1 ∷ 1 ∷ 1 ∷ []) ∷ []) refl;
  killed = refl;
  units = same_passed 1 1 (λ i t. at (bits 1 3 ((1 ∷ 1 ∷ 1 ∷ []) ∷ [])) i (slice_index (2 ∷ []) t)) unit_at refl;
}

-- 001 isn't
not_the_kernel : IsKernel (bits 1 3 ((0 ∷ 0 ∷ 1 ∷ []) ∷ [])) chain → ⊥
not_the_kernel other =
    let same = same_kernel chain gf2_laws chain_shape.is_matrix (bits 1 3 ((0 ∷ 0 ∷ 1 ∷ []) ∷ [])) (bits 1 3 ((1 ∷ 1 ∷ 1 ∷ []) ∷ [])) other kernel_of_chain in
    eqb-false 0 1 refl (ap (λ (K : Matrix). at K 0 0) same)
