-- How many pivots a PLE has, and where they stand.
use Rattle.std.proofs.Common.{ℕ, ◌<◌, ◌≤◌, List, length, slice_index, arith}
use Rattle.m4_model.specs.Matrix.{Matrix}
use Rattle.m4_model.proofs.ExchangeLemmas.{rising_room}
use Rattle.m4_ple.specs.Held.{HoldsPle}

module _ (A : Matrix) (p q : List ℕ) (W : Matrix) (h : HoldsPle A p q W) where
  pub pivots_inside : (i : ℕ) → i < length q → slice_index q i < A.cols
  pivots_inside i below = let e = h.factors.e_form.columns i below in let c = h.factors.e_shape.cols in omega (arith, e, c)

  pub few_pivots : length q ≤ A.cols
  few_pivots = rising_room q A.cols h.factors.e_form.rising pivots_inside
