-- What the calls of this crate leave in a matrix: its factors, in its own place.
use Rattle.std.specs.Prelude.{ℕ, List, length}
use Rattle.m4_model.specs.Matrix.{Matrix}
use Rattle.m4_model.specs.Factors.{IsPle, Stored, IsPluq, StoredPluq}

-- W holds a PLE of A in the place of A: its rows are in the order p, and the pivots are q.
pub record HoldsPle (A : Matrix) (p q : List ℕ) (W : Matrix) : Type 0 where
  pub l : Matrix
  pub e : Matrix
  pub factors : IsPle A p q (length q) l e
  pub stored : Stored W q l e

-- W holds a PLUQ of A in the place of A: its rows are in the order p, its columns in the order c, and its rank is r.
pub record HoldsPluq (A : Matrix) (p c : List ℕ) (r : ℕ) (W : Matrix) : Type 0 where
  pub l : Matrix
  pub u : Matrix
  pub factors : IsPluq A p c r l u
  pub stored : StoredPluq W r l u
