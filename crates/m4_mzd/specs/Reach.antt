-- How large the products are that an engine takes.
use Rattle.std.specs.Prelude.{ℕ, ◌≤◌}
use Rattle.m4_mzd.specs.declared.add_mul.Shape.{Shape}

-- The product of an m x l matrix and an l x n matrix is no larger than the shape.
pub record IsReached (shape : Shape) (m l n : ℕ) : Type 0 where
  pub rows : m ≤ shape.m
  pub inner : l ≤ shape.l
  pub cols : n ≤ shape.n
