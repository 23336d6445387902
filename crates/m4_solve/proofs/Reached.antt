-- What an engine reaches that serves for a matrix and for right sides.
use Rattle.std.proofs.Common.{ℕ, ◌≤◌, arith}
use Rattle.m4_mzd.specs.Reach.{IsReached}
use Rattle.m4_mzd.specs.declared.add_mul.Shape.{Shape}

-- products of at most m rows and w columns, with an inner number that is no more than m and w
pub reached_for : (limits : Shape) (m w i l j : ℕ) → ((l : ℕ) → l ≤ m → l ≤ w → IsReached limits m l w) → i ≤ m → l ≤ m → l ≤ w → j ≤ w → IsReached limits i l j
reached_for limits m w i l j reached high inner inner_too cols =
    let whole = reached l inner inner_too in
    let rows = whole.rows in
    let wide = whole.cols in
    record { rows = omega (arith, rows, high); inner = whole.inner; cols = omega (arith, wide, cols) }
