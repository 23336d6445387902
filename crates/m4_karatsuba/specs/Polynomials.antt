-- Matrices of polynomials over GF(2), as slices that lie one below the other, and their sums and products.
use Rattle.std.specs.Prelude.{ℕ, ◌+◌, ◌-◌, ◌*◌, ◌^◌, nat_lt, bit_xor, if◌then◌else◌}
use Rattle.m4_model.specs.Field.{sum_below, clmul}
use Rattle.m4_model.specs.Matrix.{Matrix, matrix_of, at}

-- The polynomial in row i and column j of e slices of m rows each: its coefficient of x^v stands in slice v.
unfoldable pub polynomial : ℕ → ℕ → Matrix → ℕ → ℕ → ℕ
polynomial e m S i j = sum_below e (λ v. at S (v * m + i) j * 2 ^ v)

-- The entry in row i and column j of the product of an m x l matrix and a matrix of l rows, of e slices each.
unfoldable pub product_at : ℕ → ℕ → ℕ → Matrix → Matrix → ℕ → ℕ → ℕ
product_at e m l A B i j = sum_below l (λ t. clmul (polynomial e m A i t) (polynomial e l B t j))

-- A with the rows of B added to its own from row r on.
abbrev pub added_from : ℕ → Matrix → Matrix → Matrix
added_from r A B = matrix_of A.field A.rows A.cols (λ p j. if nat_lt p r then at A p j else bit_xor (at A p j) (at B (p - r) j))
