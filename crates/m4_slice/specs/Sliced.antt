-- Matrices of elements as slices: one matrix over GF(2) for each bit of the elements, one below the other.
use Rattle.std.specs.Prelude.{ℕ, ◌+◌, ◌*◌, ◌/◌, ◌%◌, ◌^◌, nat_lt, if◌then◌else◌}
use Rattle.std.specs.Int.{bit_at}
use Rattle.m4_model.specs.Field.{Field, gf2, sum_below}
use Rattle.m4_model.specs.Matrix.{Matrix, matrix_of, at}

-- Slice v of A: the bits v of its entries.
abbrev pub slice_of : ℕ → Matrix → Matrix
slice_of v A = matrix_of gf2 A.rows A.cols (λ i j. bit_at (at A i j) v)

-- The slices of A: entry (i, j) of slice v, in row v m + i where A has m rows, is bit v of entry (i, j).
abbrev pub sliced : Matrix → Matrix
sliced A = matrix_of gf2 (A.field.degree * A.rows) A.cols (λ p j. bit_at (at A (p % A.rows) j) (p / A.rows))

-- The matrix of m rows whose first e slices are these: entry (i, j) has the entry (i, j) of slice v as its bit v.
abbrev pub joined : Field → ℕ → ℕ → Matrix → Matrix
joined F e m S = matrix_of F m S.cols (λ i j. sum_below e (λ v. at S (v * m + i) j * 2 ^ v))

-- The bits v of the numbers of w bits that are packed in the rows of A, for each v the slice of m rows.
abbrev pub bits_gathered : ℕ → ℕ → Matrix → Matrix
bits_gathered w e A = matrix_of gf2 (e * A.rows) (A.cols / w) (λ p j. at A (p % A.rows) (j * w + p / A.rows))

-- The numbers of w bits whose first e bits stand in slices of m rows, and whose others are 0.
abbrev pub bits_spread : ℕ → ℕ → ℕ → Matrix → Matrix
bits_spread w e m S = matrix_of gf2 m (S.cols * w) (λ i p. if nat_lt (p % w) e then at S (p % w * m + i) (p / w) else 0)
