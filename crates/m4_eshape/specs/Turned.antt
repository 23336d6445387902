-- Numbers of a few bits each that are packed in the rows of a matrix of bits, turned.
use Rattle.std.specs.Prelude.{ℕ, ◌+◌, ◌*◌, ◌/◌, ◌%◌}
use Rattle.m4_model.specs.Field.{gf2}
use Rattle.m4_model.specs.Matrix.{Matrix, matrix_of, at}

-- Number j of row i is number i of row j, bit by bit, where each takes w bits.
abbrev pub numbers_turned : ℕ → Matrix → Matrix
numbers_turned w A = matrix_of gf2 (A.cols / w) (A.rows * w) (λ i p. at A (p / w) (i * w + p % w))
