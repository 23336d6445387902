-- An answer, or that there is none.
use Rattle.std.specs.Prelude.{Option, Some, None}
use Rattle.m4_model.specs.Matrix.{Matrix}
use Rattle.m4_model.specs.Forms.{IsInverse, Singular, IsSolution, NoSolution}

-- The inverse of A, or that A is singular.
abbrev pub TellsInverse : Matrix → Option Matrix → Type 0
TellsInverse A (Some X) = IsInverse X A
TellsInverse A None = Singular A

-- The solution of A X = B whose rows at the free columns of A are zero, or that there is none.
abbrev pub TellsSolution : Matrix → Matrix → Option Matrix → Type 0
TellsSolution A B (Some X) = IsSolution X A B
TellsSolution A B None = NoSolution A B
