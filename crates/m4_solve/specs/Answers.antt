-- What the calls of this crate answer.
use Rattle.m4_model.specs.Matrix.{Matrix}
use Rattle.m4_model.specs.Forms.{IsInverse, Singular, IsSolution, NoSolution}
use Rattle.m4_solve.specs.declared.answers.Inverse.{Inverse}
use Rattle.m4_solve.specs.declared.answers.Inverse.TheVariants as inverses
use Rattle.m4_solve.specs.declared.answers.Solution.{Solution}
use Rattle.m4_solve.specs.declared.answers.Solution.TheVariants as solutions

-- The inverse of A, or that A is singular.
abbrev pub TellsInverse : Matrix → Inverse → Type 0
TellsInverse A (inverses.Is x) = IsInverse x A
TellsInverse A inverses.Singular = Singular A

-- The solution of A X = B whose rows at the free columns of A are zero, or that there is none.
abbrev pub TellsSolution : Matrix → Matrix → Solution → Type 0
TellsSolution A B (solutions.Is x) = IsSolution x A B
TellsSolution A B solutions.NoSolution = NoSolution A B
