-- One more right side.
use Rattle.std.proofs.Common.{List, [], ◌∷◌, ◌++◌, Option}
use Rattle.m4_model.specs.Matrix.{Matrix}
use Rattle.m4_elim.specs.Answers.{TellsSolution}
use Rattle.m4_examples.specs.Solved.{AreSolved}

-- its answer, behind the answers to those before it
pub solved_more : (A : Matrix) (Bs : List Matrix) (answers : List (Option Matrix)) (B : Matrix) (answer : Option Matrix) → AreSolved A Bs answers → TellsSolution A B answer
    → AreSolved A (Bs ++ B ∷ []) (answers ++ answer ∷ [])
solved_more A [] [] B answer solved last = (last, tt)
solved_more A [] (x ∷ xs) B answer solved last = absurd solved
solved_more A (C ∷ Cs) [] B answer solved last = absurd solved
solved_more A (C ∷ Cs) (x ∷ xs) B answer solved last = (solved.0, solved_more A Cs xs B answer solved.1 last)
