-- The answers of the code, as the definitions see them.
use Rattle.std.specs.Prelude.{codes}
use Rattle.m4_outcome.specs.Outcome.{OneMatrix, Lines, NoAnswer}
use Rattle.m4_outcome.specs.RankLines.{rank_line, trial_text}
use Rattle.m4_outcome.specs.Outcome.{Answer as Answered}
use Rattle.m4_cmd.specs.Factors.{ple_text, pluq_text}
use Rattle.m4_cmd.specs.declared.answer.Answer.{Answer}
use Rattle.m4_cmd.specs.declared.answer.Answer.TheVariants as answers

abbrev pub answer_told : Answer → Answered
answer_told (answers.Matrix m) = OneMatrix m
answer_told (answers.Rank r) = Lines (rank_line r)
answer_told (answers.Trial r n) = Lines (trial_text r n)
answer_told (answers.Ple f) = Lines (ple_text f)
answer_told (answers.Pluq f) = Lines (pluq_text f)
answer_told answers.Singular = NoAnswer (codes "singular\n")
answer_told answers.NoSolution = NoAnswer (codes "no solution\n")
