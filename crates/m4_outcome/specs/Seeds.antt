-- Generated matrices that a command names, and what a trial tells of one.
use Rattle.std.specs.Prelude.{◌≡◌, ℕ, List, Bool, nat_lt, sum_by, count_by}
use Rattle.m4_model.specs.Field.{Field, IsField}
use Rattle.m4_model.specs.Matrix.{Matrix}
use Rattle.m4_model.specs.Rank.{IsRank}
use Rattle.m4_model.specs.Forms.{IsReduced}
use Rattle.m4_model.specs.Generated.{generated}
use Rattle.m4_outcome.specs.RankLines.{trial_text}
use Rattle.m4_outcome.specs.declared.command.Seeded.{Seeded}
use Rattle.m4_outcome.specs.declared.command.Command.{Command}
use Rattle.m4_outcome.specs.declared.command.Command.TheVariants.{Make, Trial}

-- The field of a generated matrix.
abbrev pub field_of_seeded : Seeded → Field
field_of_seeded seeded = record { degree = seeded.degree; poly = seeded.poly }

-- The matrix itself.
abbrev pub seeded_matrix : Seeded → Matrix
seeded_matrix seeded = generated (field_of_seeded seeded) seeded.rows seeded.cols seeded.seed

-- A command that names a generated matrix names a field for it.
abbrev pub HasField : Command → Type 0
HasField (Make seeded) = IsField (field_of_seeded seeded)
HasField (Trial seeded) = IsField (field_of_seeded seeded)
HasField command = Unit {0}

-- How many entries of a matrix aren't zero.
abbrev pub nonzeros : Matrix → ℕ
nonzeros A = sum_by (count_by (nat_lt 0)) A.entries

-- The lines tell the rank of this matrix, and how many entries of its reduced form aren't zero.
pub record IsTrialText (A : Matrix) (lines : List ℕ) : Type 0 where
  pub rank : ℕ
  pub form : Matrix
  pub has_rank : IsRank A rank
  pub reduced : IsReduced form A
  pub text : lines ≡ trial_text rank (nonzeros form)
