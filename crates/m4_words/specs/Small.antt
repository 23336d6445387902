-- Numbers that an option chooses.
use Rattle.std.specs.Prelude.{ℕ, ◌≤◌}
use Rattle.std.specs.Option.{ForSome}
use Rattle.m4_outcome.specs.declared.choices.Choices.{Choices}
use Rattle.m4_model.specs.declared.algo.TheConstants.{LEAST_CUTOFF, MOST_CUTOFF}

-- It lies between 1 and 8.
pub record IsSmall (n : ℕ) : Type 0 where
  pub low : 1 ≤ n
  pub high : n ≤ 8

-- It lies between the least and the greatest cutoff.
pub record IsCutoff (n : ℕ) : Type 0 where
  pub low : LEAST_CUTOFF ≤ n
  pub high : n ≤ MOST_CUTOFF

-- The numbers that are chosen lie between their bounds.
pub record AreSmall (choices : Choices) : Type 0 where
  pub small_k : ForSome choices.k IsSmall
  pub few_tables : ForSome choices.tables IsSmall
  pub within : ForSome choices.cutoff IsCutoff
