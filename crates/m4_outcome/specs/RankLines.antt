-- The lines that tell a rank, and what else a trial counts.
use Rattle.std.specs.Prelude.{ℕ, List, ◌++◌, codes, decimal}

-- The line of a rank.
abbrev pub rank_line : ℕ → List ℕ
rank_line r = codes "rank " ++ (decimal r ++ codes "\n")

-- The lines of a trial: the rank, and how many entries of the reduced form aren't zero.
abbrev pub trial_text : ℕ → ℕ → List ℕ
trial_text r n = rank_line r ++ (codes "nonzeros " ++ (decimal n ++ codes "\n"))
