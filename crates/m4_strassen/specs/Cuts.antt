-- Where a product is cut, and what its quarters make.
use Rattle.std.specs.Prelude.{◌≡◌, ℕ, ◌+◌, ◌%◌, ◌^◌, ◌<◌, ◌≤◌}
use Rattle.m4_model.specs.Matrix.{added}
use Rattle.m4_model.specs.Recursion.{Quartered, level_words, need}
use Rattle.m4_strassen.specs.declared.halves.Cut.{Cut}

-- The cutoff is one that is taken, and the quarters have rows, and end where words do.
pub record IsCut (cut : Cut) : Type 0 where
  pub least : 64 ≤ cut.cutoff
  pub few : cut.cutoff ≤ 2 ^ 16
  pub some_rows : 0 < cut.m
  pub whole_inner : cut.l % 64 ≡ 0
  pub whole_cols : cut.n % 64 ≡ 0

-- Twice the sides of the quarters are no greater than those of an m x l and an l x n matrix.
pub record IsWithin (cut : Cut) (m l n : ℕ) : Type 0 where
  pub rows : cut.m + cut.m ≤ m
  pub inner : cut.l + cut.l ≤ l
  pub cols : cut.n + cut.n ≤ n

-- The words that the windows of the level and a product of quarters take.
abbrev pub words_for_cut : Cut → ℕ
words_for_cut cut = level_words cut.m cut.l cut.n + need cut.m cut.l cut.n cut.cutoff

-- Sums of quarters.
abbrev pub added_quarters : Quartered → Quartered → Quartered
added_quarters C D = record {
  top_left = added C.top_left D.top_left;
  top_right = added C.top_right D.top_right;
  bottom_left = added C.bottom_left D.bottom_left;
  bottom_right = added C.bottom_right D.bottom_right;
}
