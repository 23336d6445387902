-- Rectangles of a matrix, by their first and last rows and columns.
use Rattle.std.specs.Prelude.{◌≡◌, ◌≢◌, ℕ, ◌%◌, Result, Ok, Err}
use Rattle.m4_model.specs.Shapes.{LiesInside}
use Rattle.m4_mzd.specs.declared.rect.Rect.{Rect}
use Rattle.m4_mzd.specs.declared.rect.RectFault.{RectFault}
use Rattle.m4_mzd.specs.declared.rect.RectFault.TheVariants.{Unaligned, Outside}

-- The rectangle lies in a matrix of so many rows and columns.
abbrev pub IsInside : Rect → ℕ → ℕ → Type 0
IsInside rect rows cols = LiesInside rect.r0 rect.c0 rect.r1 rect.c1 rows cols

-- What the check of a rectangle answers: its first column is a multiple of the step, or it is not; where it is, the
-- rectangle lies inside, or it does not.
abbrev pub CheckGives : Rect → ℕ → ℕ → ℕ → Result Unit RectFault → Type 0
CheckGives rect rows cols step (Ok _) = (rect.c0 % step ≡ 0) × IsInside rect rows cols
CheckGives rect rows cols step (Err Unaligned) = rect.c0 % step ≢ 0
CheckGives rect rows cols step (Err Outside) = (rect.c0 % step ≡ 0) × (IsInside rect rows cols → ⊥)
