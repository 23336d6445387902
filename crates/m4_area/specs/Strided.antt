-- The words of a rectangle in memory: rows of words that lie side by side, each row `step` bytes after the one above.
use Rattle.std.specs.Prelude.{◌≡◌, ℕ, ◌+◌, ◌*◌, List, [], ◌∷◌}
use base.Fraction.{full_share}
use base.Fml.{Lft, Fml, ftrue, fsep}
use denote.Builtin.{u64}
use denote.Index.{row}
use denote.RawPtr.{Ptr, block_ptr, count_of}
use denote.Slice.{elements_shared}

-- The right to read and write the words of each row, the first of which lies at the byte `first` of the block.
abbrev pub strided_owns : ℕ → ℕ → ℕ → List (List ℕ) → Fml
strided_owns block first step [] = ftrue
strided_owns block first step (r ∷ rs) =
    fsep (row u64 full_share r block first) (strided_owns block (first + step) step rs)

-- The right to read them for a while.
abbrev pub strided_shares : ℕ → ℕ → ℕ → List (List ℕ) → Lft → Fml
strided_shares block first step [] κ = ftrue
strided_shares block first step (r ∷ rs) κ =
    fsep (elements_shared u64 r block first κ) (strided_shares block (first + step) step rs κ)

-- Row r of an area begins so many words after the pointer.
pub record IsRowAt (block first step : ℕ) (base : Ptr) (start r : ℕ) : Type 0 where
  pub within : base ≡ block_ptr block (count_of base)
  pub byte : count_of base + start * 8 ≡ first + r * step
