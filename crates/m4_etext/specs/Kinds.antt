-- How the code tells the spelling of a text, beside the field of its matrix.
use Rattle.std.specs.Prelude.{◌≡◌, ℕ, ◌+◌, ◌<◌, List, slice_index}
use Rattle.std.specs.Int.{bit_at}
use Rattle.m4_model.specs.Field.{Field, gf2}
use Rattle.m4_model.specs.Matrix.{Matrix, row, with_row}
use Rattle.m4_model.specs.Headed.{Spelling, Bits, Fours, Elements}
use Rattle.m4_etext.specs.Pieces.{IsRow}
use Rattle.m4_etext.specs.declared.kind.Kind.{Kind}
use Rattle.m4_etext.specs.declared.kind.Kind.TheVariants.{OfBits, OfFours, OfElements}

-- The spelling of a matrix over this field.
abbrev pub spelled_by : Kind → Field → Spelling
spelled_by OfBits F = Bits
spelled_by OfFours F = Fours
spelled_by OfElements F = Elements F

-- It spells matrices over this field.
abbrev pub Suits : Kind → Field → Type 0
Suits OfBits F = F ≡ gf2
Suits OfFours F = F ≡ gf2
Suits OfElements F = Unit {0}

-- The new matrix has other entries in row r: those before column q are as they were, and from there on they are the lowest
-- `len` bits of a number, as far as there are columns. What it has behind them is anything.
pub record WritesBits (old new : Matrix) (r q len value : ℕ) : Type 0 where
  pub entries : List ℕ
  pub is : IsRow old.field old.cols entries
  pub changed : new ≡ with_row old r entries
  pub before : (j : ℕ) → j < q → slice_index entries j ≡ slice_index (row old r) j
  pub written : (i : ℕ) → i < len → q + i < old.cols → slice_index entries (q + i) ≡ bit_at value i
