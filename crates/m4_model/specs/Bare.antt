-- Bare text: the lines of a matrix alone, what reads as a matrix, and where a bare text is refused.
use Rattle.std.specs.Prelude.{◌≡◌, ℕ, ◌+◌, ◌<◌, List, length, take, flat_map}
use Rattle.m4_model.specs.Field.{gf2}
use Rattle.m4_model.specs.Matrix.{Matrix, IsMatrix}
use Rattle.m4_model.specs.Text.{line, InLimits, Begins, IsLongest, Fault, BadAt, PastLimit}

-- The bare text of a matrix over GF(2): a line for each row.
abbrev pub bare_text : Matrix → List ℕ
bare_text M = flat_map line M.entries

-- Bare text can hold the matrix. Lines tell the columns, so that without a row there are none.
abbrev pub CanBeBare : Matrix → Type 0
CanBeBare M = M.rows ≡ 0 → M.cols ≡ 0

-- The bytes are read as M: they are its bare text.
pub record ReadsBare (bytes : List ℕ) (M : Matrix) : Type 0 where
  pub accepted : InLimits M
  pub held : CanBeBare M
  pub spelled : bytes ≡ bare_text M

-- A bare file: any number of lines of digits, each as long as the first, whatever the numbers of lines and digits are.
abbrev pub IsBareFile : List ℕ → Type 0
IsBareFile bytes = (M : Matrix) × IsMatrix M × (M.field ≡ gf2) × CanBeBare M × (bytes ≡ bare_text M)

-- A bare file whose matrix is within the limits.
abbrev pub IsBareInLimits : List ℕ → Type 0
IsBareInLimits bytes = (M : Matrix) × ReadsBare bytes M

-- The bytes are no bare file within the limits, and this place is the length of their longest front that begins one.
-- The byte there, if there is one, ends a front that begins no bare file at all.
pub record IsBadBare (bytes : List ℕ) (place : ℕ) : Type 0 where
  pub none : IsBareInLimits bytes → ⊥
  pub longest : IsLongest IsBareInLimits bytes place
  pub wrong : place < length bytes → Begins IsBareFile (take (place + 1) bytes) → ⊥

-- The first byte that isn't accepted ends a front that begins a bare file, but none within the limits. The smallest
-- file that begins so has the columns of the first line and the rows that are begun, each by its first byte: so these
-- columns, these rows or the words of these rows pass their limit. Before the first line has ended, its columns do.
pub record IsLargeBare (bytes : List ℕ) (place : ℕ) : Type 0 where
  pub inside : place < length bytes
  pub longest : IsLongest IsBareInLimits bytes place
  pub allowed : Begins IsBareFile (take (place + 1) bytes)

-- The bytes are refused as a bare text, with this fault.
abbrev pub RefusalBare : List ℕ → Fault → Type 0
RefusalBare bytes (BadAt place) = IsBadBare bytes place
RefusalBare bytes PastLimit = (place : ℕ) × IsLargeBare bytes place
