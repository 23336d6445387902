-- Where bytes go wrong, told part by part.
use Rattle.std.specs.Prelude.{◌≡◌, ℕ, ◌-◌, ◌^◌, ◌<◌, ◌≤◌, ◌⊎◌, false, List, [], ◌∷◌, ◌++◌, length, take, drop, slice_index}
use Rattle.std.specs.Fmt.{digits, digit_glyph}
use Rattle.m4_model.specs.Text.{IsLongest}
use Rattle.m4_model.specs.Headed.{Spelling, IsSpelling, AreHeaderNumbers, opening, header}

-- The bytes go wrong at this place: the front before it is the longest that begins a text with P, and isn't one yet.
pub record GoesWrong (P : List ℕ → Type 0) (bytes : List ℕ) (place : ℕ) : Type 0 where
  pub longest : IsLongest P bytes place
  pub unfinished : P (take place bytes) → ⊥

-- The bytes from `start` on go wrong at this place, counted from the first of all bytes.
pub record GoesWrongFrom (P : List ℕ → Type 0) (bytes : List ℕ) (start place : ℕ) : Type 0 where
  pub behind : start ≤ place
  pub wrong : GoesWrong P (drop start bytes) (place - start)

-- The byte is the digit of this value, below 16.
pub record IsValue (byte v : ℕ) : Type 0 where
  pub small : v < 16
  pub glyph : byte ≡ digit_glyph false v

-- The byte is a digit in this base.
abbrev pub IsDigitIn : ℕ → ℕ → Type 0
IsDigitIn base byte = (v : ℕ) × IsValue byte v × (v < base)

-- A number of at most so many digits in a base, and the byte that ends it.
abbrev pub IsNumber : ℕ → ℕ → ℕ → List ℕ → Type 0
IsNumber base most ending bytes = (n : ℕ) × (n < base ^ most) × (bytes ≡ digits base false n ++ ending ∷ [])

-- The byte goes on with a number of which `len` digits, worth `value`, are there: it is the digit of d, they are fewer than
-- the most, and they aren't a zero.
pub record IsNext (base most value len byte d : ℕ) : Type 0 where
  pub digit : IsValue byte d
  pub small : d < base
  pub room : len < most
  pub nonzero : (len ≡ 0) ⊎ (0 < value)

abbrev pub Lengthens : ℕ → ℕ → ℕ → ℕ → ℕ → Type 0
Lengthens base most value len byte = (d : ℕ) × IsNext base most value len byte d

-- The first `len` bytes are digits that spell `value`, and the next byte doesn't go on with it.
pub record IsLeadingNumber (base most : ℕ) (bytes : List ℕ) (value len : ℕ) : Type 0 where
  pub within : len ≤ length bytes
  pub small : value < base ^ most
  pub spelled : 0 < len → take len bytes ≡ digits base false value
  pub stops : len < length bytes → Lengthens base most value len (slice_index bytes len) → ⊥

-- From `start` on the bytes spell this number and the byte that ends it, and go on at the place `end`.
pub record IsNumberAt (base most : ℕ) (bytes : List ℕ) (start ending value end : ℕ) : Type 0 where
  pub within : end ≤ length bytes
  pub small : value < base ^ most
  pub spelled : drop start bytes ≡ (digits base false value ++ ending ∷ []) ++ drop end bytes

-- What stands before the numbers of rows and columns.
abbrev pub IsOpening : List ℕ → Type 0
IsOpening bytes = (S : Spelling) × IsSpelling S × (bytes ≡ opening S)

-- The bytes begin with that of this spelling, which ends before this place.
pub record IsOpeningOf (bytes : List ℕ) (S : Spelling) (end : ℕ) : Type 0 where
  pub within : end ≤ length bytes
  pub spelling : IsSpelling S
  pub spelled : take end bytes ≡ opening S

-- The bytes begin with the header line of these numbers, which ends before the place `end`.
pub record IsHeaderOf (bytes : List ℕ) (S : Spelling) (m n end : ℕ) : Type 0 where
  pub within : end ≤ length bytes
  pub numbers : AreHeaderNumbers S m n
  pub spelled : take end bytes ≡ header S m n

-- The bytes go on with the word up to this place, and not there.
pub record IsFirstOther (bytes word : List ℕ) (place : ℕ) : Type 0 where
  pub inside : place < length word
  pub within : place ≤ length bytes
  pub same : take place bytes ≡ take place word
  pub differs : place < length bytes → slice_index bytes place ≡ slice_index word place → ⊥
