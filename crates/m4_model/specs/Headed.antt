-- Headed text over every field, in its two versions: the text of a matrix, what reads as a matrix, and where a text is refused.
use Rattle.std.specs.Prelude.{◌≡◌, ℕ, ◌+◌, ◌-◌, ◌*◌, ◌/◌, ◌%◌, ◌^◌, ◌<◌, ◌≤◌, ◌⊎◌, ◌==◌, if◌then◌else◌, false, List, [], ◌∷◌, ◌++◌, map, length, flat_map, slice_index, codes, decimal}
use Rattle.std.specs.List.{range_with_len}
use Rattle.std.specs.Fmt.{digits, digit_glyph}
use Rattle.m4_model.specs.Field.{Field, gf2, width, IsExtension}
use Rattle.m4_model.specs.Matrix.{Matrix, IsMatrix}
use Rattle.m4_model.specs.Text.{IsHeaderNumber, IsWithinLimits, IsLongest}

-- What a headed text tells before its numbers of rows and columns: the field, and how the entries are spelled. Bits: over
-- GF(2), a digit for each entry. Fours: over GF(2), a digit for each four entries. Elements: over the field of this degree
-- and polynomial, each entry by as many digits as its bits need.
pub data Spelling : Type 0 where
  Bits : Spelling
  Fours : Spelling
  Elements : (field : Field) → Spelling

-- The field of the entries.
abbrev pub field_of : Spelling → Field
field_of Bits = gf2
field_of Fours = gf2
field_of (Elements F) = F

-- A number in hexadecimal, in lower-case letters.
abbrev pub hexadecimal : ℕ → List ℕ
hexadecimal n = digits 16 false n

-- The letters and numbers that a header line begins with.
abbrev pub opening : Spelling → List ℕ
opening Bits = codes "gf2 "
opening Fours = codes "gf2x "
opening (Elements F) = codes "gf2e " ++ (decimal F.degree ++ (codes " " ++ (hexadecimal F.poly ++ codes " ")))

-- The header line of an m x n matrix.
abbrev pub header : Spelling → ℕ → ℕ → List ℕ
header S m n = opening S ++ (decimal m ++ (codes " " ++ (decimal n ++ codes "\n")))

-- How many digits spell an element: four bits a digit.
abbrev pub digits_per_element : Field → ℕ
digits_per_element F = (F.degree + 3) / 4

-- The values of the digits of an element, the highest first.
abbrev pub element_digits : Field → ℕ → List ℕ
element_digits F x = map (λ i. x / 16 ^ (digits_per_element F - 1 - i) % 16) (range_with_len 0 (digits_per_element F))

-- The value of the digit for the entries in columns 4 t to 4 t + 3, the first of them its lowest bit. Past the last column
-- there are zeros.
abbrev pub digit_of_four : List ℕ → ℕ → ℕ
digit_of_four entries t =
    slice_index entries (4 * t) + 2 * slice_index entries (4 * t + 1) + 4 * slice_index entries (4 * t + 2) + 8 * slice_index entries (4 * t + 3)

-- The values of the digits of a row.
abbrev pub row_digits : Spelling → List ℕ → List ℕ
row_digits Bits entries = entries
row_digits Fours entries = map (digit_of_four entries) (range_with_len 0 ((length entries + 3) / 4))
row_digits (Elements F) entries = flat_map (element_digits F) entries

-- The line of a row: its digits, 0 to 9 and a to f, with nothing between them, and a line feed.
abbrev pub line : Spelling → List ℕ → List ℕ
line S entries = map (digit_glyph false) (row_digits S entries) ++ 10 ∷ []

-- The text of a matrix in this spelling: its header, and a line for each row.
abbrev pub text_in : Spelling → Matrix → List ℕ
text_in S M = header S M.rows M.cols ++ flat_map (line S) M.entries

-- The spelling of version 1, and that of version 2. Over an extension field they are one.
abbrev pub first_version : Field → Spelling
first_version F = if F.degree == 1 then Bits else Elements F

abbrev pub second_version : Field → Spelling
second_version F = if F.degree == 1 then Fours else Elements F

-- The headed text of a matrix, in version 1 and in version 2.
abbrev pub headed_text : Matrix → List ℕ
headed_text M = text_in (first_version M.field) M

abbrev pub hex_text : Matrix → List ℕ
hex_text M = text_in (second_version M.field) M

-- A matrix within the limits.
pub record InLimits (M : Matrix) : Type 0 where
  pub matrix : IsMatrix M
  pub limits : IsWithinLimits (width M.field) M.rows M.cols

-- The bytes are read as M: they are its text in one of the versions.
pub record Reads (bytes : List ℕ) (M : Matrix) : Type 0 where
  pub accepted : InLimits M
  pub spelled : (bytes ≡ headed_text M) ⊎ (bytes ≡ hex_text M)

-- The grammar allows the numbers of a header line, whatever field and matrix they tell: a degree, rows and columns of at
-- most nine digits, and a polynomial of at most eight.
abbrev pub IsSpelling : Spelling → Type 0
IsSpelling Bits = Unit {0}
IsSpelling Fours = Unit {0}
IsSpelling (Elements F) = IsHeaderNumber F.degree × (F.poly < 16 ^ 8)

pub record AreHeaderNumbers (S : Spelling) (m n : ℕ) : Type 0 where
  pub spelling : IsSpelling S
  pub rows : IsHeaderNumber m
  pub cols : IsHeaderNumber n

-- A header line.
abbrev pub IsHeader : List ℕ → Type 0
IsHeader bytes = (S : Spelling) × (m n : ℕ) × AreHeaderNumbers S m n × (bytes ≡ header S m n)

-- The bytes begin with this header line.
abbrev pub HasHeader : List ℕ → Spelling → ℕ → ℕ → Type 0
HasHeader bytes S m n = AreHeaderNumbers S m n × (rest : List ℕ) × (bytes ≡ header S m n ++ rest)

-- There is such a field.
abbrev pub HasField : Spelling → Type 0
HasField Bits = Unit {0}
HasField Fours = Unit {0}
HasField (Elements F) = IsExtension F

-- The text in this spelling of some m x n matrix.
abbrev pub IsTextOf : Spelling → ℕ → ℕ → List ℕ → Type 0
IsTextOf S m n bytes =
    (M : Matrix) × IsMatrix M × (M.field ≡ field_of S) × (M.rows ≡ m) × (M.cols ≡ n) × (bytes ≡ text_in S M)

-- Why a text is refused: it goes wrong at a place; or the field is none, since the degree that stands at a place is no
-- degree of an extension field, or the polynomial that stands at a place is no irreducible one of that degree; or its
-- numbers pass a limit.
pub data Fault : Type 0 where
  BadAt : (place : ℕ) → Fault
  BadDegreeAt : (place : ℕ) → Fault
  ReducibleAt : (place : ℕ) → Fault
  PastLimit : Fault

-- The bytes begin with no header line, and go wrong in it.
pub record IsBadHeader (bytes : List ℕ) (place : ℕ) : Type 0 where
  pub none : (S : Spelling) (m n : ℕ) → HasHeader bytes S m n → ⊥
  pub longest : IsLongest IsHeader bytes place

-- The degree is one of the degrees of extension fields.
abbrev pub IsDegree : ℕ → Type 0
IsDegree e = (2 ≤ e) × (e ≤ 16)

-- The header line has a degree that is none, and it stands at this place.
pub record IsBadDegree (bytes : List ℕ) (place : ℕ) : Type 0 where
  pub field : Field
  pub rows : ℕ
  pub cols : ℕ
  pub begins : HasHeader bytes (Elements field) rows cols
  pub refused : IsDegree field.degree → ⊥
  pub here : place ≡ length (codes "gf2e ")

-- The header line has a degree, and a polynomial that makes no field with it and stands at this place.
pub record IsReducible (bytes : List ℕ) (place : ℕ) : Type 0 where
  pub field : Field
  pub rows : ℕ
  pub cols : ℕ
  pub begins : HasHeader bytes (Elements field) rows cols
  pub degree : IsDegree field.degree
  pub refused : IsExtension field → ⊥
  pub here : place ≡ length (codes "gf2e " ++ (decimal field.degree ++ codes " "))

-- The header line has a field, and numbers that pass a limit.
pub record IsPastLimit (bytes : List ℕ) : Type 0 where
  pub spelling : Spelling
  pub rows : ℕ
  pub cols : ℕ
  pub begins : HasHeader bytes spelling rows cols
  pub field : HasField spelling
  pub past : IsWithinLimits (width (field_of spelling)) rows cols → ⊥

-- The header line has a field and is within the limits, and the bytes go wrong behind it: they are no text in its spelling
-- of a matrix of its shape.
pub record IsBadBody (bytes : List ℕ) (place : ℕ) : Type 0 where
  pub spelling : Spelling
  pub rows : ℕ
  pub cols : ℕ
  pub begins : HasHeader bytes spelling rows cols
  pub field : HasField spelling
  pub limits : IsWithinLimits (width (field_of spelling)) rows cols
  pub none : IsTextOf spelling rows cols bytes → ⊥
  pub longest : IsLongest (IsTextOf spelling rows cols) bytes place

-- The bytes are refused, with this fault.
abbrev pub Refusal : List ℕ → Fault → Type 0
Refusal bytes (BadAt place) = IsBadHeader bytes place ⊎ IsBadBody bytes place
Refusal bytes (BadDegreeAt place) = IsBadDegree bytes place
Refusal bytes (ReducibleAt place) = IsReducible bytes place
Refusal bytes PastLimit = IsPastLimit bytes
