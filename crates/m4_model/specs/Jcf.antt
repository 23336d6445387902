-- JCF: a matrix told by the columns of its ones, in numbers with white space between them.
use Rattle.std.specs.Prelude.{◌≡◌, ℕ, ◌+◌, ◌^◌, ◌<◌, ◌≤◌, ◌↔◌, ◌⊎◌, List, [], ◌∷◌, ◌++◌, map, length, take, flat_map, count_by, codes, decimal, Bool, true, false, ◌==◌, ◌&&◌, ◌||◌, nat_lt, nat_le, if◌then◌else◌, Option, Some, None, option_map}
use Rattle.std.specs.Option.{IsSome}
use Rattle.std.specs.List.{filter, sum_by}
use Rattle.std.specs.Str.{all_ascii_digits}
use Rattle.std.specs.Str.Parse.{digits_value}
use Rattle.m4_model.specs.Matrix.{Matrix, row, at}
use Rattle.m4_model.specs.Text.{InLimits, IsWithinLimits, Fault, BadAt, PastLimit}

-- The white space: space, tab, line feed, vertical tab, form feed and carriage return.
abbrev pub is_white : ℕ → Bool
is_white byte = byte == 32 || (nat_le 9 byte && nat_le byte 13)

-- A token of a text: the place of its first byte, and its bytes.
pub record Token : Type 0 where
  pub place : ℕ
  pub bytes : List ℕ

-- A byte put before tokens: it is the first of a token that began right behind it, or a token of its own.
abbrev pub put_before : ℕ → ℕ → List Token → List Token
put_before place byte [] = record { place = place; bytes = byte ∷ [] } ∷ []
put_before place byte (token ∷ tokens) =
    if token.place == place + 1
    then record { place = place; bytes = byte ∷ token.bytes } ∷ tokens
    else record { place = place; bytes = byte ∷ [] } ∷ token ∷ tokens

-- The tokens of bytes that stand from this place on: the longest runs of bytes that aren't white space.
unfoldable pub tokens_from : ℕ → List ℕ → List Token
tokens_from place [] = []
tokens_from place (byte ∷ bytes) =
    if is_white byte then tokens_from (place + 1) bytes else put_before place byte (tokens_from (place + 1) bytes)

-- The tokens of a file.
abbrev pub tokens : List ℕ → List Token
tokens bytes = tokens_from 0 bytes

-- The most bytes of a file: 2^29.
unfoldable pub most_bytes : ℕ
most_bytes = 2 ^ 29

-- The place behind a token's last byte.
abbrev pub end_of : Token → ℕ
end_of token = token.place + length token.bytes

-- The tokens that are judged are those of the first 2^29 bytes. Where there are more bytes, the last of these tokens
-- is judged only if white space among the first 2^29 bytes has ended it.
abbrev pub judged : List ℕ → List Token
judged bytes = filter (λ token. nat_lt (end_of token) most_bytes || nat_le (length bytes) most_bytes) (tokens (take most_bytes bytes))

-- The number that 1 to 18 decimal digits spell. Leading zeros are allowed, signs aren't.
abbrev pub number : List ℕ → Option ℕ
number digits =
    if all_ascii_digits digits && (nat_lt 0 (length digits) && nat_le (length digits) 18) then Some (digits_value 10 digits) else None

-- An entry: whether it goes to the next row, and its column, counted from 1.
pub record Entry : Type 0 where
  pub next_row : Bool
  pub column : ℕ

-- The entry that a token spells: a number, with a minus sign before it where it goes to the next row.
abbrev pub entry : List ℕ → Option Entry
entry [] = None
entry (byte ∷ bytes) =
    if byte == 45
    then option_map (λ c. record { next_row = true; column = c }) (number bytes)
    else option_map (λ c. record { next_row = false; column = c }) (number (byte ∷ bytes))

-- How many rows these entries begin. The last of them is the current row.
abbrev pub rows_begun : List Entry → ℕ
rows_begun entries = count_by (λ e. e.next_row) entries

-- An m x n matrix takes the entry e behind others: its column and the row that is then current are in the matrix.
pub record Takes (m n : ℕ) (others : List Entry) (e : Entry) : Type 0 where
  pub counted : 0 < e.column
  pub in_cols : e.column ≤ n
  pub begun : 0 < rows_begun (others ++ e ∷ [])
  pub in_rows : rows_begun (others ++ e ∷ []) ≤ m

-- The tokens spell these entries, and an m x n matrix takes each behind those before it.
pub record SpellsEntries (m n : ℕ) (words : List Token) (entries : List Entry) : Type 0 where
  pub spelled : map (λ word. entry word.bytes) words ≡ map (λ e. Some e) entries
  pub taken : (others after : List Entry) (e : Entry) → entries ≡ others ++ e ∷ after → Takes m n others e

-- The first four tokens are a header: the numbers of rows and columns, the modulus 2, and a number that isn't used.
pub record HasJcfHeader (words : List Token) (m n : ℕ) (rest : List Token) : Type 0 where
  pub first : Token
  pub second : Token
  pub third : Token
  pub fourth : Token
  pub four : words ≡ first ∷ second ∷ third ∷ fourth ∷ rest
  pub rows : number first.bytes ≡ Some m
  pub cols : number second.bytes ≡ Some n
  pub modulus : number third.bytes ≡ Some 2
  pub unused : IsSome (number fourth.bytes)

-- The tokens are a header and entries that an m x n matrix takes.
pub record IsJcf (words : List Token) (m n : ℕ) (entries : List Entry) : Type 0 where
  pub rest : List Token
  pub header : HasJcfHeader words m n rest
  pub body : SpellsEntries m n rest entries

-- The tokens begin a header and entries, whatever the numbers of rows and columns are.
abbrev pub BeginsJcf : List Token → Type 0
BeginsJcf words = (more : List Token) × (m n : ℕ) × (entries : List Entry) × IsJcf (words ++ more) m n entries

-- This token is the first that is refused: those before it begin a header and entries, and with it they don't.
pub record IsFirstRefused (words : List Token) (token : Token) : Type 0 where
  pub before : List Token
  pub after : List Token
  pub split : words ≡ before ++ token ∷ after
  pub begins : BeginsJcf before
  pub wrong : BeginsJcf (before ++ token ∷ []) → ⊥

-- The numbers of a header are past a limit.
abbrev pub PassesLimit : List Token → Type 0
PassesLimit words = (m n : ℕ) × (rest : List Token) × HasJcfHeader words m n rest × (IsWithinLimits 1 m n → ⊥)

-- Some entry stands in row i and column j, both counted from 0.
abbrev pub HasEntry : List Entry → ℕ → ℕ → Type 0
HasEntry entries i j =
    (others after : List Entry) × (e : Entry) × (entries ≡ others ++ e ∷ after)
    × (rows_begun (others ++ e ∷ []) ≡ i + 1) × (e.column ≡ j + 1)

-- The bytes are read as M: it has ones exactly where entries stand.
pub record ReadsJcf (bytes : List ℕ) (M : Matrix) : Type 0 where
  pub short : length bytes ≤ 2 ^ 29
  pub accepted : InLimits M
  pub entries : List Entry
  pub spelled : IsJcf (tokens bytes) M.rows M.cols entries
  pub ones : (i j : ℕ) → i < M.rows → j < M.cols → (at M i j ≡ 1) ↔ HasEntry entries i j

-- A token is refused that stands at this place, and no limit was passed before.
pub record IsBadToken (bytes : List ℕ) (place : ℕ) : Type 0 where
  pub token : Token
  pub refused : IsFirstRefused (judged bytes) token
  pub limits : PassesLimit (judged bytes) → ⊥
  pub here : place ≡ token.place

-- The file ends in its header, at this place.
pub record EndsInHeader (bytes : List ℕ) (place : ℕ) : Type 0 where
  pub short : length bytes ≤ 2 ^ 29
  pub begins : BeginsJcf (judged bytes)
  pub few : length (judged bytes) < 4
  pub here : place ≡ length bytes

-- The bytes are refused as JCF, with this fault. Where nothing else is refused, more than 2^29 bytes are past a limit.
abbrev pub RefusalJcf : List ℕ → Fault → Type 0
RefusalJcf bytes (BadAt place) = IsBadToken bytes place ⊎ EndsInHeader bytes place
RefusalJcf bytes PastLimit = PassesLimit (judged bytes) ⊎ ((2 ^ 29 < length bytes) × BeginsJcf (judged bytes))

-- The columns of a row's entries that aren't 0, the first column having the number k.
unfoldable pub nonzero_columns : ℕ → List ℕ → List ℕ
nonzero_columns k [] = []
nonzero_columns k (x ∷ xs) = if x == 0 then nonzero_columns (k + 1) xs else k ∷ nonzero_columns (k + 1) xs

-- The line of a row with ones in these columns: the first has a minus sign, and a space stands between any two. A row
-- of zeros has no line.
abbrev pub line_of_columns : List ℕ → List ℕ
line_of_columns [] = []
line_of_columns (c ∷ cs) = codes "-" ++ (decimal c ++ (flat_map (λ d. codes " " ++ decimal d) cs ++ codes "\n"))

-- How many entries of a matrix aren't 0.
abbrev pub nonzeros : Matrix → ℕ
nonzeros M = sum_by (λ entries. length (nonzero_columns 1 entries)) M.entries

-- The header of the JCF text of an m x n matrix over GF(2) with so many ones.
abbrev pub jcf_header : ℕ → ℕ → ℕ → List ℕ
jcf_header m n ones = decimal m ++ (codes " " ++ (decimal n ++ (codes " 2\n" ++ (decimal ones ++ codes "\n"))))

-- The lines of a matrix's rows: one for each row that isn't zero.
abbrev pub jcf_lines : Matrix → List ℕ
jcf_lines M = flat_map (λ entries. line_of_columns (nonzero_columns 1 entries)) M.entries

-- The JCF text of a matrix over GF(2): its header, and its lines.
abbrev pub jcf_text : Matrix → List ℕ
jcf_text M = jcf_header M.rows M.cols (nonzeros M) ++ jcf_lines M

-- Row i of the matrix has only zeros.
abbrev pub IsZeroRow : Matrix → ℕ → Type 0
IsZeroRow M i = nonzero_columns 1 (row M i) ≡ []

-- JCF can hold the matrix: no row of zeros stands before another row.
abbrev pub CanBeJcf : Matrix → Type 0
CanBeJcf M = (i j : ℕ) → i < j → j < M.rows → IsZeroRow M i → IsZeroRow M j
