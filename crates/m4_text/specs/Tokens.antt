-- The reading of JCF token by token.
use Rattle.std.specs.Prelude.{◌≡◌, ℕ, ◌+◌, ◌-◌, ◌<◌, ◌≤◌, ◌⊎◌, Bool, true, false, not, ◌||◌, nat_lt, if◌then◌else◌, Some, None, List, [], ◌∷◌, ◌++◌, length, take, drop}
use Rattle.std.specs.List.{filter}
use Rattle.m4_model.specs.Field.{gf2}
use Rattle.m4_model.specs.Matrix.{Matrix, IsMatrix, at}
use Rattle.m4_model.specs.Jcf.{Token, tokens_from, end_of, number, Entry, entry, Takes, SpellsEntries, HasJcfHeader, BeginsJcf, HasEntry}
use Rattle.m4_text.specs.declared.fault.TextFault.{TextFault}
use Rattle.m4_text.specs.declared.fault.TextFault.TheVariants.{Bad, Limit, NoMemory}

-- The tokens of the bytes from this place on. Where the file is long, these bytes being its first, a token counts only
-- if white space has ended it.
abbrev pub judged_from : List ℕ → Bool → ℕ → List Token
judged_from bytes long place = filter (λ token. nat_lt (end_of token) (length bytes) || not long) (tokens_from place (drop place bytes))

-- The token that stands in the bytes from one place to another.
abbrev pub token_at : List ℕ → ℕ → ℕ → Token
token_at bytes start end = record { place = start; bytes = take (end - start) (drop start bytes) }

-- The first token from a place on stands from `start` to `end`.
pub record IsNextToken (bytes : List ℕ) (long : Bool) (from start end : ℕ) : Type 0 where
  pub behind : from ≤ start
  pub some : start < end
  pub within : end ≤ length bytes
  pub next : judged_from bytes long from ≡ token_at bytes start end ∷ judged_from bytes long end

-- The first token from a place on spells this number.
pub record IsNextNumber (bytes : List ℕ) (long : Bool) (from value start end : ℕ) : Type 0 where
  pub token : IsNextToken bytes long from start end
  pub spelled : number (token_at bytes start end).bytes ≡ Some value

-- No token from a place on is a number: there is none, or the first spells none.
abbrev pub LacksNumber : List ℕ → Bool → ℕ → TextFault → Type 0
LacksNumber bytes long from (Bad place) =
    ((long ≡ false) × (judged_from bytes long from ≡ []) × (place ≡ length bytes))
    ⊎ ((token : Token) × (after : List Token) × (judged_from bytes long from ≡ token ∷ after) × (number token.bytes ≡ None) × (place ≡ token.place))
LacksNumber bytes long from Limit = (long ≡ true) × (judged_from bytes long from ≡ [])
LacksNumber bytes long from NoMemory = ⊥

-- A token of the header is refused, at this place.
pub record IsBadNumber (words : List Token) (place : ℕ) : Type 0 where
  pub before : List Token
  pub token : Token
  pub after : List Token
  pub split : words ≡ (before ++ token ∷ []) ++ after
  pub begins : BeginsJcf before
  pub wrong : (more : List Token) (m n : ℕ) (rest : List Token) → HasJcfHeader ((before ++ token ∷ []) ++ more) m n rest → ⊥
  pub here : place ≡ token.place

-- The tokens are fewer than those of a header.
pub record IsCutHeader (words : List Token) : Type 0 where
  pub few : length words < 4
  pub begins : BeginsJcf words

-- Why the bytes begin with no header of JCF.
abbrev pub IsHeaderFault : List ℕ → Bool → TextFault → Type 0
IsHeaderFault bytes long (Bad place) =
    IsBadNumber (judged_from bytes long 0) place
    ⊎ ((long ≡ false) × IsCutHeader (judged_from bytes long 0) × (place ≡ length bytes))
IsHeaderFault bytes long Limit = (long ≡ true) × IsCutHeader (judged_from bytes long 0)
IsHeaderFault bytes long NoMemory = ⊥

-- The bytes begin with a header of JCF, which ends before this place.
pub record IsHeaderBefore (bytes : List ℕ) (long : Bool) (m n end : ℕ) : Type 0 where
  pub within : end ≤ length bytes
  pub header : HasJcfHeader (judged_from bytes long 0) m n (judged_from bytes long end)

-- How many rows have begun with one more entry.
abbrev pub begun_with : ℕ → Entry → ℕ
begun_with begun e = begun + (if e.next_row then 1 else 0)

-- Behind entries that begin so many rows, the token spells an entry in this row and column, counted from 0, of an m x n matrix.
pub record IsCell (token : List ℕ) (begun m n row column : ℕ) : Type 0 where
  pub e : Entry
  pub spelled : entry token ≡ Some e
  pub in_row : begun_with begun e ≡ row + 1
  pub in_column : e.column ≡ column + 1
  pub in_rows : row < m
  pub in_cols : column < n

-- The token spells no such entry.
abbrev pub LacksCell : List ℕ → ℕ → ℕ → ℕ → Type 0
LacksCell token begun m n = (row column : ℕ) → IsCell token begun m n row column → ⊥

-- The tokens from this place on are entries, which the new matrix has beside the ones of the old.
pub record ReadsEntries (bytes : List ℕ) (long : Bool) (start : ℕ) (old new : Matrix) : Type 0 where
  pub entries : List Entry
  pub spelled : SpellsEntries old.rows old.cols (judged_from bytes long start) entries
  pub matrix : IsMatrix new
  pub over_gf2 : new.field ≡ gf2
  pub rows : new.rows ≡ old.rows
  pub cols : new.cols ≡ old.cols
  pub kept : (i j : ℕ) → i < old.rows → j < old.cols → at new i j ≡ 1 → HasEntry entries i j ⊎ (at old i j ≡ 1)
  pub ones : (i j : ℕ) → HasEntry entries i j → at new i j ≡ 1

-- A token from this place on is the first that an m x n matrix doesn't take as an entry.
pub record RefusesEntry (bytes : List ℕ) (long : Bool) (start m n place : ℕ) : Type 0 where
  pub before : List Token
  pub token : Token
  pub after : List Token
  pub entries : List Entry
  pub split : judged_from bytes long start ≡ before ++ token ∷ after
  pub spelled : SpellsEntries m n before entries
  pub wrong : (e : Entry) → entry token.bytes ≡ Some e → Takes m n entries e → ⊥
  pub here : place ≡ token.place
