-- Header lines by their parts, and where bytes go wrong in one.
use Rattle.std.proofs.Common.{◌≡◌, ℕ, ◌+◌, ◌-◌, ◌<◌, ◌≤◌, List, [], ◌∷◌, ◌++◌, length, get_or, take, drop, codes, decimal, refl, sym, ◌∙◌, ap, arith, append_assoc, length-append, length-take, take-append-drop, get_or-take, length-drop, ap₂, subst₂, lit<, take_at}
use Rattle.std.specs.Char.{IsAsciiDigit}
use Rattle.std.proofs.lemmas.List.{get_or_append_left}
use Rattle.m4_model.specs.Text.{IsHeader, header}
use Rattle.m4_text.specs.Place.{GoesWrong, GoesWrongFrom, IsOpening, IsOpeningOf, IsNumber, IsNumberAt, IsHeaderOf}
use Rattle.m4_text.proofs.Fronts.{IsPrefixFree, IsPrefixFree-same_length, IsPrefixFree-joined, IsPrefixFree-within, IsLongest-from_next, Joined, GoesWrong-first, GoesWrong-second, GoesWrong-same}
use Rattle.m4_text.proofs.Numbers.{IsPrefixFree-number}

-- bytes that go on with the letters of a word up to this place, and not there
pub GoesWrong-opening : (bytes : List ℕ) (place : ℕ) → place < 4 → place ≤ length bytes
    → take place bytes ≡ take place (codes "gf2 ")
    → (place < length bytes → get_or bytes place 0 ≡ get_or (codes "gf2 ") place 0 → ⊥) → GoesWrong IsOpening bytes place
GoesWrong-opening bytes place few within same differs = record {
  longest = IsLongest-from_next IsOpening bytes place within
      (drop place (codes "gf2 "), ap (λ w. w ++ drop place (codes "gf2 ")) same ∙ take-append-drop place (codes "gf2 "))
      (λ inside goes.
      let read = get_or_append_left (take (place + 1) bytes) goes.0 0 place (omega (arith, length-take (place + 1) bytes)) in
      let there = get_or-take (place + 1) bytes place 0 (omega arith) in
      differs inside (sym there ∙ sym read ∙ ap (λ w. get_or w place 0) goes.1));
  unfinished = λ whole. omega (arith, length-take place bytes, ap length whole);
}

IsPrefixFree-opening : IsPrefixFree IsOpening
IsPrefixFree-opening = IsPrefixFree-same_length IsOpening (λ a b first second. ap length (first ∙ sym second))

-- the parts of a header line behind its letters
abbrev pub IsSizes : List ℕ → Type 0
IsSizes = Joined (IsNumber 32) (IsNumber 10)

abbrev IsParts : List ℕ → Type 0
IsParts = Joined IsOpening IsSizes

pub space_apart : IsAsciiDigit 32 → ⊥
space_apart digit = omega (arith, digit.0)

pub line_feed_apart : IsAsciiDigit 10 → ⊥
line_feed_apart digit = omega (arith, digit.0)

-- a header, put together from its parts
pub header_joined : (m n : ℕ) → codes "gf2 " ++ ((decimal m ++ 32 ∷ []) ++ (decimal n ++ 10 ∷ [])) ≡ header m n
header_joined m n = ap (λ w. codes "gf2 " ++ w) (append_assoc (decimal m) (32 ∷ []) (decimal n ++ 10 ∷ []))

to_parts : (w : List ℕ) → IsHeader w → IsParts w
to_parts w is = (
  codes "gf2 ",
  (decimal is.0 ++ 32 ∷ []) ++ (decimal is.1 ++ 10 ∷ []),
  refl,
  (decimal is.0 ++ 32 ∷ [], decimal is.1 ++ 10 ∷ [], (is.0, is.2, refl), (is.1, is.3, refl), refl),
  is.4 ∙ sym (header_joined is.0 is.1),
)

from_parts : (w : List ℕ) → IsParts w → IsHeader w
from_parts w parts =
    let (a, b, letters, sizes, whole) = parts in
    let (rows, cols, first, second, sized) = sizes in (
      first.0,
      second.0,
      first.1,
      second.1,
      whole ∙ ap₂ (λ x y. x ++ y) letters (sized ∙ ap₂ (λ x y. x ++ y) first.2 second.2) ∙ header_joined first.0 second.0,
    )

IsPrefixFree-parts : IsPrefixFree IsParts
IsPrefixFree-parts =
    IsPrefixFree-joined IsOpening IsSizes IsPrefixFree-opening
    (IsPrefixFree-joined (IsNumber 32) (IsNumber 10) (IsPrefixFree-number 32 space_apart) (IsPrefixFree-number 10 line_feed_apart))

-- no header line begins another
pub IsPrefixFree-header : IsPrefixFree IsHeader
IsPrefixFree-header = IsPrefixFree-within IsParts IsHeader to_parts IsPrefixFree-parts

wrong_header : (bytes : List ℕ) (place : ℕ) → GoesWrong IsParts bytes place → GoesWrong IsHeader bytes place
wrong_header = GoesWrong-same IsParts IsHeader from_parts to_parts

-- bytes go wrong in the opening letters
pub wrong_opening : (bytes : List ℕ) (place : ℕ) → GoesWrong IsOpening bytes place → GoesWrong IsHeader bytes place
wrong_opening bytes place found =
    let last = (decimal 0 ++ 32 ∷ []) ++ (decimal 0 ++ 10 ∷ []) in
    let ends : IsSizes last = (decimal 0 ++ 32 ∷ [], decimal 0 ++ 10 ∷ [], (0, lit< tt, refl), (0, lit< tt, refl), refl) in
    wrong_header bytes place (GoesWrong-first IsOpening IsSizes IsPrefixFree-opening last ends bytes place found)

-- bytes go wrong behind them
wrong_sizes : (bytes : List ℕ) (opened place : ℕ) → IsOpeningOf bytes opened → opened ≤ place
    → GoesWrong IsSizes (drop opened bytes) (place - opened) → GoesWrong IsHeader bytes place
wrong_sizes bytes opened place letters behind found =
    let whole = GoesWrong-second IsOpening IsSizes IsPrefixFree-opening (take opened bytes) letters.spelled (drop opened bytes)
    (place - opened) found in
    let here : length (take opened bytes) + (place - opened) ≡ place = omega (arith, length-take opened bytes, letters.within) in
    wrong_header bytes place (subst₂ (GoesWrong IsParts) (take-append-drop opened bytes) here whole)

-- bytes go wrong in the number of rows
pub wrong_rows : (bytes : List ℕ) (opened place : ℕ) → IsOpeningOf bytes opened → GoesWrongFrom (IsNumber 32) bytes opened place
    → GoesWrong IsHeader bytes place
wrong_rows bytes opened place letters found =
    wrong_sizes bytes opened place letters found.behind
    (GoesWrong-first (IsNumber 32) (IsNumber 10) (IsPrefixFree-number 32 space_apart) (decimal 0 ++ 10 ∷ []) (0, lit< tt, refl)
    (drop opened bytes) (place - opened) found.wrong)

-- how far a number with its ending goes
number_len : (bytes : List ℕ) (start ending value end : ℕ) → start ≤ length bytes → IsNumberAt bytes start ending value end
    → start + length (decimal value ++ ending ∷ []) ≡ end
number_len bytes start ending value end inside number =
    omega (
      arith,
      number.within,
      length-drop start bytes,
      length-drop end bytes,
      ap length number.spelled,
      length-append (decimal value ++ ending ∷ []) (drop end bytes),
    )

-- bytes go wrong in the number of columns
pub wrong_cols : (bytes : List ℕ) (opened rows end place : ℕ) → IsOpeningOf bytes opened → IsNumberAt bytes opened 32 rows end
    → GoesWrongFrom (IsNumber 10) bytes end place → GoesWrong IsHeader bytes place
wrong_cols bytes opened rows end place letters number found =
    let first = decimal rows ++ 32 ∷ [] in
    let far = number_len bytes opened 32 rows end letters.within number in
    let sizes = GoesWrong-second (IsNumber 32) (IsNumber 10) (IsPrefixFree-number 32 space_apart) first (rows, number.small, refl)
    (drop end bytes) (place - end) found.wrong in
    let here : length first + (place - end) ≡ place - opened = omega (arith, far, found.behind) in
    wrong_sizes bytes opened place letters (omega (arith, far, found.behind))
    (subst₂ (GoesWrong IsSizes) (sym number.spelled) here sizes)

-- bytes that begin with a header line
pub header_read : (bytes : List ℕ) (opened rows middle cols end : ℕ) → IsOpeningOf bytes opened
    → IsNumberAt bytes opened 32 rows middle → IsNumberAt bytes middle 10 cols end → IsHeaderOf bytes rows cols end
header_read bytes opened rows middle cols end letters first second =
    let a = decimal rows ++ 32 ∷ [] in
    let b = decimal cols ++ 10 ∷ [] in
    let rest = drop end bytes in
    let parted : bytes ≡ codes "gf2 " ++ (a ++ (b ++ rest)) =
    sym (take-append-drop opened bytes)
    ∙ ap₂ (λ x y. x ++ y) letters.spelled (first.spelled ∙ ap (λ w. a ++ w) second.spelled) in
    let joined : codes "gf2 " ++ (a ++ (b ++ rest)) ≡ header rows cols ++ rest =
    ap (λ w. codes "gf2 " ++ w) (sym (append_assoc a b rest)) ∙ ap (λ w. w ++ rest) (header_joined rows cols) in
    let far : length (header rows cols) ≡ end =
    omega (arith, second.within, length-drop end bytes, ap length (parted ∙ joined), length-append (header rows cols) rest) in
    record {
      within = second.within;
      rows = first.small;
      cols = second.small;
      spelled = ap (take end) (parted ∙ joined) ∙ take_at (header rows cols) rest end far;
    }
