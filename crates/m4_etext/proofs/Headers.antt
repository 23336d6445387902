-- Header lines by their parts, and where bytes go wrong in one.
use Rattle.std.proofs.Common.{◌≡◌, ℕ, zero, suc, ◌+◌, ◌*◌, ◌^◌, ◌<◌, ◌≤◌, List, [], ◌∷◌, ◌++◌, length, get_or, take, drop, codes, decimal, refl, sym, ◌∙◌, ap, ap₂, subst, arith, ◌⊎◌, inl, inr, append_assoc, length-append, length-take, length-take-le, take-append-drop, get_or-take, lit<, lit≤}
use Rattle.std.proofs.lemmas.List.{get_or_append_left, nil_from_length}
use Rattle.std.proofs.lemmas.Bool.{cases_lt}
use Rattle.m4_model.specs.Field.{Field}
use Rattle.m4_model.specs.Headed.{Spelling, Bits, Fours, Elements, IsSpelling, IsHeader, header, opening, hexadecimal}
use Rattle.m4_etext.specs.declared.radix.Radix.{Radix}
use Rattle.m4_etext.specs.declared.radix.Radix.TheVariants.{Decimal, Hexadecimal}
use Rattle.m4_etext.specs.declared.opening.Letters.{Letters}
use Rattle.m4_etext.specs.declared.opening.Letters.TheVariants.{OfBits, OfFours, OfElements}
use Rattle.m4_etext.specs.Parsed.{base_of, most_of, word_of, IsByFourth}
use Rattle.m4_etext.specs.Place.{GoesWrong, GoesWrongFrom, IsNumber, IsDigitIn, IsNumberAt, IsOpening, IsOpeningOf, IsHeaderOf, IsFirstOther}
use Rattle.m4_etext.proofs.Fronts.{IsPrefixFree, IsPrefixFree-same_length, IsPrefixFree-within, IsLongest-from_next, Joined, GoesWrong-same}
use Rattle.m4_etext.proofs.Numerals.{IsBase, ten, sixteen, widen, glyph_low, glyph_high}
use Rattle.m4_etext.proofs.Openings.{AreNumbers, IsPrefixFree-whole, wrong_before, wrong_first, wrong_second, numbers_read, behind_first}

-- the bases of numbers
pub is_base : (r : Radix) → IsBase (base_of r)
is_base Decimal = ten
is_base Hexadecimal = sixteen

pub some_most : (r : Radix) → (0 < most_of r) × (most_of r ≤ 63)
some_most Decimal = (lit< tt, lit≤ tt)
some_most Hexadecimal = (lit< tt, lit≤ tt)

-- a digit more fits
pub digit_fits : (r : Radix) (value len d : ℕ) → value < base_of r ^ len → len < most_of r → d < base_of r → base_of r * value + d < 2 ^ 32
digit_fits Decimal value len d small room digit =
    let wide : value < 10 ^ 8 = widen 10 value len 8 (lit≤ tt) (omega arith) small in omega arith
digit_fits Hexadecimal value len d small room digit =
    let wide : value < 16 ^ 7 = widen 16 value len 7 (lit≤ tt) (omega arith) small in omega arith

-- a byte that is no digit
pub no_digit : (b byte : ℕ) → b ≤ 16 → byte < 48 → IsDigitIn b byte → ⊥
no_digit b byte few low (v, is, small) =
    elim (cases_lt v 10) [
      | inl decimal_digit ↦ omega (arith, is.glyph, glyph_low v decimal_digit)
      | inr letter ↦ omega (arith, is.glyph, glyph_high v letter)
    ]

pub space_apart : (r : Radix) → IsDigitIn (base_of r) 32 → ⊥
space_apart r digit = no_digit (base_of r) 32 (is_base r).high (lit< tt) digit

pub line_feed_apart : IsDigitIn 10 10 → ⊥
line_feed_apart digit = no_digit 10 10 (lit≤ tt) (lit< tt) digit

-- a word, and no other bytes
abbrev IsWord : List ℕ → Type 0
IsWord bytes = bytes ≡ codes "gf2e "

IsPrefixFree-word : IsPrefixFree (λ bytes. bytes ≡ codes "gf2e ")
IsPrefixFree-word = IsPrefixFree-same_length IsWord (λ a b first second. ap length (first ∙ sym second))

field_numbers : AreNumbers 10 9 32 16 8 32
field_numbers = record {
  base = ten;
  some = lit< tt;
  few = lit≤ tt;
  other = space_apart Decimal;
  base' = sixteen;
  some' = lit< tt;
  few' = lit≤ tt;
  other' = space_apart Hexadecimal;
}

size_numbers : AreNumbers 10 9 32 10 9 10
size_numbers = record {
  base = ten;
  some = lit< tt;
  few = lit≤ tt;
  other = space_apart Decimal;
  base' = ten;
  some' = lit< tt;
  few' = lit≤ tt;
  other' = line_feed_apart;
}

-- an opening of an extension field, in its parts
abbrev IsElements : List ℕ → Type 0
IsElements = Joined (λ bytes. bytes ≡ codes "gf2e ") (Joined (IsNumber 10 9 32) (IsNumber 16 8 32))

elements_joined : (F : Field) → codes "gf2e " ++ ((decimal F.degree ++ 32 ∷ []) ++ (hexadecimal F.poly ++ 32 ∷ [])) ≡ opening (Elements F)
elements_joined F = ap (λ w. codes "gf2e " ++ w) (append_assoc (decimal F.degree) (32 ∷ []) (hexadecimal F.poly ++ 32 ∷ []))

of_elements : (w : List ℕ) → IsElements w → IsOpening w
of_elements w (a, b, letters, (c, d, (degree, few, first), (poly, few', second), numbers), whole) = (
  Elements (record { degree = degree; poly = poly }),
  (few, few'),
  whole ∙ ap₂ (λ x y. x ++ y) letters (numbers ∙ ap₂ (λ x y. x ++ y) first second) ∙ elements_joined (record { degree = degree; poly = poly }),
)

as_elements : (w : List ℕ) (F : Field) → IsSpelling (Elements F) → w ≡ opening (Elements F) → IsElements w
as_elements w F (few, few') e = (
  codes "gf2e ",
  (decimal F.degree ++ 32 ∷ []) ++ (hexadecimal F.poly ++ 32 ∷ []),
  refl,
  (decimal F.degree ++ 32 ∷ [], hexadecimal F.poly ++ 32 ∷ [], (F.degree, few, refl), (F.poly, few', refl), refl),
  e ∙ sym (elements_joined F),
)

-- an opening is one of an extension field, or has another fourth letter
elements_or_not : (w : List ℕ) → IsOpening w → IsElements w ⊎ (get_or w 3 0 ≡ 101 → ⊥)
elements_or_not w (Bits, few, e) = inr (λ is. omega (arith, is, ap (λ l. get_or l 3 0) e))
elements_or_not w (Fours, few, e) = inr (λ is. omega (arith, is, ap (λ l. get_or l 3 0) e))
elements_or_not w (Elements F, few, e) = inl (as_elements w F few e)

-- bytes go wrong behind the letters of an extension field
pub wrong_elements : (bytes : List ℕ) (place : ℕ) → 3 < place → get_or bytes 3 0 ≡ 101 → GoesWrong (Joined (λ bytes. bytes ≡ codes "gf2e ") (Joined (IsNumber 10 9 32) (IsNumber 16 8 32))) bytes place
    → GoesWrong IsOpening bytes place
wrong_elements bytes place far fourth found = record {
  longest =
      let begins = found.longest.begins in
      IsLongest-from_next IsOpening bytes place found.longest.within (begins.0, of_elements _ begins.1)
      (λ inside goes. elim (elements_or_not _ goes.1) [
        | inl is ↦ found.longest.longest (place + 1) (omega arith) (omega arith) (goes.0, is)
        | inr other ↦
            other (get_or_append_left (take (place + 1) bytes) goes.0 0 3 (omega (arith, length-take (place + 1) bytes))
            ∙ get_or-take (place + 1) bytes 3 0 (omega arith) ∙ fourth)
      ]);
  unfinished = λ whole. elim (elements_or_not _ whole) [
    | inl is ↦ found.unfinished is
    | inr other ↦ other (get_or-take place bytes 3 0 far ∙ fourth)
  ];
}

-- what every opening has
abbrev opening_least : Spelling → ℕ
opening_least Bits = 4
opening_least Fours = 5
opening_least (Elements F) = 5

opening_length : (S : Spelling) → opening_least S ≤ length (opening S)
opening_length Bits = lit≤ tt
opening_length Fours = lit≤ tt
opening_length (Elements F) = let l = length-append (codes "gf2e ") (decimal F.degree ++ (codes " " ++ (hexadecimal F.poly ++ codes " "))) in omega (arith, l)

opening_four : (S : Spelling) → length (opening S) ≤ 4 → get_or (opening S) 3 0 ≡ 32
opening_four Bits short = refl
opening_four Fours short = absurd (omega arith)
opening_four (Elements F) short = let l = opening_length (Elements F) in absurd (omega (arith, l, short))

-- the first three letters
abbrev letter : ℕ → ℕ
letter p = get_or (codes "gf2") p 0

opening_letter : (S : Spelling) (p : ℕ) → p < 3 → get_or (opening S) p 0 ≡ letter p
opening_letter Bits zero below = refl
opening_letter Bits (suc zero) below = refl
opening_letter Bits (suc (suc zero)) below = refl
opening_letter Bits (suc (suc (suc p))) below = absurd (omega arith)
opening_letter Fours zero below = refl
opening_letter Fours (suc zero) below = refl
opening_letter Fours (suc (suc zero)) below = refl
opening_letter Fours (suc (suc (suc p))) below = absurd (omega arith)
opening_letter (Elements F) zero below = refl
opening_letter (Elements F) (suc zero) below = refl
opening_letter (Elements F) (suc (suc zero)) below = refl
opening_letter (Elements F) (suc (suc (suc p))) below = absurd (omega arith)

word_letter : (k : Letters) (p : ℕ) → p < 3 → get_or (word_of k) p 0 ≡ letter p
word_letter OfBits zero below = refl
word_letter OfBits (suc zero) below = refl
word_letter OfBits (suc (suc zero)) below = refl
word_letter OfBits (suc (suc (suc p))) below = absurd (omega arith)
word_letter OfFours zero below = refl
word_letter OfFours (suc zero) below = refl
word_letter OfFours (suc (suc zero)) below = refl
word_letter OfFours (suc (suc (suc p))) below = absurd (omega arith)
word_letter OfElements zero below = refl
word_letter OfElements (suc zero) below = refl
word_letter OfElements (suc (suc zero)) below = refl
word_letter OfElements (suc (suc (suc p))) below = absurd (omega arith)

-- a longer front of an opening
front_byte : (bytes rest : List ℕ) (S : Spelling) (place j : ℕ) → place < length bytes → j ≤ place → take (place + 1) bytes ++ rest ≡ opening S
    → get_or bytes j 0 ≡ get_or (opening S) j 0
front_byte bytes rest S place j inside before e =
    sym (get_or_append_left (take (place + 1) bytes) rest 0 j (omega (arith, length-take (place + 1) bytes)) ∙ get_or-take (place + 1) bytes j 0 (omega arith))
    ∙ ap (λ l. get_or l j 0) e

-- some opening with these letters, and what it has behind them
abbrev rest_of : Letters → List ℕ
rest_of OfBits = []
rest_of OfFours = []
rest_of OfElements = (decimal 2 ++ 32 ∷ []) ++ (hexadecimal 7 ++ 32 ∷ [])

some_opening : (k : Letters) → IsOpening (word_of k ++ rest_of k)
some_opening OfBits = (Bits, tt, refl)
some_opening OfFours = (Fours, tt, refl)
some_opening OfElements = (Elements (record { degree = 2; poly = 7 }), (lit< tt, lit< tt), elements_joined (record { degree = 2; poly = 7 }))

-- bytes go wrong in the letters
module _ (bytes : List ℕ) where
  no_letter : (k : Letters) (p : ℕ) → IsByFourth bytes k → IsFirstOther bytes (word_of k) p → p < length bytes → (S : Spelling)
      → get_or bytes p 0 ≡ get_or (opening S) p 0 → (3 ≤ p → get_or bytes 3 0 ≡ get_or (opening S) 3 0) → ⊥
  no_letter k zero by found inside S same third = found.differs inside (same ∙ opening_letter S 0 (lit< tt) ∙ sym (word_letter k 0 (lit< tt)))
  no_letter k (suc zero) by found inside S same third = found.differs inside (same ∙ opening_letter S 1 (lit< tt) ∙ sym (word_letter k 1 (lit< tt)))
  no_letter k (suc (suc zero)) by found inside S same third = found.differs inside (same ∙ opening_letter S 2 (lit< tt) ∙ sym (word_letter k 2 (lit< tt)))
  no_letter OfBits (suc (suc (suc zero))) by found inside Bits same third = found.differs inside same
  no_letter OfBits (suc (suc (suc zero))) by found inside Fours same third = by.0 inside same
  no_letter OfBits (suc (suc (suc zero))) by found inside (Elements F) same third = by.1 inside same
  no_letter OfFours (suc (suc (suc zero))) by found inside S same third = found.differs inside by.1
  no_letter OfElements (suc (suc (suc zero))) by found inside S same third = found.differs inside by.1
  no_letter OfBits (suc (suc (suc (suc p)))) by found inside S same third = let i = found.inside in absurd (omega (arith, i))
  no_letter OfFours (suc (suc (suc (suc zero)))) by found inside Bits same third = let t = third (lit≤ tt) in omega (arith, t, by.1)
  no_letter OfFours (suc (suc (suc (suc zero)))) by found inside Fours same third = found.differs inside same
  no_letter OfFours (suc (suc (suc (suc zero)))) by found inside (Elements F) same third = let t = third (lit≤ tt) in omega (arith, t, by.1)
  no_letter OfElements (suc (suc (suc (suc zero)))) by found inside Bits same third = let t = third (lit≤ tt) in omega (arith, t, by.1)
  no_letter OfElements (suc (suc (suc (suc zero)))) by found inside Fours same third = let t = third (lit≤ tt) in omega (arith, t, by.1)
  no_letter OfElements (suc (suc (suc (suc zero)))) by found inside (Elements F) same third = found.differs inside same
  no_letter OfFours (suc (suc (suc (suc (suc p))))) by found inside S same third = let i = found.inside in absurd (omega (arith, i))
  no_letter OfElements (suc (suc (suc (suc (suc p))))) by found inside S same third = let i = found.inside in absurd (omega (arith, i))

  fourth_space : (k : Letters) → IsByFourth bytes k → 4 < length (word_of k) → get_or bytes 3 0 ≡ 32 → ⊥
  fourth_space OfBits by long space = absurd (omega arith)
  fourth_space OfFours by long space = omega (arith, by.1, space)
  fourth_space OfElements by long space = omega (arith, by.1, space)

  word_long : (k : Letters) → length (word_of k) ≤ 5
  word_long OfBits = lit≤ tt
  word_long OfFours = lit≤ tt
  word_long OfElements = lit≤ tt

  pub wrong_letters : (k : Letters) (place : ℕ) → IsByFourth bytes k → IsFirstOther bytes (word_of k) place → GoesWrong IsOpening bytes place
  wrong_letters k place by found = record {
    longest = IsLongest-from_next IsOpening bytes place found.within (
      drop place (word_of k) ++ rest_of k,
      subst IsOpening (ap (λ w. w ++ rest_of k) (sym (take-append-drop place (word_of k))) ∙ append_assoc (take place (word_of k)) (drop place (word_of k)) (rest_of k)
          ∙ ap (λ w. w ++ (drop place (word_of k) ++ rest_of k)) (sym found.same)) (some_opening k),
    )
        (λ inside goes.
        let (rest, (S, few, e)) = goes in
        no_letter k place by found inside S (front_byte bytes rest S place place inside (omega arith) e) (λ third. front_byte bytes rest S place 3 inside third e));
    unfinished = λ whole.
        let (S, few, e) = whole in
        let long = length-take-le place bytes found.within in
        let least = opening_length S in
        let most = word_long k in
        let four : 4 ≤ opening_least S = at_least S in
        let i = found.inside in
        let place_is : place ≡ 4 = omega (arith, ap length e, long, least, most, four, i) in
        fourth_space k by (omega (arith, i, place_is))
        (sym (get_or-take place bytes 3 0 (omega arith)) ∙ ap (λ l. get_or l 3 0) e ∙ opening_four S (omega (arith, ap length e, long, place_is)));
  }
    where
      at_least : (S : Spelling) → 4 ≤ opening_least S
      at_least Bits = lit≤ tt
      at_least Fours = lit≤ tt
      at_least (Elements F) = lit≤ tt

-- no opening begins another
pub IsPrefixFree-opening : IsPrefixFree IsOpening
IsPrefixFree-opening a b (S, few, e) (T, few', e') = at S T few few' e e' fourth
  where
    fourth : get_or (opening S) 3 0 ≡ get_or (opening T) 3 0
    fourth =
        let l = opening_length S in
        let four : 4 ≤ length a = least S e in
        sym (ap (λ w. get_or w 3 0) e) ∙ sym (get_or_append_left a b 0 3 (omega (arith, four))) ∙ ap (λ w. get_or w 3 0) e'
      where
        least : (S : Spelling) → a ≡ opening S → 4 ≤ length a
        least Bits e = omega (arith, ap length e)
        least Fours e = omega (arith, ap length e)
        least (Elements F) e = let l = opening_length (Elements F) in omega (arith, ap length e, l)

    at : (S T : Spelling) → IsSpelling S → IsSpelling T → a ≡ opening S → a ++ b ≡ opening T → get_or (opening S) 3 0 ≡ get_or (opening T) 3 0 → b ≡ []
    at Bits Bits few few' e e' same = nil_from_length b (omega (arith, ap length e, ap length e', length-append a b))
    at Bits Fours few few' e e' same = absurd (omega (arith, same))
    at Bits (Elements F) few few' e e' same = absurd (omega (arith, same))
    at Fours Bits few few' e e' same = absurd (omega (arith, same))
    at Fours Fours few few' e e' same = nil_from_length b (omega (arith, ap length e, ap length e', length-append a b))
    at Fours (Elements F) few few' e e' same = absurd (omega (arith, same))
    at (Elements F) Bits few few' e e' same = absurd (omega (arith, same))
    at (Elements F) Fours few few' e e' same = absurd (omega (arith, same))
    at (Elements F) (Elements G) few few' e e' same =
        IsPrefixFree-whole IsWord IsPrefixFree-word 10 9 32 16 8 32 field_numbers a b (as_elements a F few e) (as_elements (a ++ b) G few' e')

-- an extension field's numbers
module _ (bytes : List ℕ) (letters : take 5 bytes ≡ codes "gf2e ") where
  pub five_long : 5 ≤ length bytes
  five_long = omega (arith, ap length letters, length-take 5 bytes)

  fourth : get_or bytes 3 0 ≡ 101
  fourth = sym (get_or-take 5 bytes 3 0 (lit< tt)) ∙ ap (λ w. get_or w 3 0) letters

  pub wrong_degree : (place : ℕ) → GoesWrongFrom (IsNumber 10 9 32) bytes 5 place → GoesWrong IsOpening bytes place
  wrong_degree place found =
      wrong_elements bytes place (let b = found.behind in omega (arith, b)) fourth (wrong_first IsWord IsPrefixFree-word 10 9 32 16 8 32 field_numbers bytes 5 five_long letters place found)

  pub wrong_poly : (degree end place : ℕ) → IsNumberAt 10 9 bytes 5 32 degree end → GoesWrongFrom (IsNumber 16 8 32) bytes end place → GoesWrong IsOpening bytes place
  wrong_poly degree end place number found =
      wrong_elements bytes place (let b = found.behind in let far = behind_first 10 9 bytes 5 32 degree end five_long number in omega (arith, b, far)) fourth
      (wrong_second IsWord IsPrefixFree-word 10 9 32 16 8 32 field_numbers bytes 5 five_long letters degree end place number found)

  pub elements_read : (degree middle poly end : ℕ) → IsNumberAt 10 9 bytes 5 32 degree middle → IsNumberAt 16 8 bytes middle 32 poly end
      → IsOpeningOf bytes (Elements (record { degree = degree; poly = poly })) end
  elements_read degree middle poly end first second = record {
    within = second.within;
    spelling = (first.small, second.small);
    spelled = numbers_read IsWord IsPrefixFree-word 10 9 32 16 8 32 field_numbers bytes 5 five_long letters degree middle poly end first second
        ∙ ap (λ w. w ++ ((decimal degree ++ 32 ∷ []) ++ (hexadecimal poly ++ 32 ∷ []))) letters ∙ elements_joined (record { degree = degree; poly = poly });
  }

-- a header line, in its parts
abbrev IsParts : List ℕ → Type 0
IsParts = Joined IsOpening (Joined (IsNumber 10 9 32) (IsNumber 10 9 10))

pub header_joined : (S : Spelling) (m n : ℕ) → opening S ++ ((decimal m ++ 32 ∷ []) ++ (decimal n ++ 10 ∷ [])) ≡ header S m n
header_joined S m n = ap (λ w. opening S ++ w) (append_assoc (decimal m) (32 ∷ []) (decimal n ++ 10 ∷ []))

to_parts : (w : List ℕ) → IsHeader w → IsParts w
to_parts w (S, m, n, are, e) = (
  opening S,
  (decimal m ++ 32 ∷ []) ++ (decimal n ++ 10 ∷ []),
  (S, are.spelling, refl),
  (decimal m ++ 32 ∷ [], decimal n ++ 10 ∷ [], (m, are.rows, refl), (n, are.cols, refl), refl),
  e ∙ sym (header_joined S m n),
)

from_parts : (w : List ℕ) → IsParts w → IsHeader w
from_parts w (a, b, (S, few, letters), (c, d, (m, rows, first), (n, cols, second), numbers), whole) = (
  S,
  m,
  n,
  record { spelling = few; rows = rows; cols = cols },
  whole ∙ ap₂ (λ x y. x ++ y) letters (numbers ∙ ap₂ (λ x y. x ++ y) first second) ∙ header_joined S m n,
)

-- no header line begins another
pub IsPrefixFree-header : IsPrefixFree IsHeader
IsPrefixFree-header = IsPrefixFree-within IsParts IsHeader to_parts (IsPrefixFree-whole IsOpening IsPrefixFree-opening 10 9 32 10 9 10 size_numbers)

wrong_header : (bytes : List ℕ) (place : ℕ) → GoesWrong IsParts bytes place → GoesWrong IsHeader bytes place
wrong_header = GoesWrong-same IsParts IsHeader from_parts to_parts

pub wrong_opening : (bytes : List ℕ) (place : ℕ) → GoesWrong IsOpening bytes place → GoesWrong IsHeader bytes place
wrong_opening bytes place found = wrong_header bytes place (wrong_before IsOpening IsPrefixFree-opening 10 9 32 10 9 10 size_numbers bytes place found)

pub wrong_rows : (bytes : List ℕ) (S : Spelling) (opened place : ℕ) → IsOpeningOf bytes S opened → GoesWrongFrom (IsNumber 10 9 32) bytes opened place
    → GoesWrong IsHeader bytes place
wrong_rows bytes S opened place o found =
    wrong_header bytes place
    (wrong_first IsOpening IsPrefixFree-opening 10 9 32 10 9 10 size_numbers bytes opened o.within (S, o.spelling, o.spelled) place found)

pub wrong_cols : (bytes : List ℕ) (S : Spelling) (opened rows end place : ℕ) → IsOpeningOf bytes S opened → IsNumberAt 10 9 bytes opened 32 rows end
    → GoesWrongFrom (IsNumber 10 9 10) bytes end place → GoesWrong IsHeader bytes place
wrong_cols bytes S opened rows end place o number found =
    wrong_header bytes place
    (wrong_second IsOpening IsPrefixFree-opening 10 9 32 10 9 10 size_numbers bytes opened o.within (S, o.spelling, o.spelled) rows end place number found)

-- bytes that begin with a header line
pub header_read : (bytes : List ℕ) (S : Spelling) (opened rows middle cols end : ℕ) → IsOpeningOf bytes S opened
    → IsNumberAt 10 9 bytes opened 32 rows middle → IsNumberAt 10 9 bytes middle 10 cols end → IsHeaderOf bytes S rows cols end
header_read bytes S opened rows middle cols end o first second = record {
  within = second.within;
  numbers = record { spelling = o.spelling; rows = first.small; cols = second.small };
  spelled = numbers_read IsOpening IsPrefixFree-opening 10 9 32 10 9 10 size_numbers bytes opened o.within (S, o.spelling, o.spelled) rows middle cols end first second
      ∙ ap (λ w. w ++ ((decimal rows ++ 32 ∷ []) ++ (decimal cols ++ 10 ∷ []))) o.spelled ∙ header_joined S rows cols;
}
