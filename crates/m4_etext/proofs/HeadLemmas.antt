-- Header lines that are fed in pieces.
use Rattle.std.proofs.Common.{◌≡◌, ℕ, ◌<◌, ◌≤◌, List, [], ◌∷◌, ◌++◌, length, take, drop, refl, sym, ◌∙◌, ap, subst, arith, inl, inr, append-nil, length-append, take-append-drop, take_all, codes, decimal, lit<, lit≤}
use Rattle.std.proofs.lemmas.List.{take-append-le, nil_from_length}
use Rattle.std.proofs.lemmas.Bool.{cases_lt}
use Rattle.m4_model.specs.Headed.{Spelling, Bits, Fours, Elements, IsHeader, AreHeaderNumbers, header, opening, hexadecimal}
use Rattle.m4_etext.specs.declared.opening.Letters.TheVariants.{OfBits}
use Rattle.m4_etext.specs.Place.{GoesWrong, IsHeaderOf}
use Rattle.m4_etext.specs.Heads.{BeginsHeader}
use Rattle.m4_etext.proofs.Fronts.{no_front}
use Rattle.m4_etext.proofs.Numerals.{ten, sixteen, length-numeral}
use Rattle.m4_etext.proofs.Headers.{IsPrefixFree-header, wrong_letters, wrong_opening}

-- a header line is short
pub length-header-le : (S : Spelling) (m n : ℕ) → AreHeaderNumbers S m n → length (header S m n) ≤ 44
length-header-le S m n are =
    let rows = length-numeral 10 ten 9 m (lit< tt) (lit≤ tt) are.rows in
    let cols = length-numeral 10 ten 9 n (lit< tt) (lit≤ tt) are.cols in
    let first : length (opening S) ≤ 24 = at S are in
    omega (
      arith,
      length-append (opening S) (decimal m ++ (codes " " ++ (decimal n ++ codes "\n"))),
      length-append (decimal m) (32 ∷ (decimal n ++ 10 ∷ [])),
      length-append (decimal n) (10 ∷ []),
      rows,
      cols,
      first,
    )
  where
    at : (S : Spelling) → AreHeaderNumbers S m n → length (opening S) ≤ 24
    at Bits are = lit≤ tt
    at Fours are = lit≤ tt
    at (Elements F) are =
        let degree = length-numeral 10 ten 9 F.degree (lit< tt) (lit≤ tt) are.spelling.0 in
        let poly = length-numeral 16 sixteen 8 F.poly (lit< tt) (lit≤ tt) are.spelling.1 in
        omega (
          arith,
          length-append (codes "gf2e ") (decimal F.degree ++ (codes " " ++ (hexadecimal F.poly ++ codes " "))),
          length-append (decimal F.degree) (32 ∷ (hexadecimal F.poly ++ 32 ∷ [])),
          length-append (hexadecimal F.poly) (32 ∷ []),
          degree,
          poly,
        )

-- no bytes begin a header line
pub BeginsHeader-none : BeginsHeader []
BeginsHeader-none =
    wrong_opening [] 0 (wrong_letters [] OfBits 0 (λ inside. absurd (omega arith), λ inside. absurd (omega arith)) (record {
      inside = lit< tt;
      within = omega arith;
      same = refl;
      differs = λ inside. absurd (omega arith);
    }))

-- a front of a header line is short
pub front_short : (bytes : List ℕ) → BeginsHeader bytes → length bytes < 44
front_short bytes begins =
    let (rest, (S, m, n, are, e)) = begins.longest.begins in
    let all : take (length bytes) bytes ≡ bytes = take_all (length bytes) bytes (omega arith) in
    let long = length-header-le S m n are in
    elim (cases_lt (length bytes) 44) [
      | inl short ↦ short
      | inr full ↦
          let none : rest ≡ [] =
          nil_from_length rest (omega (arith, long, ap length e, length-append (take (length bytes) bytes) rest, ap length all)) in
          absurd (begins.unfinished (S, m, n, are, sym (ap (λ l. take (length bytes) bytes ++ l) none ∙ append-nil _) ∙ e))
    ]

-- a header line that a byte ends is all of the bytes
pub header_whole : (bytes : List ℕ) (byte : ℕ) (S : Spelling) (m n end : ℕ) → BeginsHeader bytes → IsHeaderOf (bytes ++ byte ∷ []) S m n end
    → end ≡ length (bytes ++ byte ∷ [])
header_whole bytes byte S m n end begins found =
    elim (cases_lt (length bytes) end) [
      | inl past ↦ omega (arith, found.within, length-append bytes (byte ∷ []))
      | inr short ↦
          let head : take end bytes ≡ header S m n = sym (take-append-le end bytes (byte ∷ []) short) ∙ found.spelled in
          absurd (no_front IsHeader IsPrefixFree-header (take end bytes) (drop end bytes) (length bytes)
          (subst (λ l. GoesWrong IsHeader l (length bytes)) (sym (take-append-drop end bytes)) begins) (S, m, n, found.numbers, head))
    ]
