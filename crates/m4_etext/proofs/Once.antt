-- A header line tells its numbers, and no text is both read and refused.
use Rattle.std.proofs.Common.{◌≡◌, ℕ, ◌+◌, ◌<◌, ◌≤◌, ◌^◌, false, List, [], ◌∷◌, ◌++◌, get_or, flat_map, codes, decimal, refl, sym, ◌∙◌, ap, ap₂, subst, subst₂, arith, inl, inr, lit≤}
use Rattle.std.proofs.lemmas.List.{append_cancel_left, append_cancel_right}
use Rattle.std.specs.Fmt.{digits}
use Rattle.m4_model.specs.Field.{Field, width, IsField, IsExtension}
use Rattle.m4_model.specs.Matrix.{Matrix}
use Rattle.m4_model.specs.Text.{IsWithinLimits}
use Rattle.m4_model.specs.Headed.{Spelling, Bits, Fours, Elements, IsSpelling, AreHeaderNumbers, HasHeader, HasField, IsHeader, Reads, Refusal, Fault, BadAt, BadDegreeAt, ReducibleAt, PastLimit, field_of, opening, header, line, hexadecimal, first_version, second_version}
use Rattle.std.proofs.Math.Pow.{pow_mono}
use Rattle.m4_etext.specs.declared.radix.Radix.TheVariants.{Decimal, Hexadecimal}
use Rattle.m4_etext.specs.Place.{IsOpening, IsDigitIn}
use Rattle.m4_etext.proofs.Fronts.{same_parts}
use Rattle.m4_etext.proofs.Numerals.{IsBase, ten, sixteen, AreDigits-numeral, numeral_injective}
use Rattle.m4_etext.proofs.Numbers.{digits_apart}
use Rattle.m4_etext.proofs.Headers.{IsPrefixFree-header, IsPrefixFree-opening, space_apart}
use Rattle.m4_etext.proofs.Versions.{first_of_extension, second_of_extension}

-- two numbers with a space behind them
same_number : (b most : ℕ) → IsBase b → most ≤ 64 → (IsDigitIn b 32 → ⊥) → (m n : ℕ) (x y : List ℕ) → m < b ^ most → n < b ^ most
    → digits b false m ++ 32 ∷ x ≡ digits b false n ++ 32 ∷ y → (m ≡ n) × (x ≡ y)
same_number b most is few apart m n x y small small' e =
    elim (digits_apart b (digits b false m) (digits b false n) x y 32 32 (AreDigits-numeral b is most few m small) (AreDigits-numeral b is most few n small') apart e) [
      | inl same ↦ (numeral_injective b is most m n few small small' same.0, same.2)
      | inr longer ↦ absurd (apart longer.0)
    ]

-- an opening tells its spelling
same_opening : (S T : Spelling) → IsSpelling S → IsSpelling T → opening S ≡ opening T → S ≡ T
same_opening Bits Bits few few' e = refl
same_opening Bits Fours few few' e = absurd (omega (arith, ap (λ l. get_or l 3 0) e))
same_opening Bits (Elements F) few few' e = absurd (omega (arith, ap (λ l. get_or l 3 0) e))
same_opening Fours Bits few few' e = absurd (omega (arith, ap (λ l. get_or l 3 0) e))
same_opening Fours Fours few few' e = refl
same_opening Fours (Elements F) few few' e = absurd (omega (arith, ap (λ l. get_or l 3 0) e))
same_opening (Elements F) Bits few few' e = absurd (omega (arith, ap (λ l. get_or l 3 0) e))
same_opening (Elements F) Fours few few' e = absurd (omega (arith, ap (λ l. get_or l 3 0) e))
same_opening (Elements F) (Elements G) few few' e =
    let behind = append_cancel_left (codes "gf2e ") (decimal F.degree ++ 32 ∷ (hexadecimal F.poly ++ 32 ∷ [])) (decimal G.degree ++ 32 ∷ (hexadecimal G.poly ++ 32 ∷ [])) e in
    let first = same_number 10 9 ten (lit≤ tt) (space_apart Decimal) F.degree G.degree (hexadecimal F.poly ++ 32 ∷ []) (hexadecimal G.poly ++ 32 ∷ []) few.0 few'.0 behind in
    let second = same_number 16 8 sixteen (lit≤ tt) (space_apart Hexadecimal) F.poly G.poly [] [] few.1 few'.1 first.1 in
    ap₂ (λ d p. Elements (record { degree = d; poly = p })) first.0 second.0

-- a header line tells its numbers
pub record AreSame (S T : Spelling) (m n k l : ℕ) : Type 0 where
  pub spelling : S ≡ T
  pub rows : m ≡ k
  pub cols : n ≡ l

same_header : (S T : Spelling) (m n k l : ℕ) → AreHeaderNumbers S m n → AreHeaderNumbers T k l → header S m n ≡ header T k l → AreSame S T m n k l
same_header S T m n k l are are' e =
    let parts = same_parts IsOpening IsPrefixFree-opening (opening S) (decimal m ++ 32 ∷ (decimal n ++ 10 ∷ [])) (opening T) (decimal k ++ 32 ∷ (decimal l ++ 10 ∷ []))
    (S, are.spelling, refl) (T, are'.spelling, refl) e in
    let first = same_number 10 9 ten (lit≤ tt) (space_apart Decimal) m k (decimal n ++ 10 ∷ []) (decimal l ++ 10 ∷ []) are.rows are'.rows parts.1 in
    record {
      spelling = same_opening S T are.spelling are'.spelling parts.0;
      rows = first.0;
      cols = numeral_injective 10 ten 9 n l (lit≤ tt) are.cols are'.cols (append_cancel_right (decimal n) (decimal l) (10 ∷ []) first.1);
    }

-- and so do bytes that begin with one
pub same_sizes : (bytes : List ℕ) (S T : Spelling) (m n k l : ℕ) → HasHeader bytes S m n → HasHeader bytes T k l → AreSame S T m n k l
same_sizes bytes S T m n k l (are, rest, e) (are', rest', e') =
    same_header S T m n k l are are'
    (same_parts IsHeader IsPrefixFree-header (header S m n) rest (header T k l) rest' (S, m, n, are, refl) (T, k, l, are', refl) (sym e ∙ e')).0

-- a text that is read begins with a header line, and is the text of its matrix
pub record IsOwn (bytes : List ℕ) (M : Matrix) (S : Spelling) : Type 0 where
  pub begins : HasHeader bytes S M.rows M.cols
  pub has_field : HasField S
  pub field : M.field ≡ field_of S
  pub spelled : bytes ≡ header S M.rows M.cols ++ flat_map (line S) M.entries

field_spelling : (M : Matrix) (bytes : List ℕ) → IsField M.field → Reads bytes M → (S : Spelling) × HasField S × IsSpelling S × (M.field ≡ field_of S) × (bytes ≡ header S M.rows M.cols ++ flat_map (line S) M.entries)
field_spelling M bytes (inl over) reads = elim reads.spelled [
  | inl first ↦ (Bits, tt, tt, over, first ∙ ap (λ F. header (first_version F) M.rows M.cols ++ flat_map (line (first_version F)) M.entries) over)
  | inr second ↦ (Fours, tt, tt, over, second ∙ ap (λ F. header (second_version F) M.rows M.cols ++ flat_map (line (second_version F)) M.entries) over)
]
field_spelling M bytes (inr extension) reads =
    let high = extension.degree_high in
    let poly = small_poly M.field extension in
    let few : IsSpelling (Elements M.field) = (omega (arith, high), poly) in
    elim reads.spelled [
      | inl first ↦ (Elements M.field, extension, few, refl, first ∙ ap (λ S. header S M.rows M.cols ++ flat_map (line S) M.entries) (first_of_extension M.field extension))
      | inr second ↦ (Elements M.field, extension, few, refl, second ∙ ap (λ S. header S M.rows M.cols ++ flat_map (line S) M.entries) (second_of_extension M.field extension))
    ]
  where
    small_poly : (F : Field) → IsExtension F → F.poly < 16 ^ 8
    small_poly F is =
        let high = is.degree_high in
        let below = is.poly_high in
        let most = pow_mono {i = F.degree + 1} {j = 17} (omega (arith, high)) in
        omega (arith, below, most)

pub own_text : (bytes : List ℕ) (M : Matrix) → Reads bytes M → (S : Spelling) × IsOwn bytes M S
own_text bytes M reads =
    let (S, has, few, field, e) = field_spelling M bytes reads.accepted.matrix.over_field reads in
    let limits = reads.accepted.limits in (
      S,
      record {
        begins = (record { spelling = few; rows = omega (arith, limits.rows); cols = omega (arith, limits.cols) }, flat_map (line S) M.entries, e);
        has_field = has;
        field = field;
        spelled = e;
      },
    )

-- no bytes are both read and refused
pub read_or_refused : (bytes : List ℕ) (M : Matrix) (fault : Fault) → Reads bytes M → Refusal bytes fault → ⊥
read_or_refused bytes M (BadAt place) reads (inl bad) = let (S, own) = own_text bytes M reads in bad.none S M.rows M.cols own.begins
read_or_refused bytes M (BadAt place) reads (inr bad) =
    let (S, own) = own_text bytes M reads in
    let same = same_sizes bytes S bad.spelling M.rows M.cols bad.rows bad.cols own.begins bad.begins in
    bad.none (
      M,
      reads.accepted.matrix,
      own.field ∙ ap field_of same.spelling,
      same.rows,
      same.cols,
      own.spelled ∙ ap (λ S. header S M.rows M.cols ++ flat_map (line S) M.entries) same.spelling,
    )
read_or_refused bytes M (BadDegreeAt place) reads bad =
    let (S, own) = own_text bytes M reads in
    let same = same_sizes bytes S (Elements bad.field) M.rows M.cols bad.rows bad.cols own.begins bad.begins in
    let is : IsExtension bad.field = subst HasField same.spelling own.has_field in
    bad.refused (is.degree_low, is.degree_high)
read_or_refused bytes M (ReducibleAt place) reads bad =
    let (S, own) = own_text bytes M reads in
    let same = same_sizes bytes S (Elements bad.field) M.rows M.cols bad.rows bad.cols own.begins bad.begins in
    bad.refused (subst HasField same.spelling own.has_field)
read_or_refused bytes M PastLimit reads bad =
    let (S, own) = own_text bytes M reads in
    let same = same_sizes bytes S bad.spelling M.rows M.cols bad.rows bad.cols own.begins bad.begins in
    bad.past (subst₂ (IsWithinLimits (width (field_of bad.spelling))) same.rows same.cols
    (subst (λ F. IsWithinLimits (width F) M.rows M.cols) (own.field ∙ ap field_of same.spelling) reads.accepted.limits))
