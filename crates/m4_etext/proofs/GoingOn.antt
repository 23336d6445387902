-- A headed text that may go on.
use Rattle.std.proofs.Common.{◌≡◌, ℕ, ◌+◌, ◌*◌, ◌<◌, ◌≤◌, ◌^◌, List, [], ◌++◌, length, take, flat_map, refl, sym, ◌∙◌, ap, ap₂, subst, arith, inl, inr, append_assoc, append-nil, length-append, take_all}
use Rattle.std.proofs.lemmas.List.{nil_from_length}
use Rattle.std.proofs.lemmas.Bool.{cases_lt}
use Rattle.std.proofs.Math.Nat.{mul-le-mul_left}
use Rattle.m4_model.specs.Field.{width, IsField}
use Rattle.m4_model.specs.Matrix.{zero_matrix}
use Rattle.m4_model.specs.Text.{IsWithinLimits, words_per_row}
use Rattle.m4_model.specs.Headed.{Spelling, Bits, Fours, Elements, IsHeader, HasHeader, HasField, IsTextOf, Reads, Refusal, Fault, BadAt, BadDegreeAt, ReducibleAt, PastLimit, AreHeaderNumbers, field_of, header, line, text_in, digits_per_element}
use Rattle.m4_model.proofs.FieldLemmas.{gf2_field}
use Rattle.m4_model.proofs.ShapeLemmas.{HasShape-zero_matrix}
use Rattle.m4_field.proofs.WidthLemmas.{width_is}
use Rattle.m4_etext.specs.Place.{GoesWrong}
use Rattle.m4_etext.specs.Heads.{BeginsHeader}
use Rattle.m4_etext.specs.Pieces.{Kept, StandsForLines, digits_in}
use Rattle.m4_etext.specs.Reading.{StandsFor, IsUntold, GoesOn}
use Rattle.m4_etext.specs.declared.reader.State.{State}
use Rattle.m4_etext.specs.declared.reader.State.TheVariants.{AtHead, AtLines, Told}
use Rattle.m4_etext.proofs.Fronts.{no_front}
use Rattle.m4_etext.proofs.Headers.{IsPrefixFree-header}
use Rattle.m4_etext.proofs.HeadLemmas.{front_short, length-header-le}
use Rattle.m4_etext.proofs.Pieces.{body_begins, length-text}
use Rattle.m4_etext.proofs.Versions.{of_version}
use Rattle.m4_etext.proofs.Once.{read_or_refused}

-- the field of a spelling is one
field_is : (S : Spelling) → HasField S → IsField (field_of S)
field_is Bits has = gf2_field
field_is Fours has = gf2_field
field_is (Elements F) has = inr has

-- a row has no more digits than bits
few_digits : (S : Spelling) (n : ℕ) → HasField S → digits_in S n ≤ 64 * words_per_row (n * width (field_of S))
few_digits Bits n has = omega arith
few_digits Fours n has = omega arith
few_digits (Elements F) n has =
    let w = width F in
    let is = width_is F.degree has.degree_high in
    let room = is.room in
    let some = is.some in
    let few : digits_per_element F ≤ w = omega (arith, room, some) in
    let most : n * digits_per_element F ≤ n * w = mul-le-mul_left n few in
    omega (arith, most)

-- a text within the limits has at most 2^29 bytes
pub bounded_text : (S : Spelling) (m n : ℕ) (w : List ℕ) → HasField S → AreHeaderNumbers S m n → IsWithinLimits (width (field_of S)) m n → IsTextOf S m n w → length w ≤ 2 ^ 29
bounded_text S m n w has are limits is =
    let words = words_per_row (n * width (field_of S)) in
    let most : m * digits_in S n ≤ m * (64 * words) = mul-le-mul_left m (few_digits S n has) in
    let ends : m * (digits_in S n + 1) ≡ m * digits_in S n + m = grind arith in
    let all : m * (64 * words) ≡ 64 * (m * words) = grind arith in
    omega (arith, length-text S m n w is, length-header-le S m n are, most, ends, all, limits.words, limits.rows)

-- some file that begins so is read
pub lines_open : (k : Kept) (bytes : List ℕ) → StandsForLines k bytes → (more : List ℕ) × Reads (bytes ++ more) k.matrix × IsTextOf k.spelling k.matrix.rows k.matrix.cols (bytes ++ more)
lines_open k bytes stands =
    let S = k.spelling in
    let A = k.matrix in
    let (more, e) = body_begins S A k.row_next k.place_next stands.body stands.read in
    let field = stands.read.field in
    let whole : bytes ++ more ≡ text_in S A =
    ap (λ l. l ++ more) stands.spelled ∙ append_assoc (header S A.rows A.cols) stands.body more ∙ ap (λ l. header S A.rows A.cols ++ l) (sym e) in (
      more,
      record {
        accepted = record { matrix = stands.read.matrix; limits = subst (λ F. IsWithinLimits (width F) A.rows A.cols) (sym field) stands.limits };
        spelled = of_version S A (bytes ++ more) stands.has_field field whole;
      },
      (A, stands.read.matrix, field, refl, refl, whole),
    )

-- a header line that isn't whole has no whole header line
begins_none : (bytes : List ℕ) (S : Spelling) (m n : ℕ) → BeginsHeader bytes → HasHeader bytes S m n → ⊥
begins_none bytes S m n begins (are, rest, e) =
    no_front IsHeader IsPrefixFree-header (header S m n) rest (length bytes) (subst (λ l. GoesWrong IsHeader l (length bytes)) e begins) (S, m, n, are, refl)

-- a whole header line may go on, if it has a field
header_goes_on : (S : Spelling) (m n : ℕ) → HasField S → (w : List ℕ) × IsTextOf S m n (header S m n ++ w)
header_goes_on S m n has =
    let F = field_of S in
    let shape = HasShape-zero_matrix F m n (field_is S has) in
    let M = zero_matrix F m n in
    (flat_map (line S) M.entries, (M, shape.is_matrix, shape.over, shape.rows, shape.cols, ap₂ (λ k l. header S k l ++ flat_map (line S) M.entries) (sym shape.rows) (sym shape.cols)))

-- a header line that isn't whole may go on
module _ (bytes : List ℕ) (begins : BeginsHeader bytes) where
  -- the one place where it could be refused by itself
  place_is : (place : ℕ) → Refusal bytes (BadAt place) → place ≡ length bytes
  place_is place (inr bad) = absurd (begins_none bytes bad.spelling bad.rows bad.cols begins bad.begins)
  place_is place (inl bad) = elim (cases_lt place (length bytes)) [
    | inl before ↦ absurd (bad.longest.longest (length bytes) before (omega arith) begins.longest.begins)
    | inr end ↦ let w = bad.longest.within in omega (arith, w, end)
  ]

  -- a header line that has begun so is not refused at its place
  whole_not_refused : (rest : List ℕ) (S : Spelling) (m n : ℕ) → AreHeaderNumbers S m n → bytes ++ rest ≡ header S m n → 0 < length rest → Refusal (bytes ++ rest) (BadAt (length bytes)) → ⊥
  whole_not_refused rest S m n are e some (inl bad) = bad.none S m n (are, [], e ∙ sym (append-nil (header S m n)))
  whole_not_refused rest S m n are e some (inr bad) =
      let (are', more, e') = bad.begins in
      let T = bad.spelling in
      let one : more ≡ [] = IsPrefixFree-header (header T bad.rows bad.cols) more (T, bad.rows, bad.cols, are', refl) (S, m, n, are, sym e' ∙ e) in
      let head : bytes ++ rest ≡ header T bad.rows bad.cols = e' ∙ ap (λ l. header T bad.rows bad.cols ++ l) one ∙ append-nil _ in
      let (w, text) = header_goes_on T bad.rows bad.cols bad.field in
      let all : take (length (bytes ++ rest)) (bytes ++ rest) ≡ bytes ++ rest = take_all (length (bytes ++ rest)) (bytes ++ rest) (omega arith) in
      bad.longest.longest (length (bytes ++ rest)) (omega (arith, length-append bytes rest, some)) (omega arith)
      (w, subst (λ l. IsTextOf T bad.rows bad.cols (l ++ w)) (sym (all ∙ head)) text)

  pub head_open : (fault : Fault) → ((more : List ℕ) → Refusal (bytes ++ more) fault) → ⊥
  head_open (BadAt place) all =
      let here = place_is place (subst (λ l. Refusal l (BadAt place)) (append-nil bytes) (all [])) in
      let (rest, (S, m, n, are, e)) = begins.longest.begins in
      let whole : bytes ++ rest ≡ header S m n = ap (λ l. l ++ rest) (sym (take_all (length bytes) bytes (omega arith))) ∙ e in
      elim (cases_lt 0 (length rest)) [
        | inl some ↦ whole_not_refused rest S m n are whole some (subst (λ p. Refusal (bytes ++ rest) (BadAt p)) here (all rest))
        | inr none ↦
            let empty : rest ≡ [] = nil_from_length rest (omega arith) in
            begins_none bytes S m n begins (are, [], sym (append-nil bytes) ∙ ap (λ l. bytes ++ l) (sym empty) ∙ whole ∙ sym (append-nil (header S m n)))
      ]
  head_open (BadDegreeAt place) all =
      let bad = subst (λ l. Refusal l (BadDegreeAt place)) (append-nil bytes) (all []) in begins_none bytes (Elements bad.field) bad.rows bad.cols begins bad.begins
  head_open (ReducibleAt place) all =
      let bad = subst (λ l. Refusal l (ReducibleAt place)) (append-nil bytes) (all []) in begins_none bytes (Elements bad.field) bad.rows bad.cols begins bad.begins
  head_open PastLimit all =
      let bad = subst (λ l. Refusal l PastLimit) (append-nil bytes) (all []) in begins_none bytes bad.spelling bad.rows bad.cols begins bad.begins

-- where no fault is told, the text may go on
pub goes_on : (s : State) (bytes : List ℕ) → IsUntold s → StandsFor s bytes → GoesOn s bytes
goes_on (AtHead seen) bytes untold (same, begins) = record {
  short = omega (arith, front_short bytes begins);
  open_ = head_open bytes begins;
  held = λ S m n has. begins_none bytes S m n begins has;
}
goes_on (AtLines k) bytes untold stands =
    let (more, reads, text) = lines_open k bytes stands in
    record {
      short = omega (arith, bounded_text k.spelling k.matrix.rows k.matrix.cols (bytes ++ more) stands.has_field stands.numbers stands.limits text, length-append bytes more);
      open_ = λ fault all. read_or_refused (bytes ++ more) k.matrix fault reads (all more);
      held = λ S m n has. tt;
    }
goes_on (Told fault) bytes untold stands = absurd untold
