-- Bare texts: what their first line tells, and where bytes go wrong in one.
use Rattle.std.proofs.Common.{◌≡◌, ℕ, zero, suc, ◌+◌, ◌-◌, ◌*◌, ◌/◌, ◌%◌, ◌^◌, min, Bool, true, false, Option, Some, None, MatchOption, ◌<◌, ◌≤◌, List, [], ◌∷◌, ◌++◌, length, get_or, take, drop, refl, sym, ◌∙◌, ap, subst, subst₂, arith, inl, inr, append_assoc, append-nil, length-append, length-take, get_or-take, take-append-drop, take_all, mul-le-mul_left}
use Rattle.std.proofs.lemmas.List.{get_or_append_left, get_or-append-add, take-append-le, take_more, drop_more}
use Rattle.std.proofs.Math.Nat.{mul-le-mul_right}
use Rattle.std.proofs.lemmas.Bool.{cases_lt, cases_order}
use Rattle.m4_model.specs.Text.{Begins, IsLongest, IsWithinLimits, words_per_row, Fault, BadAt, PastLimit}
use Rattle.m4_model.specs.Field.{gf2}
use Rattle.m4_model.specs.Matrix.{Matrix, zero_matrix, table}
use Rattle.m4_model.proofs.FieldLemmas.{gf2_field}
use Rattle.m4_model.specs.Bare.{ReadsBare, IsBareFile, IsBareInLimits, IsBadBare, IsLargeBare, RefusalBare}
use Rattle.m4_model.specs.declared.form.Form.TheVariants.{Bare}
use Rattle.m4_model.proofs.MatrixLemmas.{IsMatrix-matrix_of}
use Rattle.m4_text.specs.Refused.{IsRefusalIn}
use Rattle.std.specs.Option.{is_some}
use Rattle.m4_text.specs.Reading.{ReadsLines, AreRowsToRead, HasDigit, LacksDigit, entries_of}
use Rattle.m4_text.proofs.Rows.{HasDigit-binary}
use Rattle.m4_text.specs.Place.{GoesWrong, IsLine, IsBareOf, HasLine, IsBinaryDigit}
use Rattle.m4_text.proofs.Fronts.{IsPrefixFree, IsPrefixFree-same_length, IsLongest-from_next, IsLongest-append, Begins-take, Joined, GoesWrong-same, shorter_front, no_front}
use Rattle.m4_text.proofs.Lines.{length-line, digit_in_line, end_of_line, begins_line, line_read}
use Rattle.m4_text.proofs.Bodies.{IsBody, length-body, some_body, body_of_bare, bare_of_body, none_wrong}

-- lines and more lines
body_joined : (m k n : ℕ) (a b : List ℕ) → IsBody m n a → IsBody k n b → IsBody (m + k) n (a ++ b)
unfolding IsBody
body_joined zero k n a b first second =
    let none : zero + k ≡ k = omega arith in
    subst (λ j. IsBody j n (a ++ b)) (sym none) (subst (λ w. IsBody k n (w ++ b)) (sym first) second)
body_joined (suc m) k n a b (l, rest, line, body, e) second =
    let one : suc m + k ≡ suc (m + k) = omega arith in
    subst (λ j. IsBody j n (a ++ b)) (sym one)
    (l, rest ++ b, line, body_joined m k n rest b body second, ap (λ w. w ++ b) e ∙ append_assoc l rest b)

body_parted : (m k n : ℕ) (w : List ℕ) → IsBody (m + k) n w → Joined (IsBody m n) (IsBody k n) w
unfolding IsBody
body_parted zero k n w body =
    let none : zero + k ≡ k = omega arith in
    ([], w, refl, subst (λ j. IsBody j n w) none body, refl)
body_parted (suc m) k n w body =
    let one : suc m + k ≡ suc (m + k) = omega arith in
    let (l, rest, line, behind, e) = subst (λ j. IsBody j n w) one body in
    let (a, b, first, second, f) = body_parted m k n rest behind in
    (l ++ a, b, (l, a, line, first, refl), second, e ∙ ap (λ x. l ++ x) f ∙ sym (append_assoc l a b))

-- what begins a few lines begins more
begins_more : (m k n : ℕ) (w : List ℕ) → m ≤ k → Begins (IsBody m n) w → Begins (IsBody k n) w
begins_more m k n w few (rest, body) =
    let more = some_body (k - m) n in
    let all : m + (k - m) ≡ k = omega arith in (
      rest ++ more.0,
      subst (λ j. IsBody j n (w ++ (rest ++ more.0))) all
          (subst (IsBody (m + (k - m)) n) (append_assoc w rest more.0) (body_joined m (k - m) n (w ++ rest) more.0 body more.1)),
    )

IsPrefixFree-body : (m n : ℕ) → IsPrefixFree (IsBody m n)
IsPrefixFree-body m n = IsPrefixFree-same_length (IsBody m n) (λ a b first second. length-body m n a first ∙ sym (length-body m n b second))

-- the first line of some lines
first_row : (m n : ℕ) (w : List ℕ) → IsBody m n w → 0 < length w → HasLine w n
unfolding IsBody
first_row zero n w body some = absurd (omega (arith, ap length body))
first_row (suc m) n w (a, b, line, rest, e) some =
    let wide = length-line n a line in
    record {
      inside = omega (arith, ap length e, length-append a b, wide);
      digits = λ j below.
          subst IsBinaryDigit (sym (ap (λ l. get_or l j 0) e ∙ get_or_append_left a b 0 j (omega (arith, wide)))) (digit_in_line n a j line below);
      ended = ap (λ l. get_or l n 0) e ∙ get_or_append_left a b 0 n (omega (arith, wide)) ∙ end_of_line n a line;
    }

-- a byte of a front
pub front_byte : (bytes rest : List ℕ) (k j : ℕ) → j < k → k ≤ length bytes → get_or (take k bytes ++ rest) j 0 ≡ get_or bytes j 0
front_byte bytes rest k j before within =
    get_or_append_left (take k bytes) rest 0 j (omega (arith, length-take k bytes)) ∙ get_or-take k bytes j 0 before

-- lines that begin with this front: their first line, in the bytes
row_of_front : (m n : ℕ) (bytes : List ℕ) (k : ℕ) → 0 < k → k ≤ length bytes → (goes : Begins (IsBody m n) (take k bytes))
    → ((j : ℕ) → j < k → j < n → IsBinaryDigit (get_or bytes j 0)) × (n < k → get_or bytes n 0 ≡ 10)
row_of_front m n bytes k some within goes =
    let found = first_row m n (take k bytes ++ goes.0) goes.1 (omega (arith, length-append (take k bytes) goes.0, length-take k bytes)) in (
      λ j front below. subst IsBinaryDigit (front_byte bytes goes.0 k j front within) (found.digits j below),
      λ before. sym (front_byte bytes goes.0 k n before within) ∙ found.ended,
    )

-- the first line tells the columns
same_width : (m n k : ℕ) (bytes : List ℕ) (c : ℕ) → HasLine bytes c → c < k → k ≤ length bytes → Begins (IsBody m n) (take k bytes) → n ≡ c
same_width m n k bytes c has before within goes =
    let found = row_of_front m n bytes k (omega arith) within goes in
    elim (cases_order n c) [
      | inl same ↦ same
      | inr (inl less) ↦ absurd (omega (arith, has.digits n less, found.1 (omega arith)))
      | inr (inr more) ↦ absurd (omega (arith, has.ended, found.0 c before more))
    ]

-- bare files and lines
bare_file : (m n : ℕ) (w : List ℕ) → (m ≡ 0 → n ≡ 0) → IsBody m n w → IsBareFile w
bare_file m n w held body =
    let (M, matrix, field, many, wide, e) = bare_of_body m n w body in
    (M, matrix, field, λ none. wide ∙ held (sym many ∙ none), e)

file_body : (w : List ℕ) → IsBareFile w → (m n : ℕ) × (m ≡ 0 → n ≡ 0) × IsBody m n w
file_body w (M, matrix, field, held, e) =
    (M.rows, M.cols, held, body_of_bare M.rows M.cols w (M, matrix, field, refl, refl, e))

bare_in_limits : (m n : ℕ) (w : List ℕ) → (m ≡ 0 → n ≡ 0) → IsWithinLimits 1 m n → IsBody m n w → IsBareInLimits w
bare_in_limits m n w held limits body =
    let (M, matrix, field, many, wide, e) = bare_of_body m n w body in (
      M,
      record {
        accepted = record { matrix = matrix; over_gf2 = field; limits = subst₂ (IsWithinLimits 1) (sym many) (sym wide) limits };
        held = λ none. wide ∙ held (sym many ∙ none);
        spelled = e;
      },
    )

limits_body : (w : List ℕ) → IsBareInLimits w → (m n : ℕ) × IsWithinLimits 1 m n × IsBody m n w
limits_body w (M, reads) =
    (M.rows, M.cols, reads.accepted.limits, body_of_bare M.rows M.cols w (M, reads.accepted.matrix, reads.accepted.over_gf2, refl, refl, reads.spelled))

-- a file of its own front
whole_front : (w : List ℕ) → take (length w) w ++ [] ≡ w
whole_front w = append-nil _ ∙ take_all (length w) w (omega arith)

-- digits that no line feed ends, and no digit follows
module _ (bytes : List ℕ) (k : ℕ) (some : 0 < length bytes) (within : k ≤ length bytes) (few : k ≤ 65536)
    (digits : (j : ℕ) → j < k → IsBinaryDigit (get_or bytes j 0))
    (no_digit : k < length bytes → IsBinaryDigit (get_or bytes k 0) → ⊥) (no_end : k < length bytes → get_or bytes k 0 ≡ 10 → ⊥) where
  digits_front : (j : ℕ) → j < length (take k bytes) → IsBinaryDigit (get_or (take k bytes) j 0)
  digits_front j below =
      let front : j < k = omega (arith, length-take k bytes) in rw (get_or-take k bytes j 0 front) (digits j front)

  line_limits : IsWithinLimits 1 1 k
  line_limits = record { rows = omega arith; cols = few; words = omega arith }

  one_line : Begins (IsBody 1 k) (take k bytes)
  unfolding IsBody
  one_line =
      let (rest, line) = begins_line k (take k bytes) (omega (arith, length-take k bytes)) digits_front in
      (rest, (take k bytes ++ rest, [], line, refl, sym (append-nil _)))

  no_more : (m n : ℕ) → k < length bytes → Begins (IsBody m n) (take (k + 1) bytes) → ⊥
  no_more m n inside goes =
      let found = row_of_front m n bytes (k + 1) (omega arith) (omega arith) goes in
      elim (cases_order n k) [
        | inl same ↦ no_end inside (ap (λ j. get_or bytes j 0) (sym same) ∙ found.1 (omega arith))
        | inr (inl less) ↦ omega (arith, digits n less, found.1 (omega arith))
        | inr (inr more) ↦ no_digit inside (found.0 k (omega arith) more)
      ]

  no_whole : (m n : ℕ) → IsBody m n bytes → ⊥
  no_whole m n body =
      let found = first_row m n bytes body some in
      elim (cases_lt n k) [
        | inl less ↦ omega (arith, digits n less, found.ended)
        | inr more ↦
            no_more m n (omega (arith, found.inside))
            (Begins-take (IsBody m n) (k + 1) (length bytes) bytes (omega (arith, found.inside)) ([], subst (IsBody m n) (sym (whole_front bytes)) body))
      ]

  pub bad_first_line : IsBadBare bytes k
  bad_first_line = record {
    none = λ whole. let (m, n, limits, body) = limits_body bytes whole in no_whole m n body;
    longest = IsLongest-from_next IsBareInLimits bytes k within
        (one_line.0, bare_in_limits 1 k _ (λ none. absurd (omega arith)) line_limits one_line.1)
        (λ inside goes. let (m, n, limits, body) = limits_body _ goes.1 in no_more m n inside (goes.0, body));
    wrong = λ inside goes. let (m, n, held, body) = file_body _ goes.1 in no_more m n inside (goes.0, body);
  }

-- more digits than there may be columns
module _ (bytes : List ℕ) (most : ℕ) (is : most ≡ 65536) (inside : most < length bytes)
    (digits : (j : ℕ) → j < most + 1 → IsBinaryDigit (get_or bytes j 0)) where
  front_digits : (k : ℕ) → k ≤ most + 1 → (j : ℕ) → j < length (take k bytes) → IsBinaryDigit (get_or (take k bytes) j 0)
  front_digits k few j below =
      let front : j < k = omega (arith, length-take k bytes) in rw (get_or-take k bytes j 0 front) (digits j (omega arith))

  wide_line : (k : ℕ) → k ≤ most + 1 → Begins (IsBody 1 k) (take k bytes)
  unfolding IsBody
  wide_line k few =
      let (rest, line) = begins_line k (take k bytes) (omega (arith, length-take k bytes)) (front_digits k few) in
      (rest, (take k bytes ++ rest, [], line, refl, sym (append-nil _)))

  most_limits : IsWithinLimits 1 1 most
  most_limits = record { rows = omega arith; cols = omega arith; words = omega arith }

  no_wider : (m n k : ℕ) → most < k → k ≤ length bytes → IsWithinLimits 1 m n → Begins (IsBody m n) (take k bytes) → ⊥
  no_wider m n k more within limits goes =
      let found = row_of_front m n bytes k (omega arith) within goes in
      let narrow : n ≤ most = omega (arith, limits.cols) in
      omega (arith, digits n (omega arith), found.1 (omega arith))

  pub large_first_line : IsLargeBare bytes most
  large_first_line = record {
    inside = inside;
    longest = IsLongest-from_next IsBareInLimits bytes most (omega arith)
        ((wide_line most (omega arith)).0, bare_in_limits 1 most _ (λ none. absurd (omega arith)) most_limits (wide_line most (omega arith)).1)
        (λ before goes.
        let (m, n, limits, body) = limits_body _ goes.1 in no_wider m n (most + 1) (omega arith) (omega arith) limits (goes.0, body));
    allowed = ((wide_line (most + 1) (omega arith)).0, bare_file 1 (most + 1) _ (λ none. absurd (omega arith)) (wide_line (most + 1) (omega arith)).1);
  }

-- behind a first line that has ended, lines of m rows
module _ (bytes : List ℕ) (m n : ℕ) (first : HasLine bytes n) (some : 0 < m) (limits : IsWithinLimits 1 m n) where
  -- front of the lines
  whole_line : Begins (IsBody 1 n) (take (n + 1) bytes)
  unfolding IsBody
  whole_line =
      let read = line_read n bytes first.inside first.digits first.ended in
      let line : IsLine n (take (n + 1) bytes) = (entries_of (take n bytes), read.0, read.1) in
      ([], (take (n + 1) bytes, [], line, refl, refl))

  -- bytes go wrong in the lines
  module _ (place : ℕ) (begun : (m - 1) * (n + 1) < length bytes) (found : GoesWrong (IsBody m n) bytes place) where
    behind : n < place
    behind =
        elim (cases_lt n place) [
          | inl more ↦ more
          | inr less ↦
              absurd (found.longest.longest (n + 1) (omega arith) (omega (arith, first.inside)) (begins_more 1 m n _ (omega arith) whole_line))
        ]

    no_further : (j k : ℕ) → place < k → k ≤ length bytes → Begins (IsBody j n) (take k bytes) → ⊥
    no_further j k more within goes =
        elim (cases_lt m j) [
          | inl longer ↦
              let all : m + (j - m) ≡ j = omega arith in
              let (a, b, front, rest, e) = body_parted m (j - m) n (take k bytes ++ goes.0) (subst (λ i. IsBody i n (take k bytes ++ goes.0)) (sym all) goes.1) in
              elim (cases_lt k (length a)) [
                | inl short ↦
                    let split = shorter_front (take k bytes) goes.0 a b e (omega (arith, length-take k bytes)) in
                    found.longest.longest k more within (split.0, subst (IsBody m n) split.1 front)
                | inr long ↦
                    let split = shorter_front a b (take k bytes) goes.0 (sym e) (omega (arith, length-take k bytes)) in
                    let whole : bytes ≡ a ++ (split.0 ++ drop k bytes) =
                    sym (take-append-drop k bytes) ∙ ap (λ w. w ++ drop k bytes) split.1 ∙ append_assoc a split.0 (drop k bytes) in
                    no_front (IsBody m n) (IsPrefixFree-body m n) a (split.0 ++ drop k bytes) place
                    (subst (λ w. GoesWrong (IsBody m n) w place) whole found) front
              ]
          | inr fewer ↦ found.longest.longest k more within (begins_more j m n _ fewer goes)
        ]

    no_file : (j i k : ℕ) → place < k → k ≤ length bytes → Begins (IsBody j i) (take k bytes) → ⊥
    no_file j i k more within goes =
        let same = same_width j i k bytes n first (omega (arith, behind)) within goes in
        no_further j k more within (goes.0, subst (λ c. IsBody j c (take k bytes ++ goes.0)) same goes.1)

    no_body : (j : ℕ) → IsBody j n bytes → ⊥
    no_body j body =
        elim (cases_order j m) [
          | inl same ↦ none_wrong (IsBody m n) bytes place found (subst (λ i. IsBody i n bytes) same body)
          | inr (inl fewer) ↦
              let most : j * (n + 1) ≤ (m - 1) * (n + 1) = mul-le-mul_right (n + 1) (omega arith) in
              omega (arith, length-body j n bytes body, most)
          | inr (inr more) ↦
              let all : m + (j - m) ≡ j = omega arith in
              let (a, b, front, rest, e) = body_parted m (j - m) n bytes (subst (λ i. IsBody i n bytes) (sym all) body) in
              no_front (IsBody m n) (IsPrefixFree-body m n) a b place (subst (λ w. GoesWrong (IsBody m n) w place) e found) front
        ]

    no_limits : IsBareInLimits bytes → ⊥
    no_limits whole =
        let (j, i, within, body) = limits_body bytes whole in
        let same = same_width j i (length bytes) bytes n first first.inside (omega arith) ([], subst (IsBody j i) (sym (whole_front bytes)) body) in
        no_body j (subst (λ c. IsBody j c bytes) same body)

    pub bad_line : IsBadBare bytes place
    bad_line = record {
      none = no_limits;
      longest = IsLongest-from_next IsBareInLimits bytes place found.longest.within
          (found.longest.begins.0, bare_in_limits m n _ (λ none. absurd (omega arith)) limits found.longest.begins.1)
          (λ inside goes.
          let (j, i, within, body) = limits_body _ goes.1 in no_file j i (place + 1) (omega arith) (omega arith) (goes.0, body));
      wrong = λ inside goes. let (j, i, held, body) = file_body _ goes.1 in no_file j i (place + 1) (omega arith) (omega arith) (goes.0, body);
    }

  -- the lines of the most rows within the limits, and bytes behind them
  module _ (place : ℕ) (lines : IsBody m n (take place bytes)) (inside : place < length bytes) where
    ends : m * (n + 1) ≡ place
    ends = omega (arith, length-body m n _ lines, length-take place bytes)

    far : n < place
    far = let least : 1 * (n + 1) ≤ m * (n + 1) = mul-le-mul_right (n + 1) (omega arith) in omega (arith, ends, least)

    -- more bytes are lines of more rows
    more_rows : (j i k : ℕ) → place < k → k ≤ length bytes → Begins (IsBody j i) (take k bytes) → (i ≡ n) × (m < j)
    more_rows j i k more within goes =
        let same = same_width j i k bytes n first (omega (arith, far)) within goes in
        let body : IsBody j n (take k bytes ++ goes.0) = subst (λ c. IsBody j c (take k bytes ++ goes.0)) same goes.1 in (
          same,
          elim (cases_lt m j) [
            | inl longer ↦ longer
            | inr fewer ↦
                let most : j * (n + 1) ≤ m * (n + 1) = mul-le-mul_right (n + 1) fewer in
                absurd (omega (arith, most, ends, length-body j n _ body, length-append (take k bytes) goes.0, length-take k bytes))
          ],
        )

    small : IsBareInLimits (take place bytes)
    small = bare_in_limits m n _ (λ none. absurd (omega arith)) limits lines

    module _ (most : IsWithinLimits 1 (m + 1) n → ⊥) where
      no_more_rows : (j i k : ℕ) → place < k → k ≤ length bytes → IsWithinLimits 1 j i → Begins (IsBody j i) (take k bytes) → ⊥
      no_more_rows j i k more within wide goes =
          let (same, rows) = more_rows j i k more within goes in
          let narrow : IsWithinLimits 1 j n = subst (IsWithinLimits 1 j) same wide in
          let fewer : (m + 1) * words_per_row (n * 1) ≤ j * words_per_row (n * 1) = mul-le-mul_right (words_per_row (n * 1)) (omega arith) in
          most (record { rows = omega (arith, narrow.rows); cols = narrow.cols; words = omega (arith, fewer, narrow.words) })

      longest : IsLongest IsBareInLimits bytes place
      longest =
          IsLongest-from_next IsBareInLimits bytes place (omega arith) ([], subst IsBareInLimits (sym (append-nil _)) small)
          (λ before goes.
          let (j, i, wide, body) = limits_body _ goes.1 in no_more_rows j i (place + 1) (omega arith) (omega arith) wide (goes.0, body))

      -- the byte behind them begins a row
      pub large_rows : Begins (IsLine n) (get_or bytes place 0 ∷ []) → IsLargeBare bytes place
      unfolding IsBody
      large_rows (rest, line) = record {
        inside = inside;
        longest = longest;
        allowed =
            let next = get_or bytes place 0 ∷ rest in
            let one : IsBody 1 n next = (next, [], line, refl, sym (append-nil _)) in
            let joined : IsBody (m + 1) n (take place bytes ++ next) = body_joined m 1 n _ next lines one in
            let whole : take place bytes ++ next ≡ take (place + 1) bytes ++ rest =
            sym (ap (λ w. w ++ rest) (take_more bytes place 0 inside) ∙ append_assoc (take place bytes) (get_or bytes place 0 ∷ []) rest) in
            (rest, bare_file (m + 1) n _ (λ none. absurd (omega arith)) (subst (IsBody (m + 1) n) whole joined));
      }

      -- a row begins with the byte behind them
      row_begins : (j : ℕ) → Begins (IsBody j n) (take (place + 1) bytes) → m < j → Begins (IsLine n) (get_or bytes place 0 ∷ [])
      unfolding IsBody
      row_begins j goes rows =
          let all : m + suc (j - m - 1) ≡ j = omega arith in
          let whole = take (place + 1) bytes ++ goes.0 in
          let (a, b, front, behind, e) = body_parted m (suc (j - m - 1)) n whole (subst (λ i. IsBody i n whole) (sym all) goes.1) in
          let (l, b', line, others, f) = behind in
          let here : length a + 0 ≡ place = omega (arith, length-body m n a front, ends) in
          let byte : get_or bytes place 0 ≡ get_or l 0 0 =
          sym (front_byte bytes goes.0 (place + 1) place (omega arith) (omega arith))
          ∙ ap (λ k. get_or whole k 0) (sym here) ∙ ap (λ w. get_or w (length a + 0) 0) e
          ∙ get_or-append-add a b 0 0 ∙ ap (λ w. get_or w 0 0) f
          ∙ get_or_append_left l b' 0 0 (omega (arith, length-line n l line)) in
          let split : l ≡ get_or bytes place 0 ∷ drop (0 + 1) l =
          drop_more l 0 0 (omega (arith, length-line n l line)) ∙ ap (λ x. x ∷ drop (0 + 1) l) (sym byte) in
          (drop (0 + 1) l, subst (IsLine n) split line)

      -- it begins none
      pub bad_rows : (Begins (IsLine n) (get_or bytes place 0 ∷ []) → ⊥) → IsBadBare bytes place
      unfolding IsBody
      bad_rows none = record {
        none = λ whole.
            let (j, i, wide, body) = limits_body bytes whole in
            no_more_rows j i (length bytes) inside (omega arith) wide ([], subst (IsBody j i) (sym (whole_front bytes)) body);
        longest = longest;
        wrong = λ before goes.
            let (j, i, held, body) = file_body _ goes.1 in
            let (same, rows) = more_rows j i (place + 1) (omega arith) (omega arith) (goes.0, body) in
            none (row_begins j (goes.0, subst (λ c. IsBody j c (take (place + 1) bytes ++ goes.0)) same body) rows);
      }

-- a bare file within the limits has at most 2^29 bytes
pub length-bare-le : (w : List ℕ) → IsBareInLimits w → length w ≤ 2 ^ 29
length-bare-le w whole =
    let (m, n, limits, body) = limits_body w whole in
    let words = words_per_row (n * 1) in
    let wide : n ≤ 64 * words = omega arith in
    let most : m * n ≤ m * (64 * words) = mul-le-mul_left m wide in
    omega (arith, length-body m n w body, most, limits.words, limits.rows)

-- bytes that are refused, whatever follows where they are long
pub refused_bad : (bytes : List ℕ) (place : ℕ) → IsBadBare bytes place → IsRefusalIn Bare bytes (BadAt place)
refused_bad bytes place bad more (inl none) =
    subst (λ w. IsBadBare w place) (sym (ap (λ w. bytes ++ w) none ∙ append-nil bytes)) bad
refused_bad bytes place bad more (inr long) =
    let begun = bad.longest.begins in
    let short : place ≤ 2 ^ 29 =
    omega (arith, length-bare-le _ begun.1, length-append (take place bytes) begun.0, length-take place bytes, bad.longest.within) in
    let front : take (place + 1) (bytes ++ more) ≡ take (place + 1) bytes = take-append-le (place + 1) bytes more (omega arith) in
    record {
      none = λ whole. omega (arith, length-bare-le _ whole, length-append bytes more);
      longest = IsLongest-append IsBareInLimits bytes more place (omega arith) bad.longest;
      wrong = λ inside goes. bad.wrong (omega arith) (subst (Begins IsBareFile) front goes);
    }

pub refused_large : (bytes : List ℕ) (place : ℕ) → IsLargeBare bytes place → IsRefusalIn Bare bytes PastLimit
refused_large bytes place large more either = (
  place,
  record {
    inside = omega (arith, large.inside, length-append bytes more);
    longest = IsLongest-append IsBareInLimits bytes more place large.inside large.longest;
    allowed = subst (Begins IsBareFile) (sym (take-append-le (place + 1) bytes more (omega (arith, large.inside)))) large.allowed;
  },
)

-- no bytes are both read and refused
pub read_or_refused : (bytes : List ℕ) (M : Matrix) (fault : Fault) → ReadsBare bytes M → RefusalBare bytes fault → ⊥
read_or_refused bytes M (BadAt place) reads bad = bad.none (M, reads)
read_or_refused bytes M PastLimit reads (place, large) =
    large.longest.longest (length bytes) large.inside (omega arith) ([], subst IsBareInLimits (sym (whole_front bytes)) (M, reads))

-- rows of one width and one length together are as many
same_rows : (m k n : ℕ) → m * (n + 1) ≡ k * (n + 1) → m ≡ k
same_rows m k n e =
    elim (cases_order m k) [
      | inl same ↦ same
      | inr (inl less) ↦
          let more : (m + 1) * (n + 1) ≤ k * (n + 1) = mul-le-mul_right (n + 1) (omega arith) in absurd (omega (arith, more))
      | inr (inr less) ↦
          let more : (k + 1) * (n + 1) ≤ m * (n + 1) = mul-le-mul_right (n + 1) (omega arith) in absurd (omega (arith, more))
    ]

-- a bare text tells the shape of its matrix
pub same_shape : (bytes : List ℕ) (A B : Matrix) → ReadsBare bytes A → ReadsBare bytes B → (A.rows ≡ B.rows) × (A.cols ≡ B.cols)
same_shape bytes A B first second =
    let a : IsBody A.rows A.cols bytes =
    body_of_bare A.rows A.cols bytes (A, first.accepted.matrix, first.accepted.over_gf2, refl, refl, first.spelled) in
    let b : IsBody B.rows B.cols bytes =
    body_of_bare B.rows B.cols bytes (B, second.accepted.matrix, second.accepted.over_gf2, refl, refl, second.spelled) in
    elim (cases_lt 0 (length bytes)) [
      | inl some ↦
          let line = first_row B.rows B.cols bytes b some in
          let wide : A.cols ≡ B.cols =
          same_width A.rows A.cols (length bytes) bytes B.cols line line.inside (omega arith) ([], subst (IsBody A.rows A.cols) (sym (whole_front bytes)) a) in
          let long : A.rows * (B.cols + 1) ≡ B.rows * (B.cols + 1) =
          ap (λ n. A.rows * (n + 1)) (sym wide) ∙ sym (length-body A.rows A.cols bytes a) ∙ length-body B.rows B.cols bytes b in
          (same_rows A.rows B.rows B.cols long, wide)
      | inr none ↦
          let empty : length bytes ≡ 0 * (A.cols + 1) = omega arith in
          let empty' : length bytes ≡ 0 * (B.cols + 1) = omega arith in
          let rows : A.rows ≡ 0 = same_rows A.rows 0 A.cols (sym (length-body A.rows A.cols bytes a) ∙ empty) in
          let rows' : B.rows ≡ 0 = same_rows B.rows 0 B.cols (sym (length-body B.rows B.cols bytes b) ∙ empty') in
          (rows ∙ sym rows', first.held rows ∙ sym (second.held rows'))
    ]

-- the empty file
pub no_lines : (M : Matrix) → M ≡ zero_matrix gf2 0 0 → ReadsBare [] M
unfolding table
no_lines M is =
    subst (ReadsBare []) (sym is) (record {
      accepted = record {
        matrix = IsMatrix-matrix_of gf2 0 0 (λ i j. 0) gf2_field (λ i j in_rows in_cols. absurd (omega (arith, in_rows)));
        over_gf2 = refl;
        limits = record { rows = omega arith; cols = omega arith; words = omega arith };
      };
      held = λ none. refl;
      spelled = refl;
    })

-- the lines that were read, as a body
pub body_read : (bytes : List ℕ) (m n end : ℕ) (old A : Matrix) → old ≡ zero_matrix gf2 m n → ReadsLines bytes old A end
    → IsBody m n (take end bytes)
body_read bytes m n end old A is read =
    body_of_bare m n (take end bytes) (
      A,
      read.matrix,
      read.over_gf2,
      read.rows ∙ ap (λ (B : Matrix). B.rows) is,
      read.cols ∙ ap (λ (B : Matrix). B.cols) is,
      read.spelled,
    )

-- lines that go wrong
pub refused_line : (bytes : List ℕ) (m n place : ℕ) (old : Matrix) → old ≡ zero_matrix gf2 m n → HasLine bytes n
    → AreRowsToRead (length bytes) n m → GoesWrong (IsBareOf old.rows old.cols) bytes place → IsRefusalIn Bare bytes (BadAt place)
refused_line bytes m n place old is first rows found =
    let wrong : GoesWrong (IsBareOf m n) bytes place =
    subst₂ (λ j k. GoesWrong (IsBareOf j k) bytes place) (ap (λ (B : Matrix). B.rows) is) (ap (λ (B : Matrix). B.cols) is) found in
    refused_bad bytes place (bad_line bytes m n first rows.some rows.limits place rows.begun
    (GoesWrong-same (IsBareOf m n) (IsBody m n) (body_of_bare m n) (bare_of_body m n) bytes place wrong))

-- bytes behind the lines that were read, which are the most
module _ (bytes : List ℕ) (m n end : ℕ) (old A : Matrix) (is : old ≡ zero_matrix gf2 m n) (first : HasLine bytes n)
    (rows : AreRowsToRead (length bytes) n m) (read : ReadsLines bytes old A end) (inside : end < length bytes) where
  lines : IsBody m n (take end bytes)
  lines = body_read bytes m n end old A is read

  most : IsWithinLimits 1 (m + 1) n → ⊥
  most more =
      elim rows.all [
        | inl all ↦ omega (arith, length-body m n _ lines, length-take end bytes)
        | inr past ↦ past more
      ]

  pub refused_more : Begins (IsLine n) (get_or bytes end 0 ∷ []) → IsRefusalIn Bare bytes PastLimit
  refused_more begins = refused_large bytes end (large_rows bytes m n first rows.some rows.limits end lines inside most begins)

  pub refused_next : (Begins (IsLine n) (get_or bytes end 0 ∷ []) → ⊥) → IsRefusalIn Bare bytes (BadAt end)
  refused_next none = refused_bad bytes end (bad_rows bytes m n first rows.some rows.limits end lines inside most none)

-- a digit that is there, and one that isn't
pub digit_there : (bytes : List ℕ) (place : ℕ) (o : Option Bool) → is_some o ≡ true
    → MatchOption o (LacksDigit bytes place) (HasDigit bytes place) → (place < length bytes) × IsBinaryDigit (get_or bytes place 0)
digit_there bytes place (Some bit) is has = (has.inside, HasDigit-binary bytes place bit has)
digit_there bytes place None is lacks = absurd (cc (is))

pub digit_missing : (bytes : List ℕ) (place : ℕ) (o : Option Bool) → is_some o ≡ false
    → MatchOption o (LacksDigit bytes place) (HasDigit bytes place) → LacksDigit bytes place
digit_missing bytes place (Some bit) is has = absurd (cc (is))
digit_missing bytes place None is lacks = lacks

-- the byte that begins a row
first_digit : (byte : ℕ) → IsBinaryDigit byte → (j : ℕ) → j < 1 → IsBinaryDigit (get_or (byte ∷ []) j 0)
first_digit byte digit zero below = digit
first_digit byte digit (suc j) below = absurd (omega arith)

pub begins_digit : (n byte : ℕ) → 0 < n → IsBinaryDigit byte → Begins (IsLine n) (byte ∷ [])
begins_digit n byte some digit = begins_line n (byte ∷ []) (omega arith) (λ j below. first_digit byte digit j below)

pub begins_end : (n byte : ℕ) → n ≡ 0 → byte ≡ 10 → Begins (IsLine n) (byte ∷ [])
begins_end n byte none end =
    ([], ([], record { width = sym none; elements = λ j below. absurd (omega arith) }, ap (λ b. b ∷ []) end))

pub begins_with : (n byte : ℕ) → Begins (IsLine n) (byte ∷ []) → (0 < n → IsBinaryDigit byte) × (n ≡ 0 → byte ≡ 10)
begins_with n byte (rest, line) = (
  λ some. digit_in_line n (byte ∷ rest) 0 line some,
  λ none. end_of_line 0 (byte ∷ rest) (subst (λ k. IsLine k (byte ∷ rest)) none line),
)

-- So many rows of a width are begun by len bytes.
pub record AreBegun (len width begun : ℕ) : Type 0 where
  pub some : 0 < begun
  pub less : (begun - 1) * width < len
  pub all : len ≤ begun * width

-- a quotient, rounded up
rounded_up : (len width q r : ℕ) → 0 < len → width * q + r ≡ len → r < width → AreBegun len width (q + min 1 r)
rounded_up len width q zero some whole rest = elim q as (λ q. width * q + zero ≡ len → AreBegun len width (q + 0)) [
  | zero ↦ λ e. absurd (omega arith)
  | suc p ↦ λ e.
      let one : suc p + 0 - 1 ≡ p = omega arith in
      let less : (suc p + 0 - 1) * width ≡ p * width = ap (λ x. x * width) one in
      record { some = omega arith; less = omega arith; all = omega arith }
] whole
rounded_up len width q (suc r) some whole rest =
    let one : q + min 1 (suc r) ≡ q + 1 = omega arith in
    let back : q + 1 - 1 ≡ q = omega arith in
    let less : (q + 1 - 1) * width ≡ q * width = ap (λ x. x * width) back in
    subst (AreBegun len width) (sym one) (record { some = omega arith; less = omega arith; all = omega arith })

-- the rows that are to be read
fewer_rows : (len n begun most : ℕ) → AreBegun len (n + 1) begun → 0 < most → IsWithinLimits 1 most n → (IsWithinLimits 1 (most + 1) n → ⊥)
    → AreRowsToRead len n (min begun most)
fewer_rows len n begun most are above limits past =
    elim (cases_lt most begun) [
      | inl more ↦
          let is : min begun most ≡ most = omega arith in
          let less : (most - 1) * (n + 1) ≤ (begun - 1) * (n + 1) = mul-le-mul_right (n + 1) (omega arith) in
          subst (AreRowsToRead len n) (sym is) (record { some = above; limits = limits; begun = omega (arith, less, are.less); all = inr past })
      | inr fewer ↦
          let is : min begun most ≡ begun = omega arith in
          let words : begun * words_per_row (n * 1) ≤ most * words_per_row (n * 1) = mul-le-mul_right (words_per_row (n * 1)) fewer in
          subst (AreRowsToRead len n) (sym is) (record {
            some = are.some;
            limits = record { rows = omega (arith, limits.rows); cols = limits.cols; words = omega (arith, words, limits.words) };
            begun = are.less;
            all = inl are.all;
          })
    ]

pub rows_to_read : (len n most : ℕ) → 0 < len → 0 < most → IsWithinLimits 1 most n → (IsWithinLimits 1 (most + 1) n → ⊥)
    → AreRowsToRead len n (min (len / (n + 1) + min 1 (len % (n + 1))) most)
rows_to_read len n most some above limits past =
    fewer_rows len n (len / (n + 1) + min 1 (len % (n + 1))) most
    (rounded_up len (n + 1) (len / (n + 1)) (len % (n + 1)) some (omega arith) (omega arith)) above limits past
