-- Steps of a bare text: the first line goes on, ends, or goes wrong; rows are added, go wrong, or are the most.
use Rattle.std.proofs.Common.{◌≡◌, ℕ, ◌+◌, ◌-◌, ◌*◌, ◌<◌, ◌≤◌, ◌⊎◌, false, List, [], ◌∷◌, ◌++◌, length, get_or, take, drop, flat_map, refl, sym, ◌∙◌, ap, ap₂, subst, subst₂, arith, inl, inr, append_assoc, append-nil, length-append, length-drop, take-append-drop, take-add, take_all, Result, IfErr}
use Rattle.std.proofs.lemmas.List.{same_lists, get_or_default, get_or-map, get_or_append_left, get_or-append_right, length-take-le, get_or-take, get_or-drop, take_at, take_more}
use Rattle.std.proofs.lemmas.Result.{MatchResult-weaker}
use Rattle.std.proofs.lemmas.Bool.{cases_lt}
use Rattle.std.proofs.Math.Nat.{mul-le-mul_right}
use Rattle.std.specs.Fmt.{digit_glyph}
use Rattle.m4_model.specs.Field.{Field, gf2}
use Rattle.m4_model.specs.Matrix.{Matrix, IsMatrix, HasShape, at, zero_matrix}
use Rattle.m4_model.specs.Shapes.{above, cut}
use Rattle.m4_model.specs.Text.{IsWithinLimits, words_per_row, Begins, line as plain_line}
use Rattle.m4_model.specs.Headed.{Bits, line}
use Rattle.m4_model.specs.Bare.{ReadsBare, IsBadBare, IsLargeBare}
use Rattle.m4_model.proofs.FieldLemmas.{gf2_field}
use Rattle.m4_model.proofs.ShapeLemmas.{HasShape-zero_matrix}
use Rattle.m4_model.proofs.CutLemmas.{at-cut, HasShape-cut}
use Rattle.m4_model.proofs.BlockLemmas.{at-above_top, HasShape-above}
use Rattle.m4_model.specs.declared.form.Form.TheVariants.{Bare}
use Rattle.m4_text.specs.Place.{HasLine, IsLine, IsBinaryDigit}
use Rattle.m4_text.proofs.Lines.{digit_in_line, length-line}
use Rattle.m4_text.proofs.Bodies.{IsBody, AreRows-matrix, AreRows-take}
use Rattle.m4_text.proofs.Bares.{bad_first_line, large_first_line, bad_line, large_rows, bad_rows}
use Rattle.m4_etext.specs.Pieces.{BodySoFar, Stops, IsDigitAt, glyphs}
use Rattle.m4_etext.specs.FormFaults.{IsFaultOfAllIn}
use Rattle.m4_etext.specs.declared.fault.TextFault.{TextFault}
use Rattle.m4_etext.specs.declared.fault.TextFault.TheVariants.{Bad, Limit}
use Rattle.m4_etext.specs.BareRows.{KeptRows, HasRoomForLine, StandsForFirst, StandsForRows}
use Rattle.m4_etext.proofs.Pieces.{length-so_far, length-glyphs, lines_begin, line_more, Stops-append}
use Rattle.m4_etext.proofs.BareLines.{digit_stands, same_lines, wrong_lines, all_lines, digit_there, HasLine-append}

-- fewer rows are within the limits
pub fewer_within : (m k n : ℕ) → m ≤ k → IsWithinLimits 1 k n → IsWithinLimits 1 m n
fewer_within m k n few limits =
    let words : m * words_per_row (n * 1) ≤ k * words_per_row (n * 1) = mul-le-mul_right (words_per_row (n * 1)) few in
    let rows = limits.rows in
    let most = limits.words in
    record { rows = omega (arith, rows, few); cols = limits.cols; words = omega (arith, words, most) }

-- matrices of one width with the same entries in their first rows
pub same_front : (A N : Matrix) (r : ℕ) → IsMatrix A → IsMatrix N → r ≤ A.rows → r ≤ N.rows → N.cols ≡ A.cols
    → ((i j : ℕ) → i < r → j < A.cols → at N i j ≡ at A i j) → take r N.entries ≡ take r A.entries
same_front A N r a b in_a in_n wide same =
    let many_a : length (take r A.entries) ≡ r = length-take-le r A.entries (let h = a.height in omega (arith, h, in_a)) in
    let many_n : length (take r N.entries) ≡ r = length-take-le r N.entries (let h = b.height in omega (arith, h, in_n)) in
    same_lists (take r N.entries) (take r A.entries) (many_n ∙ sym many_a) (λ i d below.
    let i_in : i < r = omega (arith, below, many_n) in
    let wide_n : length (get_or N.entries i []) ≡ N.cols = b.width i (omega (arith, i_in, in_n)) in
    let wide_a : length (get_or A.entries i []) ≡ A.cols = a.width i (omega (arith, i_in, in_a)) in
    get_or_default (take r N.entries) i d [] below
    ∙ get_or-take r N.entries i [] i_in
    ∙ same_lists (get_or N.entries i []) (get_or A.entries i []) (wide_n ∙ wide ∙ sym wide_a) (λ j e within.
    let j_in : j < A.cols = omega (arith, within, wide_n, wide) in
    get_or_default (get_or N.entries i []) j e 0 within ∙ same i j i_in j_in ∙ get_or_default (get_or A.entries i []) j 0 e (omega (arith, j_in, wide_a)))
    ∙ sym (get_or-take r A.entries i [] i_in) ∙ get_or_default (take r A.entries) i [] d (omega (arith, i_in, many_a)))

-- the entries of the first rows and columns
at-corner : (A : Matrix) (r n i j : ℕ) → i < r → j < n → at (cut A 0 0 r n) i j ≡ at A i j
at-corner A r n i j below within =
    let row : 0 + i ≡ i = omega arith in
    let col : 0 + j ≡ j = omega arith in
    at-cut A 0 0 r n r n (omega arith) (omega arith) i j below within ∙ ap₂ (at A) row col

module _ (k : KeptRows) (bytes : List ℕ) (stands : StandsForRows k bytes) where
  pub rows_long : length bytes ≡ k.row_next * (k.matrix.cols + 1) + k.place_next
  rows_long = length-so_far Bits k.matrix k.row_next k.place_next bytes stands.read

  own_shape : HasShape gf2 k.matrix.rows k.matrix.cols k.matrix
  own_shape = record { is_matrix = stands.read.matrix; over = stands.read.field; rows = refl; cols = refl }

  -- the first row is there
  some_row : 0 < k.row_next
  some_row = elim (cases_lt 0 k.row_next) [
    | inl some ↦ some
    | inr none ↦
        let zero_rows : k.row_next ≡ 0 = omega arith in
        let e : k.row_next * (k.matrix.cols + 1) ≡ 0 = ap (λ r. r * (k.matrix.cols + 1)) zero_rows ∙ (let z : 0 * (k.matrix.cols + 1) ≡ 0 = omega arith in z) in
        let i = stands.read.in_line in
        let f = stands.first.inside in
        let l = rows_long in
        absurd (omega (arith, e, i, f, l))
  ]

  -- a row goes wrong, or isn't whole
  pub bad_row : (rest : List ℕ) (place : ℕ) → k.row_next < k.matrix.rows → Stops Bits k.matrix.rows k.matrix.cols k.row_next k.place_next rest → 0 < length rest + k.place_next
      → place ≡ k.row_next * (k.matrix.cols + 1) + k.place_next → IsBadBare (bytes ++ rest) place
  bad_row rest place below stops some here =
      let r = k.row_next in
      let n = k.matrix.cols in
      let back : r + 1 - 1 ≡ r = omega arith in
      let less : (r + 1 - 1) * (n + 1) ≡ r * (n + 1) = ap (λ m. m * (n + 1)) back in
      let l = rows_long in
      subst (IsBadBare (bytes ++ rest)) (sym here)
      (bad_line (bytes ++ rest) (r + 1) n (HasLine-append bytes rest n stands.first) (omega arith) (fewer_within (r + 1) k.matrix.rows n (omega (arith, below)) stands.limits)
      (r * (n + 1) + k.place_next) (omega (arith, less, l, length-append bytes rest, some))
      (wrong_lines k.matrix r k.place_next bytes stands.read rest below stops))

  pub bad_row_of_all : (rest more : List ℕ) (place : ℕ) → k.row_next < k.matrix.rows → 0 < length rest → Stops Bits k.matrix.rows k.matrix.cols k.row_next k.place_next rest
      → place ≡ k.row_next * (k.matrix.cols + 1) + k.place_next → IsBadBare ((bytes ++ rest) ++ more) place
  bad_row_of_all rest more place below some stops here =
      subst (λ l. IsBadBare l place) (sym (append_assoc bytes rest more))
      (bad_row (rest ++ more) place below (Stops-append Bits k.matrix.rows k.matrix.cols k.row_next k.place_next rest more some stops) (omega (arith, some, length-append rest more)) here)

  -- a text that ends in a row
  pub short_row : (place : ℕ) → 0 < k.place_next → place ≡ k.row_next * (k.matrix.cols + 1) + k.place_next → IsBadBare bytes place
  short_row place some here =
      let below : k.row_next < k.matrix.rows = elim (cases_lt k.row_next k.matrix.rows) [
        | inl below ↦ below
        | inr past ↦ let i = stands.read.in_rows in let none = stands.read.last (omega (arith, past, i)) in absurd (omega (arith, none, some))
      ] in
      subst (λ l. IsBadBare l place) (append-nil bytes)
      (bad_row [] place below (record {
        more = λ all. absurd (omega (arith, all, below));
        digit = λ _ some. absurd (omega arith);
        ending = λ _ some. absurd (omega arith);
      }) (omega (arith, some)) here)

  -- bytes behind the most rows
  module _ (rest : List ℕ) (place : ℕ) (all : k.row_next ≡ k.matrix.rows) (most : IsWithinLimits 1 (k.matrix.rows + 1) k.matrix.cols → ⊥) (some : 0 < length rest)
      (here : place ≡ k.row_next * (k.matrix.cols + 1) + k.place_next) where
    ends : place ≡ length bytes
    ends = here ∙ sym rows_long

    lines : IsBody k.matrix.rows k.matrix.cols (take place (bytes ++ rest))
    lines =
        subst (IsBody k.matrix.rows k.matrix.cols) (sym (take_at bytes rest place (sym ends)))
        (all_lines k.matrix k.row_next k.place_next bytes stands.read all)

    inside : place < length (bytes ++ rest)
    inside = omega (arith, ends, length-append bytes rest, some)

    next : get_or (bytes ++ rest) place 0 ≡ get_or rest 0 0
    next =
        let z : place - place ≡ 0 = omega arith in
        get_or-append_right bytes rest place place 0 (sym ends) (omega arith) ∙ ap (λ i. get_or rest i 0) z

    rows_there : 0 < k.matrix.rows
    rows_there = let s = some_row in omega (arith, s, all)

    pub large_more : Begins (IsLine k.matrix.cols) (get_or rest 0 0 ∷ []) → IsLargeBare (bytes ++ rest) place
    large_more begins =
        large_rows (bytes ++ rest) k.matrix.rows k.matrix.cols (HasLine-append bytes rest k.matrix.cols stands.first) rows_there stands.limits place lines inside most
        (subst (λ b. Begins (IsLine k.matrix.cols) (b ∷ [])) (sym next) begins)

    pub bad_more : (Begins (IsLine k.matrix.cols) (get_or rest 0 0 ∷ []) → ⊥) → IsBadBare (bytes ++ rest) place
    bad_more none =
        bad_rows (bytes ++ rest) k.matrix.rows k.matrix.cols (HasLine-append bytes rest k.matrix.cols stands.first) rows_there stands.limits place lines inside most
        (λ begins. none (subst (λ b. Begins (IsLine k.matrix.cols) (b ∷ [])) next begins))

  -- the rows that are there, as a matrix
  pub rows_read : (M : Matrix) → k.place_next ≡ 0 → M ≡ cut k.matrix 0 0 k.row_next k.matrix.cols → ReadsBare bytes M
  rows_read M none is =
      let A = k.matrix in
      let r = k.row_next in
      let n = k.matrix.cols in
      let C = cut k.matrix 0 0 k.row_next k.matrix.cols in
      let far = stands.read in
      let c : HasShape gf2 r n C = HasShape-cut own_shape 0 0 r n r n (omega arith) (omega arith) far.in_rows (omega arith) in
      let c_rows = c.rows in
      let c_high = c.is_matrix.height in
      let some = some_row in
      let fronts : take r C.entries ≡ take r A.entries =
      same_front A C r far.matrix c.is_matrix far.in_rows (omega (arith, c_rows)) c.cols (λ i j below within. at-corner A r n i j below within) in
      subst (ReadsBare bytes) (sym is) (record {
        accepted = record {
          matrix = c.is_matrix;
          over_gf2 = c.over;
          limits = subst₂ (IsWithinLimits 1) (sym c.rows) (sym c.cols) (fewer_within r A.rows n far.in_rows stands.limits);
        };
        held = λ empty. absurd (omega (arith, empty, c_rows, some));
        spelled = far.spelled
            ∙ ap (λ t. flat_map (line Bits) (take r A.entries) ++ take t (glyphs Bits (get_or A.entries r []))) none
            ∙ append-nil (flat_map (line Bits) (take r A.entries))
            ∙ same_lines n (take r A.entries) (AreRows-take n r A.entries (AreRows-matrix A far.matrix far.field))
            ∙ ap (flat_map plain_line) (sym fronts ∙ take_all r C.entries (omega (arith, c_rows, c_high)));
      })

  -- rows more, whatever they hold
  pub rows_longer : (new : KeptRows) (more : ℕ) → more ≤ k.matrix.rows → k.row_next ≡ k.matrix.rows → IsWithinLimits 1 (k.matrix.rows + more) k.matrix.cols
      → new.matrix ≡ above k.matrix (cut k.matrix 0 0 more k.matrix.cols) → new.row_next ≡ k.row_next → new.place_next ≡ k.place_next → StandsForRows new bytes
  rows_longer new more few all limits is same_row same_place =
      let A = k.matrix in
      let n = k.matrix.cols in
      let r = k.row_next in
      let B = cut k.matrix 0 0 more k.matrix.cols in
      let far = stands.read in
      let b : HasShape gf2 more n B = HasShape-cut own_shape 0 0 more n more n (omega arith) (omega arith) few (omega arith) in
      let w : HasShape gf2 (A.rows + more) n (above A B) = HasShape-above own_shape b in
      let w_rows = w.rows in
      let fronts : take r (above A B).entries ≡ take r A.entries =
      same_front A (above A B) r far.matrix w.is_matrix far.in_rows (omega (arith, w_rows, all)) w.cols
      (λ i j below within. at-above_top own_shape b i j (omega (arith, below, all)) within) in
      let none : k.place_next ≡ 0 = far.last all in
      let made : KeptRows = record { matrix = above A B; row_next = r; place_next = k.place_next } in
      let e : made ≡ new = λ i. record { matrix = sym is i; row_next = sym same_row i; place_next = sym same_place i } in
      subst (λ (x : KeptRows). StandsForRows x bytes) e (record {
        first = subst (HasLine bytes) (sym w.cols) stands.first;
        limits = subst₂ (IsWithinLimits 1) (sym w.rows) (sym w.cols) limits;
        read = record {
          matrix = w.is_matrix;
          field = w.over;
          in_rows = omega (arith, w_rows, all);
          in_line = omega (arith, none);
          last = λ _. none;
          spelled = far.spelled
              ∙ ap₂ (λ (rows : List (List ℕ)) (l : List ℕ). flat_map (line Bits) rows ++ l) (sym fronts)
              (ap (λ t. take t (glyphs Bits (get_or A.entries r []))) none ∙ ap (λ t. take t (glyphs Bits (get_or (above A B).entries r []))) (sym none));
        };
      })

-- the digits of a first line
pub first_digits : (A : Matrix) (t : ℕ) (body : List ℕ) → A.rows ≡ 1 → BodySoFar Bits A 0 t body → (j : ℕ) → j < t → IsBinaryDigit (get_or body j 0)
first_digits A t body one far j below =
    subst (λ l. IsBinaryDigit (get_or l j 0)) (sym far.spelled) (digit_there A 0 t body far (omega (arith, one)) j below)

pub first_long : (A : Matrix) (t : ℕ) (body : List ℕ) → BodySoFar Bits A 0 t body → length body ≡ t
first_long A t body far = let l = length-so_far Bits A 0 t body far in let z : 0 * (A.cols + 1) ≡ 0 = omega arith in omega (arith, l, z)

-- the first line goes wrong, or isn't whole
pub bad_first : (A : Matrix) (t : ℕ) (body rest : List ℕ) → HasRoomForLine A → BodySoFar Bits A 0 t body → t ≤ 65536 → 0 < length (body ++ rest)
    → (0 < length rest → IsDigitAt Bits A.cols t (get_or rest 0 0) → ⊥) → (0 < length rest → get_or rest 0 0 ≡ 10 → ⊥) → IsBadBare (body ++ rest) t
bad_first A t body rest room far few some no_digit no_end =
    let long = first_long A t body far in
    let total = length-append body rest in
    let z : t - t ≡ 0 = omega arith in
    let next : get_or (body ++ rest) t 0 ≡ get_or rest 0 0 = get_or-append_right body rest t t 0 long (omega arith) ∙ ap (λ i. get_or rest i 0) z in
    bad_first_line (body ++ rest) t some (omega (arith, long, total)) few
    (λ j below. subst IsBinaryDigit (sym (get_or_append_left body rest 0 j (omega (arith, long, below)))) (first_digits A t body room.rows far j below))
    (λ inside digit. no_digit (omega (arith, inside, total, long)) (digit_stands A.cols t (get_or rest 0 0) (subst IsBinaryDigit next digit)))
    (λ inside end. no_end (omega (arith, inside, total, long)) (sym next ∙ end))

-- a whole line is its digits
whole_line : (n : ℕ) (body : List ℕ) → IsBody 1 n body → (j : ℕ) → j < n → IsBinaryDigit (get_or body j 0)
unfolding IsBody
whole_line n body (a, b, line, rest, e) j below =
    subst IsBinaryDigit (sym (ap (λ l. get_or l j 0) e ∙ get_or_append_left a b 0 j (let l = length-line n a line in omega (arith, l, below)))) (digit_in_line n a j line below)

-- more digits than there may be columns
pub large_first : (A : Matrix) (r t : ℕ) (body rest : List ℕ) → HasRoomForLine A → BodySoFar Bits A r t body → (0 < r) ⊎ (65536 < t) → IsLargeBare (body ++ rest) 65536
large_first A r t body rest room far many =
    let rows = room.rows in
    let cols = room.cols in
    let in_rows = far.in_rows in
    let in_line = far.in_line in
    let long = length-so_far Bits A r t body far in
    let digits : (j : ℕ) → j < 65537 → IsBinaryDigit (get_or body j 0) = elim (cases_lt 0 r) [
      | inl some ↦ λ j below.
          let all : r ≡ A.rows = omega (arith, some, rows, in_rows) in
          whole_line A.cols body (subst (λ m. IsBody m A.cols body) rows (all_lines A r t body far all)) j (omega (arith, below, cols))
      | inr none ↦ λ j below.
          let first : r ≡ 0 = omega (arith, none) in
          let wide : 65536 < t = elim many [ inl some ↦ absurd (omega (arith, some, none)) | inr wide ↦ wide ] in
          first_digits A t body rows (subst (λ r. BodySoFar Bits A r t body) first far) j (omega (arith, below, wide))
    ] in
    let enough : 65536 < length body = elim many [
      | inl some ↦
          let one : r ≡ 1 = omega (arith, some, rows, in_rows) in
          let e : r * (A.cols + 1) ≡ 1 * (A.cols + 1) = ap (λ m. m * (A.cols + 1)) one in
          omega (arith, long, e, cols)
      | inr wide ↦ omega (arith, long, wide)
    ] in
    large_first_line (body ++ rest) 65536 refl (omega (arith, enough, length-append body rest))
    (λ j below. subst IsBinaryDigit (sym (get_or_append_left body rest 0 j (omega (arith, below, enough)))) (digits j below))

-- the first line ends
pub line_ended : (A : Matrix) (t : ℕ) (body : List ℕ) (new : KeptRows) → HasRoomForLine A → t ≤ 65536 → BodySoFar Bits A 0 t body
    → new ≡ record { matrix = cut A 0 0 1 t; row_next = 1; place_next = 0 } → StandsForRows new (body ++ 10 ∷ [])
line_ended A t body new room few far is =
    let N = cut A 0 0 1 t in
    let cols = room.cols in
    let rows = room.rows in
    let a : HasShape gf2 1 A.cols A = record { is_matrix = far.matrix; over = far.field; rows = rows; cols = refl } in
    let c : HasShape gf2 1 t N = HasShape-cut a 0 0 1 t 1 t (omega arith) (omega arith) (omega arith) (omega (arith, few, cols)) in
    let c_rows = c.rows in
    let c_cols = c.cols in
    let wide_a : length (get_or A.entries 0 []) ≡ A.cols = far.matrix.width 0 (omega (arith, rows)) in
    let wide_n : length (get_or N.entries 0 []) ≡ t = c.is_matrix.width 0 (omega (arith, c_rows)) ∙ c_cols in
    let many_a : length (take t (glyphs Bits (get_or A.entries 0 []))) ≡ t =
    length-take-le t (glyphs Bits (get_or A.entries 0 [])) (let l = length-glyphs Bits A.cols (get_or A.entries 0 []) wide_a in omega (arith, l, few, cols)) in
    let many_n : length (take t (glyphs Bits (get_or N.entries 0 []))) ≡ t =
    length-take-le t (glyphs Bits (get_or N.entries 0 [])) (let l = length-glyphs Bits t (get_or N.entries 0 []) wide_n in omega (arith, l)) in
    let same : take t (glyphs Bits (get_or A.entries 0 [])) ≡ take t (glyphs Bits (get_or N.entries 0 [])) =
    same_lists (take t (glyphs Bits (get_or A.entries 0 []))) (take t (glyphs Bits (get_or N.entries 0 []))) (many_a ∙ sym many_n) (λ j d below.
    let inside : j < t = omega (arith, below, many_a) in
    get_or_default (take t (glyphs Bits (get_or A.entries 0 []))) j d 0 below
    ∙ get_or-take t (glyphs Bits (get_or A.entries 0 [])) j 0 inside ∙ get_or-map (digit_glyph false) (get_or A.entries 0 []) j 0 0 (omega (arith, wide_a, inside, few, cols))
    ∙ ap (digit_glyph false) (sym (at-corner A 1 t 0 j (omega arith) inside))
    ∙ sym (get_or-take t (glyphs Bits (get_or N.entries 0 [])) j 0 inside ∙ get_or-map (digit_glyph false) (get_or N.entries 0 []) j 0 0 (omega (arith, wide_n, inside)))
    ∙ get_or_default (take t (glyphs Bits (get_or N.entries 0 []))) j 0 d (omega (arith, inside, many_n))) in
    let short : BodySoFar Bits N 0 t body = record {
      matrix = c.is_matrix;
      field = c.over;
      in_rows = omega arith;
      in_line = omega (arith, c_cols);
      last = λ all. absurd (omega (arith, all, c_rows));
      spelled = far.spelled ∙ same;
    } in
    let long = first_long A t body far in
    let total = length-append body (10 ∷ []) in
    let z : t - t ≡ 0 = omega arith in
    subst (λ (x : KeptRows). StandsForRows x (body ++ 10 ∷ [])) (sym is) (record {
      first = subst (HasLine (body ++ 10 ∷ [])) (sym c_cols) (record {
        inside = omega (arith, long, total);
        digits = λ j below. subst IsBinaryDigit (sym (get_or_append_left body (10 ∷ []) 0 j (omega (arith, long, below)))) (first_digits A t body rows far j below);
        ended = get_or-append_right body (10 ∷ []) t t 0 long (omega arith) ∙ ap (λ i. get_or (10 ∷ []) i 0) z;
      });
      limits = subst₂ (IsWithinLimits 1) (sym c_rows) (sym c_cols) (record { rows = omega arith; cols = few; words = omega arith });
      read = line_more Bits N 0 t body (omega (arith, c_rows)) (sym c_cols) short;
    })

-- a piece, of which so many bytes were taken
pub parted : (bytes piece more : List ℕ) (len : ℕ) → (bytes ++ take len piece) ++ (drop len piece ++ more) ≡ (bytes ++ piece) ++ more
parted bytes piece more len =
    sym (append_assoc (bytes ++ take len piece) (drop len piece) more) ∙ ap (λ l. l ++ more) (append_assoc bytes (take len piece) (drop len piece) ∙ ap (λ l. bytes ++ l) (take-append-drop len piece))

pub parted_whole : (bytes piece : List ℕ) (len : ℕ) → (bytes ++ take len piece) ++ drop len piece ≡ bytes ++ piece
parted_whole bytes piece len = append_assoc bytes (take len piece) (drop len piece) ∙ ap (λ l. bytes ++ l) (take-append-drop len piece)

first_of_rest : (piece more : List ℕ) (len : ℕ) → len < length piece → get_or (drop len piece ++ more) 0 0 ≡ get_or piece len 0
first_of_rest piece more len inside =
    let z : len + 0 ≡ len = omega arith in
    get_or_append_left (drop len piece) more 0 0 (let l = length-drop len piece in omega (arith, l, inside)) ∙ get_or-drop len piece 0 0 ∙ ap (λ i. get_or piece i 0) z

-- What is kept of a first line.
abbrev pub kept_first : Matrix → ℕ → KeptRows
kept_first A t = record { matrix = A; row_next = 0; place_next = t }

-- a piece of a first line, of which so many bytes were taken
module _ (A N : Matrix) (t r u len : ℕ) (piece : List ℕ) (field : N.field ≡ A.field) (rows : N.rows ≡ A.rows) (cols : N.cols ≡ A.cols)
    (read : (body : List ℕ) → BodySoFar Bits A 0 t body → BodySoFar Bits N r u (body ++ take len piece)) where
  room_still : HasRoomForLine A → HasRoomForLine N
  room_still room = record { field = field ∙ room.field; rows = rows ∙ room.rows; cols = cols ∙ room.cols }

  -- too many digits
  pub first_past : (0 < r) ⊎ (65536 < u) → (bytes : List ℕ) → StandsForFirst (kept_first A t) bytes → IsFaultOfAllIn Bare (bytes ++ piece) Limit
  first_past many bytes stands more = (
    65536,
    subst (λ l. IsLargeBare l 65536) (parted bytes piece more len)
        (large_first N r u (bytes ++ take len piece) (drop len piece ++ more) (room_still stands.room) (read bytes stands.read) many),
  )

  module _ (none : r ≡ 0) (few : u ≤ 65536) where
    -- the digits so far
    first_read : (bytes : List ℕ) → StandsForFirst (kept_first A t) bytes → BodySoFar Bits N 0 u (bytes ++ take len piece)
    first_read bytes stands = subst (λ r. BodySoFar Bits N r u (bytes ++ take len piece)) none (read bytes stands.read)

    -- the whole piece
    pub first_more : length piece ≤ len → (bytes : List ℕ) → StandsForFirst (kept_first A t) bytes → StandsForFirst (kept_first N u) (bytes ++ piece)
    first_more all bytes stands =
        record { room = room_still stands.room; few = few; read = subst (λ l. BodySoFar Bits N 0 u (bytes ++ l)) (take_all len piece all) (first_read bytes stands) }

    -- a line feed
    pub first_ended : len < length piece → get_or piece len 0 ≡ 10 → (new : KeptRows) → new ≡ record { matrix = cut N 0 0 1 u; row_next = 1; place_next = 0 }
        → (bytes : List ℕ) → StandsForFirst (kept_first A t) bytes → StandsForRows new (bytes ++ take (len + 1) piece)
    first_ended inside end new is bytes stands =
        let whole : (bytes ++ take len piece) ++ 10 ∷ [] ≡ bytes ++ take (len + 1) piece =
        append_assoc bytes (take len piece) (10 ∷ []) ∙ ap (λ b. bytes ++ (take len piece ++ b ∷ [])) (sym end) ∙ ap (λ l. bytes ++ l) (sym (take_more piece len 0 inside)) in
        subst (StandsForRows new) whole (line_ended N u (bytes ++ take len piece) new (room_still stands.room) few (first_read bytes stands) is)

    -- another byte
    pub first_wrong : len < length piece → Stops Bits N.rows N.cols r u (drop len piece) → (get_or piece len 0 ≡ 10 → ⊥)
        → (bytes : List ℕ) → StandsForFirst (kept_first A t) bytes → IsFaultOfAllIn Bare (bytes ++ piece) (Bad u)
    first_wrong inside stops other bytes stands more =
        let room = room_still stands.room in
        let one = room.rows in
        let wide = room.cols in
        let rest = drop len piece ++ more in
        let some : 0 < length (drop len piece) = let l = length-drop len piece in omega (arith, l, inside) in
        let later = Stops-append Bits N.rows N.cols r u (drop len piece) more some stops in
        let long = length-append (bytes ++ take len piece) rest in
        let longer = length-append (drop len piece) more in
        subst (λ l. IsBadBare l u) (parted bytes piece more len)
        (bad_first N u (bytes ++ take len piece) rest room (first_read bytes stands) few (omega (arith, long, longer, some))
        (λ there digit. later.digit (omega (arith, none, one)) there (omega (arith, few, wide)) digit)
        (λ there end. other (sym (first_of_rest piece more len inside) ∙ end)))

-- more bytes of the rows that are there
pub rows_more : (old new : KeptRows) (bytes front : List ℕ) → StandsForRows old bytes → new.matrix.rows ≡ old.matrix.rows → new.matrix.cols ≡ old.matrix.cols
    → ((body : List ℕ) → BodySoFar Bits old.matrix old.row_next old.place_next body → BodySoFar Bits new.matrix new.row_next new.place_next (body ++ front))
    → StandsForRows new (bytes ++ front)
rows_more old new bytes front stands rows cols more = record {
  first = subst (HasLine (bytes ++ front)) (sym cols) (HasLine-append bytes front old.matrix.cols stands.first);
  limits = subst₂ (IsWithinLimits 1) (sym rows) (sym cols) stands.limits;
  read = more bytes stands.read;
}

-- a fault of the rest of a piece is one of the piece
pub rest_fails : {T : Type 0} (old now : KeptRows) (piece : List ℕ) (len : ℕ) (result : Result T TextFault)
    → ((bytes : List ℕ) → StandsForRows old bytes → StandsForRows now (bytes ++ take len piece))
    → IfErr result (λ fault. (bytes : List ℕ) → StandsForRows now bytes → IsFaultOfAllIn Bare (bytes ++ drop len piece) fault)
    → IfErr result (λ fault. (bytes : List ℕ) → StandsForRows old bytes → IsFaultOfAllIn Bare (bytes ++ piece) fault)
rest_fails old now piece len result read fails =
    MatchResult-weaker result fails (λ _ _. tt) (λ fault refused bytes stands.
    subst (λ l. IsFaultOfAllIn Bare l fault) (parted_whole bytes piece len) (refused (bytes ++ take len piece) (read bytes stands)))

-- more of the rest of a piece
pub rest_read : (old now new : KeptRows) (piece : List ℕ) (len taken : ℕ)
    → ((bytes : List ℕ) → StandsForRows old bytes → StandsForRows now (bytes ++ take len piece))
    → ((bytes : List ℕ) → StandsForRows now bytes → StandsForRows new (bytes ++ take taken (drop len piece)))
    → (bytes : List ℕ) → StandsForRows old bytes → StandsForRows new (bytes ++ take (len + taken) piece)
rest_read old now new piece len taken before after bytes stands =
    subst (StandsForRows new) (append_assoc bytes (take len piece) (take taken (drop len piece)) ∙ ap (λ l. bytes ++ l) (sym (take-add len taken piece)))
    (after (bytes ++ take len piece) (before bytes stands))

-- no digits yet
pub first_none : (A : Matrix) (F : Field) → F ≡ gf2 → A ≡ zero_matrix F 1 65537 → StandsForFirst (kept_first A 0) []
first_none A F over is =
    let same : zero_matrix gf2 1 65537 ≡ A = sym (is ∙ ap (λ F. zero_matrix F 1 65537) over) in
    let shape = HasShape-zero_matrix gf2 1 65537 gf2_field in
    subst (λ (A : Matrix). StandsForFirst (kept_first A 0) []) same (record {
      room = record { field = refl; rows = refl; cols = refl };
      few = omega arith;
      read = lines_begin Bits (zero_matrix gf2 1 65537) shape.is_matrix refl;
    })

-- a byte behind the most rows
module _ (k : KeptRows) (n byte : ℕ) (wide : n ≡ k.matrix.cols) (all : k.row_next ≡ k.matrix.rows) (most : IsWithinLimits 1 (k.matrix.rows + 1) k.matrix.cols → ⊥)
    (bytes rest : List ℕ) (stands : StandsForRows k bytes) (some : 0 < length rest) (first : get_or rest 0 0 ≡ byte) (more : List ℕ) where
  longer : 0 < length (rest ++ more)
  longer = let l = length-append rest more in omega (arith, l, some)

  here : get_or (rest ++ more) 0 0 ≡ byte
  here = get_or_append_left rest more 0 0 some ∙ first

  pub past_large : Begins (IsLine n) (byte ∷ []) → (x : ℕ) × IsLargeBare ((bytes ++ rest) ++ more) x
  past_large begins =
      let place = k.row_next * (k.matrix.cols + 1) + k.place_next in (
        place,
        subst (λ l. IsLargeBare l place) (sym (append_assoc bytes rest more))
            (large_more k bytes stands (rest ++ more) place all most longer refl (subst₂ (λ m b. Begins (IsLine m) (b ∷ [])) wide (sym here) begins)),
      )

  pub past_bad : (place : ℕ) → place ≡ k.row_next * (k.matrix.cols + 1) + k.place_next → (Begins (IsLine n) (byte ∷ []) → ⊥) → IsBadBare ((bytes ++ rest) ++ more) place
  past_bad place is none =
      subst (λ l. IsBadBare l place) (sym (append_assoc bytes rest more))
      (bad_more k bytes stands (rest ++ more) place all most longer is (λ begins. none (subst₂ (λ m b. Begins (IsLine m) (b ∷ [])) (sym wide) here begins)))
