-- Rows that are read piece by piece.
use Rattle.std.proofs.Common.{◌≡◌, ℕ, zero, suc, ◌+◌, ◌-◌, ◌*◌, ◌<◌, ◌≤◌, false, List, [], ◌∷◌, ◌++◌, length, get_or, take, drop, flat_map, refl, sym, ◌∙◌, ap, ap₂, subst, subst₂, arith, inl, inr, append_assoc, append-nil, take_all, get_or-set_same, length-append, length-drop, take-append-drop}
use Rattle.std.proofs.lemmas.List.{take_more, take-set, flat_map_more, length-map, get_or-map, get_or_append_left, get_or-append_right, take_at, length-take-le, get_or-take}
use Rattle.std.proofs.lemmas.List.Concat.{flat_map-append}
use Rattle.std.proofs.lemmas.Bool.{cases_lt}
use Rattle.std.specs.Fmt.{digit_glyph}
use Rattle.m4_model.specs.Field.{width}
use Rattle.m4_model.specs.Matrix.{Matrix, IsMatrix, row}
use Rattle.m4_model.specs.Text.{Begins, IsLongest, IsWithinLimits}
use Rattle.std.proofs.Math.Nat.{mul-le-mul_right}
use Rattle.m4_model.specs.Headed.{Spelling, AreHeaderNumbers, HasField, IsTextOf, Refusal, BadAt, field_of, header, line, row_digits, text_in}
use Rattle.m4_etext.specs.Pieces.{digits_in, IsDigitAt, IsRow, glyphs, BodySoFar, Stops, ReadsDigits, Kept, StandsForLines}
use Rattle.m4_etext.proofs.Fronts.{IsLongest-from_next}
use Rattle.m4_etext.proofs.RowDigits.{length-row_digits, may_stand}
use Rattle.m4_etext.proofs.Rows.{row_is, IsMatrix-with_row}

-- how long a line is
pub length-glyphs : (S : Spelling) (n : ℕ) (entries : List ℕ) → length entries ≡ n → length (glyphs S entries) ≡ digits_in S n
length-glyphs S n entries wide = length-map (row_digits S entries) (digit_glyph false) ∙ length-row_digits S entries ∙ ap (digits_in S) wide

length-line : (S : Spelling) (n : ℕ) (entries : List ℕ) → length entries ≡ n → length (line S entries) ≡ digits_in S n + 1
length-line S n entries wide = length-append (glyphs S entries) (10 ∷ []) ∙ ap (λ k. k + 1) (length-glyphs S n entries wide)

-- all lines have one length
length-lines : (S : Spelling) (n : ℕ) (rows : List (List ℕ)) → ((i : ℕ) → i < length rows → length (get_or rows i []) ≡ n)
    → length (flat_map (line S) rows) ≡ length rows * (digits_in S n + 1)
length-lines S n [] wide = let e : 0 * (digits_in S n + 1) ≡ 0 = omega arith in sym e
length-lines S n (row ∷ rows) wide =
    let first = length-line S n row (wide 0 (omega arith)) in
    let rest = length-lines S n rows (λ i below. wide (suc i) (omega (arith, below))) in
    let e : suc (length rows) * (digits_in S n + 1) ≡ (digits_in S n + 1) + length rows * (digits_in S n + 1) = omega arith in
    length-append (line S row) (flat_map (line S) rows) ∙ ap₂ (λ a b. a + b) first rest ∙ sym e

-- byte t of the line of row r
byte_of_lines : (S : Spelling) (n : ℕ) (rows : List (List ℕ)) → ((i : ℕ) → i < length rows → length (get_or rows i []) ≡ n)
    → (r t : ℕ) → r < length rows → t ≤ digits_in S n → get_or (flat_map (line S) rows) (r * (digits_in S n + 1) + t) 0 ≡ get_or (line S (get_or rows r [])) t 0
byte_of_lines S n [] wide r t below inside = absurd (omega arith)
byte_of_lines S n (row ∷ rows) wide zero t below inside =
    let first = length-line S n row (wide 0 (omega arith)) in
    let e : 0 * (digits_in S n + 1) + t ≡ t = omega arith in
    ap (λ k. get_or (line S row ++ flat_map (line S) rows) k 0) e ∙ get_or_append_left (line S row) (flat_map (line S) rows) 0 t (omega (arith, first))
byte_of_lines S n (row ∷ rows) wide (suc r) t below inside =
    let k = digits_in S n + 1 in
    let first = length-line S n row (wide 0 (omega arith)) in
    let e : suc r * k + t ≡ k + (r * k + t) = omega arith in
    let s : k + (r * k + t) - k ≡ r * k + t = omega arith in
    ap (λ j. get_or (line S row ++ flat_map (line S) rows) j 0) e
    ∙ get_or-append_right (line S row) (flat_map (line S) rows) k (k + (r * k + t)) 0 first (omega arith)
    ∙ ap (λ j. get_or (flat_map (line S) rows) j 0) s
    ∙ byte_of_lines S n rows (λ i i_below. wide (suc i) (omega (arith, i_below))) r t (omega (arith, below)) inside

-- digits more
pub digits_more : (S : Spelling) (A new : Matrix) (r t k : ℕ) (body bytes : List ℕ) → r < A.rows → BodySoFar S A r t body → ReadsDigits S bytes A new r t k
    → BodySoFar S new r (t + k) (body ++ take k bytes)
digits_more S A new r t k body bytes below far read =
    let es = read.entries in
    let lines = flat_map (line S) (take r A.entries) in
    let inside : r < length A.entries = omega (arith, far.matrix.height) in
    subst (λ (B : Matrix). BodySoFar S B r (t + k) (body ++ take k bytes)) (sym read.changed) (record {
      matrix = IsMatrix-with_row A r es far.matrix read.is;
      field = far.field;
      in_rows = far.in_rows;
      in_line = read.in_line;
      last = λ all. absurd (omega (arith, all));
      spelled = ap (λ l. l ++ take k bytes) far.spelled ∙ append_assoc lines (take t (glyphs S (get_or A.entries r []))) (take k bytes)
          ∙ ap (λ l. lines ++ l) (sym read.front)
          ∙ ap₂ (λ (rows : List (List ℕ)) (es : List ℕ). flat_map (line S) rows ++ take (t + k) (glyphs S es))
          (sym (take-set A.entries r es)) (sym (get_or-set_same A.entries r es [] inside));
    })

-- a line feed more
pub line_more : (S : Spelling) (A : Matrix) (r t : ℕ) (body : List ℕ) → r < A.rows → t ≡ digits_in S A.cols → BodySoFar S A r t body
    → BodySoFar S A (r + 1) 0 (body ++ 10 ∷ [])
line_more S A r t body below full far =
    let es = get_or A.entries r [] in
    let lines = flat_map (line S) (take r A.entries) in
    let inside : r < length A.entries = omega (arith, far.matrix.height) in
    let all : take t (glyphs S es) ≡ glyphs S es = take_all t (glyphs S es) (let l = length-glyphs S A.cols es (far.matrix.width r below) in omega (arith, l, full)) in
    record {
      matrix = far.matrix;
      field = far.field;
      in_rows = omega arith;
      in_line = omega arith;
      last = λ _. refl;
      spelled = ap (λ l. l ++ 10 ∷ []) far.spelled ∙ append_assoc lines (take t (glyphs S es)) (10 ∷ [])
          ∙ ap (λ (l : List ℕ). lines ++ (l ++ 10 ∷ [])) all
          ∙ flat_map_more (line S) [] (take r A.entries) es
          ∙ ap (λ (rows : List (List ℕ)). flat_map (line S) rows) (sym (take_more A.entries r [] inside))
          ∙ sym (append-nil (flat_map (line S) (take (r + 1) A.entries)));
    }

-- all rows
pub body_whole : (S : Spelling) (A : Matrix) (r t : ℕ) (body : List ℕ) → r ≡ A.rows → BodySoFar S A r t body → body ≡ flat_map (line S) A.entries
body_whole S A r t body all far =
    let none : t ≡ 0 = far.last all in
    far.spelled
    ∙ ap₂ (λ (rows : List (List ℕ)) k. flat_map (line S) rows ++ take k (glyphs S (get_or A.entries r [])))
    (take_all r A.entries (omega (arith, far.matrix.height))) none
    ∙ append-nil (flat_map (line S) A.entries)

-- the widths of a matrix's rows
widths : (A : Matrix) → IsMatrix A → (i : ℕ) → i < length A.entries → length (get_or A.entries i []) ≡ A.cols
widths A matrix i below = matrix.width i (omega (arith, matrix.height))

-- how long the lines are so far
pub length-so_far : (S : Spelling) (A : Matrix) (r t : ℕ) (body : List ℕ) → BodySoFar S A r t body → length body ≡ r * (digits_in S A.cols + 1) + t
length-so_far S A r t body far =
    let rows = take r A.entries in
    let es = get_or A.entries r [] in
    let many : length rows ≡ r = length-take-le r A.entries (omega (arith, far.matrix.height, far.in_rows)) in
    let before = length-lines S A.cols rows (λ i below. ap length (get_or-take r A.entries i [] (omega (arith, below, many))) ∙ widths A far.matrix i (omega (arith, below, many, far.matrix.height, far.in_rows))) in
    let before' : length (flat_map (line S) rows) ≡ r * (digits_in S A.cols + 1) = before ∙ ap (λ m. m * (digits_in S A.cols + 1)) many in
    let last : length (take t (glyphs S es)) ≡ t =
    elim (cases_lt r A.rows) [
      | inl below ↦ length-take-le t (glyphs S es) (let l = length-glyphs S A.cols es (far.matrix.width r below) in let i = far.in_line in omega (arith, l, i))
      | inr past ↦ let none : t ≡ 0 = far.last (omega (arith, far.in_rows)) in ap (λ k. length (take k (glyphs S es))) none ∙ sym none
    ] in
    omega (arith, ap length far.spelled, length-append (flat_map (line S) rows) (take t (glyphs S es)), last, before')

-- the lines of the matrix go on with the body so far
pub body_begins : (S : Spelling) (A : Matrix) (r t : ℕ) (body : List ℕ) → BodySoFar S A r t body → (rest : List ℕ) × (flat_map (line S) A.entries ≡ body ++ rest)
body_begins S A r t body far =
    elim (cases_lt r A.rows) [
      | inr past ↦ ([], sym (append-nil body ∙ body_whole S A r t body (omega (arith, far.in_rows)) far))
      | inl below ↦
          let es = get_or A.entries r [] in
          let g = glyphs S es in
          let front = flat_map (line S) (take r A.entries) in
          let inside : r < length A.entries = omega (arith, far.matrix.height) in
          let after = flat_map (line S) (drop (r + 1) A.entries) in
          let whole : flat_map (line S) A.entries ≡ flat_map (line S) (take (r + 1) A.entries) ++ after =
          ap (flat_map (line S)) (sym (take-append-drop (r + 1) A.entries)) ∙ flat_map-append (line S) (take (r + 1) A.entries) (drop (r + 1) A.entries) in
          let first : flat_map (line S) (take (r + 1) A.entries) ≡ front ++ (g ++ 10 ∷ []) =
          ap (flat_map (line S)) (take_more A.entries r [] inside) ∙ flat_map-append (line S) (take r A.entries) (es ∷ []) ∙ ap (λ l. front ++ l) (append-nil (line S es)) in
          let rest = (drop t g ++ 10 ∷ []) ++ after in (
            rest,
            whole ∙ ap (λ l. l ++ after) (first ∙ ap (λ l. front ++ (l ++ 10 ∷ [])) (sym (take-append-drop t g)) ∙ ap (λ l. front ++ l) (append_assoc (take t g) (drop t g) (10 ∷ []))
                ∙ sym (append_assoc front (take t g) (drop t g ++ 10 ∷ [])) ∙ ap (λ l. l ++ (drop t g ++ 10 ∷ [])) (sym far.spelled))
                ∙ append_assoc body (drop t g ++ 10 ∷ []) after,
          )
    ]

-- how long a text is, and its byte t of the line of row r
module _ (S : Spelling) (m n : ℕ) (w : List ℕ) (is : IsTextOf S m n w) where
  M : Matrix
  M = is.0

  abbrev lines : List ℕ
  lines = flat_map (line S) is.0.entries

  spelled : w ≡ header S m n ++ flat_map (line S) is.0.entries
  spelled = is.5 ∙ ap₂ (λ x y. header S x y ++ flat_map (line S) is.0.entries) is.3 is.4

  wide : (i : ℕ) → i < length is.0.entries → length (get_or is.0.entries i []) ≡ n
  wide i below = widths is.0 is.1 i below ∙ is.4

  many : length is.0.entries ≡ m
  many = is.1.height ∙ is.3

  pub length-text : length w ≡ length (header S m n) + m * (digits_in S n + 1)
  length-text =
      ap length spelled ∙ length-append (header S m n) (flat_map (line S) is.0.entries)
      ∙ ap (λ k. length (header S m n) + k) (length-lines S n is.0.entries wide ∙ ap (λ k. k * (digits_in S n + 1)) many)

  text_byte : (r t : ℕ) → r < m → t ≤ digits_in S n → get_or w (length (header S m n) + (r * (digits_in S n + 1) + t)) 0 ≡ get_or (line S (get_or is.0.entries r [])) t 0
  text_byte r t below inside =
      let h = length (header S m n) in
      let k = r * (digits_in S n + 1) + t in
      let s : h + k - h ≡ k = omega arith in
      ap (λ l. get_or l (h + k) 0) spelled
      ∙ get_or-append_right (header S m n) (flat_map (line S) is.0.entries) h (h + k) 0 refl (omega arith)
      ∙ ap (λ j. get_or (flat_map (line S) is.0.entries) j 0) s
      ∙ byte_of_lines S n is.0.entries wide r t (omega (arith, below, many)) inside

  -- a digit that may stand there, or a line feed
  pub text_digit : (r t : ℕ) → r < m → t < digits_in S n → IsDigitAt S n t (get_or w (length (header S m n) + (r * (digits_in S n + 1) + t)) 0)
  text_digit r t below inside =
      let es = get_or is.0.entries r [] in
      let row = row_is is.0 r is.1 (omega (arith, below, is.3)) in
      let row' : IsRow (field_of S) n es = subst₂ (λ F k. IsRow F k es) is.2 is.4 row in
      let l = length-glyphs S n es row'.wide in
      let stands = may_stand S n es row' t inside in
      let within : t < length (row_digits S es) = let d = length-row_digits S es in let e = ap (digits_in S) row'.wide in omega (arith, d, e, inside) in (
        get_or (row_digits S es) t 0,
        record {
          small = stands.0;
          glyph = text_byte r t below (omega (arith, inside)) ∙ get_or_append_left (glyphs S es) (10 ∷ []) 0 t (omega (arith, l, inside)) ∙ get_or-map (digit_glyph false) (row_digits S es) t 0 0 within;
        },
        stands.1,
      )

  pub text_end : (r : ℕ) → r < m → get_or w (length (header S m n) + (r * (digits_in S n + 1) + digits_in S n)) 0 ≡ 10
  text_end r below =
      let es = get_or is.0.entries r [] in
      let d = digits_in S n in
      let l = length-glyphs S n es (wide r (omega (arith, below, many))) in
      let s : d - d ≡ 0 = omega arith in
      text_byte r d below (omega arith) ∙ get_or-append_right (glyphs S es) (10 ∷ []) d d 0 l (omega arith) ∙ ap (λ j. get_or (10 ∷ []) j 0) s

-- the bytes of a text at a place behind its front
next_byte : (bytes rest : List ℕ) (p : ℕ) → p < length bytes → get_or (take (p + 1) bytes ++ rest) p 0 ≡ get_or bytes p 0
next_byte bytes rest p inside =
    get_or_append_left (take (p + 1) bytes) rest 0 p (let l = length-take-le (p + 1) bytes (omega arith) in omega (arith, l)) ∙ get_or-take (p + 1) bytes p 0 (omega arith)

-- a text goes wrong where its lines can't go on: at its end, or at the byte that follows
pub record IsStuck (S : Spelling) (m n : ℕ) (bytes : List ℕ) (place : ℕ) : Type 0 where
  pub none : IsTextOf S m n bytes → ⊥
  pub longest : IsLongest (IsTextOf S m n) bytes place

module _ (S : Spelling) (A : Matrix) (r t : ℕ) (body rest : List ℕ) (far : BodySoFar S A r t body) (stops : Stops S A.rows A.cols r t rest) where
  m : ℕ
  m = A.rows

  n : ℕ
  n = A.cols

  abbrev start : List ℕ
  start = header S A.rows A.cols ++ body

  place_is : length (header S A.rows A.cols ++ body) ≡ length (header S A.rows A.cols) + (r * (digits_in S A.cols + 1) + t)
  place_is = length-append (header S A.rows A.cols) body ∙ ap (λ k. length (header S A.rows A.cols) + k) (length-so_far S A r t body far)

  whole_begins : (more : List ℕ) × IsTextOf S A.rows A.cols ((header S A.rows A.cols ++ body) ++ more)
  whole_begins =
      let (more, e) = body_begins S A r t body far in
      (more, (A, far.matrix, far.field, refl, refl, append_assoc (header S A.rows A.cols) body more ∙ ap (λ l. header S A.rows A.cols ++ l) (sym e)))

  -- a text of this shape that begins so goes on otherwise
  no_text : 0 < length rest → (w : List ℕ) → IsTextOf S A.rows A.cols w → length (header S A.rows A.cols ++ body) < length w
      → get_or w (length (header S A.rows A.cols ++ body)) 0 ≡ get_or rest 0 0 → ⊥
  no_text some w is inside same =
      let h = length (header S A.rows A.cols) in
      let long = length-text S A.rows A.cols w is in
      let at : get_or w (h + (r * (digits_in S A.cols + 1) + t)) 0 ≡ get_or rest 0 0 = ap (λ k. get_or w k 0) (sym place_is) ∙ same in
      elim (cases_lt r A.rows) [
        | inr past ↦
            let all : r ≡ A.rows = omega (arith, far.in_rows) in
            let none = far.last all in
            let e = ap (λ k. k * (digits_in S A.cols + 1)) all in
            absurd (omega (arith, long, inside, place_is, none, e))
        | inl below ↦ elim (cases_lt t (digits_in S A.cols)) [
          | inl short ↦ stops.digit below some short (subst (IsDigitAt S A.cols t) at (text_digit S A.rows A.cols w is r t below short))
          | inr full ↦
              let end : t ≡ digits_in S A.cols = omega (arith, far.in_line) in
              stops.ending below some end (sym at ∙ ap (λ k. get_or w (h + (r * (digits_in S A.cols + 1) + k)) 0) end ∙ text_end S A.rows A.cols w is r below)
        ]
      ]

  -- the end of the bytes comes before that of a text
  short_of_end : length rest ≡ 0 → r < A.rows
  short_of_end none = elim (cases_lt r A.rows) [
    | inl below ↦ below
    | inr past ↦ let s = stops.more (omega (arith, far.in_rows)) in absurd (omega (arith, s))
  ]

  row_fits : r < A.rows → r * (digits_in S A.cols + 1) + (digits_in S A.cols + 1) ≤ A.rows * (digits_in S A.cols + 1)
  row_fits below = let e : suc r * (digits_in S A.cols + 1) ≤ A.rows * (digits_in S A.cols + 1) = mul-le-mul_right (digits_in S A.cols + 1) below in let f : suc r * (digits_in S A.cols + 1) ≡ r * (digits_in S A.cols + 1) + (digits_in S A.cols + 1) = omega arith in omega (arith, e, f)

  pub body_stuck : IsStuck S A.rows A.cols ((header S A.rows A.cols ++ body) ++ rest) (length (header S A.rows A.cols ++ body))
  body_stuck =
      let bytes = (header S A.rows A.cols ++ body) ++ rest in
      let p = length (header S A.rows A.cols ++ body) in
      let front : take p bytes ≡ header S A.rows A.cols ++ body = take_at (header S A.rows A.cols ++ body) rest p refl in
      let long = length-append (header S A.rows A.cols ++ body) rest in
      let begins = whole_begins in
      let z : p - p ≡ 0 = omega arith in
      let next : get_or bytes p 0 ≡ get_or rest 0 0 = get_or-append_right (header S A.rows A.cols ++ body) rest p p 0 refl (omega arith) ∙ ap (λ k. get_or rest k 0) z in
      record {
        none = λ is. elim (cases_lt 0 (length rest)) [
          | inl some ↦ no_text some bytes is (omega (arith, long, some)) next
          | inr none ↦
              let total = length-text S A.rows A.cols bytes is in
              let below = short_of_end (omega arith) in
              let far_in = far.in_line in
              let fits = row_fits below in
              absurd (omega (arith, total, long, place_is, fits, far_in, none))
        ];
        longest = IsLongest-from_next (IsTextOf S A.rows A.cols) bytes p (omega (arith, long)) (begins.0, subst (λ l. IsTextOf S A.rows A.cols (l ++ begins.0)) (sym front) begins.1)
            (λ inside (goes : Begins (IsTextOf S A.rows A.cols) (take (p + 1) bytes)).
            let cut = length-take-le (p + 1) bytes (omega arith) in
            let w = take (p + 1) bytes ++ goes.0 in
            let longer = length-append (take (p + 1) bytes) goes.0 in
            no_text (omega (arith, inside, long)) w goes.1 (omega (arith, cut, longer)) (next_byte bytes goes.0 p inside ∙ next));
      }

-- before the first line
pub lines_begin : (S : Spelling) (A : Matrix) → IsMatrix A → A.field ≡ field_of S → BodySoFar S A 0 0 []
lines_begin S A matrix field = record {
  matrix = matrix;
  field = field;
  in_rows = omega arith;
  in_line = omega arith;
  last = λ _. refl;
  spelled = refl;
}

-- the text is refused where its lines can't go on
pub lines_refused : (k : Kept) (bytes rest : List ℕ) (place : ℕ) → StandsForLines k bytes
    → place ≡ k.head + k.row_next * (digits_in k.spelling k.matrix.cols + 1) + k.place_next
    → Stops k.spelling k.matrix.rows k.matrix.cols k.row_next k.place_next rest → Refusal (bytes ++ rest) (BadAt place)
lines_refused k bytes rest place stands here stops =
    let S = k.spelling in
    let A = k.matrix in
    let body = stands.body in
    let stuck = body_stuck S A k.row_next k.place_next body rest stands.read stops in
    let whole : (header S A.rows A.cols ++ body) ++ rest ≡ bytes ++ rest = ap (λ l. l ++ rest) (sym stands.spelled) in
    let far : length (header S A.rows A.cols ++ body) ≡ place =
    omega (arith, here, stands.long, length-so_far S A k.row_next k.place_next body stands.read, length-append (header S A.rows A.cols) body) in
    inr (record {
      spelling = S;
      rows = A.rows;
      cols = A.cols;
      begins = (stands.numbers, body ++ rest, sym whole ∙ append_assoc (header S A.rows A.cols) body rest);
      field = stands.has_field;
      limits = stands.limits;
      none = subst (λ w. IsTextOf S A.rows A.cols w → ⊥) whole stuck.none;
      longest = subst₂ (IsLongest (IsTextOf S A.rows A.cols)) whole far stuck.longest;
    })

-- lines more
pub lines_more : (old new : Kept) (bytes front : List ℕ) → StandsForLines old bytes → new.spelling ≡ old.spelling → new.head ≡ old.head
    → new.matrix.rows ≡ old.matrix.rows → new.matrix.cols ≡ old.matrix.cols
    → ((body : List ℕ) → BodySoFar old.spelling old.matrix old.row_next old.place_next body → BodySoFar new.spelling new.matrix new.row_next new.place_next (body ++ front))
    → StandsForLines new (bytes ++ front)
lines_more old new bytes front stands spelling head rows cols more =
    let same : header old.spelling old.matrix.rows old.matrix.cols ≡ header new.spelling new.matrix.rows new.matrix.cols =
    ap (λ S. header S old.matrix.rows old.matrix.cols) (sym spelling) ∙ ap₂ (header new.spelling) (sym rows) (sym cols) in
    record {
      body = stands.body ++ front;
      numbers = subst (λ S. AreHeaderNumbers S new.matrix.rows new.matrix.cols) (sym spelling) (subst₂ (AreHeaderNumbers old.spelling) (sym rows) (sym cols) stands.numbers);
      has_field = subst HasField (sym spelling) stands.has_field;
      limits = subst (λ S. IsWithinLimits (width (field_of S)) new.matrix.rows new.matrix.cols) (sym spelling) (subst₂ (IsWithinLimits (width (field_of old.spelling))) (sym rows) (sym cols) stands.limits);
      long = head ∙ stands.long ∙ ap length same;
      spelled = ap (λ l. l ++ front) stands.spelled ∙ append_assoc (header old.spelling old.matrix.rows old.matrix.cols) stands.body front
          ∙ ap (λ l. l ++ (stands.body ++ front)) same;
      read = more stands.body stands.read;
    }

-- what stops does so whatever follows it
pub Stops-append : (S : Spelling) (m n r t : ℕ) (rest more : List ℕ) → 0 < length rest → Stops S m n r t rest → Stops S m n r t (rest ++ more)
Stops-append S m n r t rest more some stops =
    let first : get_or (rest ++ more) 0 0 ≡ get_or rest 0 0 = get_or_append_left rest more 0 0 some in
    record {
      more = λ _. omega (arith, length-append rest more);
      digit = λ below _ short digit. stops.digit below some short (subst (IsDigitAt S n t) first digit);
      ending = λ below _ full end. stops.ending below some full (sym first ∙ end);
    }

-- a piece that can't follow
pub lines_stopped : (k : Kept) (bytes piece more : List ℕ) (taken place : ℕ) → taken < length piece → StandsForLines k (bytes ++ take taken piece)
    → place ≡ k.head + k.row_next * (digits_in k.spelling k.matrix.cols + 1) + k.place_next
    → Stops k.spelling k.matrix.rows k.matrix.cols k.row_next k.place_next (drop taken piece) → Refusal ((bytes ++ piece) ++ more) (BadAt place)
lines_stopped k bytes piece more taken place inside stands here stops =
    let front = take taken piece in
    let rest = drop taken piece in
    let whole : (bytes ++ front) ++ (rest ++ more) ≡ (bytes ++ piece) ++ more =
    sym (append_assoc (bytes ++ front) rest more) ∙ ap (λ l. l ++ more) (append_assoc bytes front rest)
    ∙ ap (λ l. (bytes ++ l) ++ more) (take-append-drop taken piece) in
    subst (λ l. Refusal l (BadAt place)) whole
    (lines_refused k (bytes ++ front) (rest ++ more) place stands here
    (Stops-append k.spelling k.matrix.rows k.matrix.cols k.row_next k.place_next rest more (omega (arith, length-drop taken piece)) stops))

-- a text that ends too early
pub lines_short : (k : Kept) (bytes : List ℕ) (place : ℕ) → StandsForLines k bytes
    → place ≡ k.head + k.row_next * (digits_in k.spelling k.matrix.cols + 1) + k.place_next
    → k.row_next < k.matrix.rows → Refusal bytes (BadAt place)
lines_short k bytes place stands here below =
    subst (λ l. Refusal l (BadAt place)) (append-nil bytes)
    (lines_refused k bytes [] place stands here (record {
      more = λ all. absurd (omega arith);
      digit = λ _ some. absurd (omega arith);
      ending = λ _ some. absurd (omega arith);
    }))

-- all lines are there
pub lines_read : (k : Kept) (bytes : List ℕ) → StandsForLines k bytes → k.row_next ≡ k.matrix.rows → (bytes ≡ text_in k.spelling k.matrix) × IsMatrix k.matrix
lines_read k bytes stands all = (
  stands.spelled ∙ ap (λ l. header k.spelling k.matrix.rows k.matrix.cols ++ l) (body_whole k.spelling k.matrix k.row_next k.place_next stands.body all stands.read),
  stands.read.matrix,
)
