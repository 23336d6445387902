-- Lines of a bare text, as the rows of a matrix over GF(2) of which the first are there.
use Rattle.std.proofs.Common.{◌≡◌, ℕ, suc, ◌+◌, ◌-◌, ◌*◌, ◌^◌, ◌<◌, ◌≤◌, false, List, [], ◌∷◌, ◌++◌, length, get_or, map, take, flat_map, refl, sym, ◌∙◌, ap, ap₂, subst, subst₂, arith, append_assoc, append-nil, length-append}
use Rattle.std.proofs.lemmas.List.{get_or-map, get_or_append_left, get_or-append_right, length-take-le, get_or-take}
use Rattle.std.specs.Fmt.{digit_glyph}
use Rattle.m4_model.specs.Field.{gf2}
use Rattle.m4_model.specs.Matrix.{Matrix, IsMatrix}
use Rattle.m4_model.specs.Text.{line as plain_line}
use Rattle.m4_model.specs.Headed.{Bits, line}
use Rattle.m4_text.specs.Place.{GoesWrong, IsLine, HasLine, IsBinaryDigit, AreBits}
use Rattle.m4_text.proofs.Lines.{wrong_line}
use Rattle.m4_text.proofs.Bodies.{IsBody, AreRows, body_of_rows, AreRows-matrix, AreRows-take, wrong_row}
use Rattle.m4_etext.specs.Pieces.{BodySoFar, Stops, IsDigitAt, glyphs}
use Rattle.m4_etext.proofs.Numerals.{glyph_low}
use Rattle.m4_etext.proofs.Pieces.{length-glyphs, length-so_far}

-- the digits 0 and 1
pub digit_stands : (n t byte : ℕ) → IsBinaryDigit byte → IsDigitAt Bits n t byte
digit_stands n t byte digit =
    let small : byte - 48 < 2 = omega (arith, digit.1) in (
      byte - 48,
      record { small = omega (arith, small); glyph = (let e : byte ≡ 48 + (byte - 48) = omega (arith, digit.0) in e) ∙ sym (glyph_low (byte - 48) (omega (arith, small))) },
      small,
    )

-- a line of a row over GF(2)
same_glyphs : (entries : List ℕ) → ((j : ℕ) → j < length entries → get_or entries j 0 < 2) → map (digit_glyph false) entries ≡ map (λ x. 48 + x) entries
same_glyphs [] small = refl
same_glyphs (x ∷ entries) small =
    ap₂ (λ (y : ℕ) (ys : List ℕ). y ∷ ys) (glyph_low x (let s = small 0 (omega arith) in omega (arith, s))) (same_glyphs entries (λ j below. small (suc j) (omega (arith, below))))

pub same_line : (n : ℕ) (entries : List ℕ) → AreBits n entries → line Bits entries ≡ plain_line entries
same_line n entries are = ap (λ l. l ++ 10 ∷ []) (same_glyphs entries (λ j below. are.elements j (let w = are.width in omega (arith, w, below))))

pub same_lines : (n : ℕ) (rows : List (List ℕ)) → AreRows n rows → flat_map (line Bits) rows ≡ flat_map plain_line rows
same_lines n [] are = refl
same_lines n (row ∷ rows) are = ap₂ (λ (x y : List ℕ). x ++ y) (same_line n row are.0) (same_lines n rows are.1)

-- the first rows have lines
pub front_body : (A : Matrix) (r : ℕ) → IsMatrix A → A.field ≡ gf2 → r ≤ A.rows → IsBody r A.cols (flat_map (line Bits) (take r A.entries))
front_body A r matrix field few =
    let are : AreRows A.cols (take r A.entries) = AreRows-take A.cols r A.entries (AreRows-matrix A matrix field) in
    let many : length (take r A.entries) ≡ r = length-take-le r A.entries (let h = matrix.height in omega (arith, h, few)) in
    subst (IsBody r A.cols) (sym (same_lines A.cols (take r A.entries) are))
    (subst (λ k. IsBody k A.cols (flat_map plain_line (take r A.entries))) many (body_of_rows A.cols (take r A.entries) are))

module _ (A : Matrix) (r t : ℕ) (body : List ℕ) (far : BodySoFar Bits A r t body) where
  -- the lines so far, and the digits behind them
  abbrev front : List ℕ
  front = flat_map (line Bits) (take r A.entries)

  abbrev digits : List ℕ
  digits = take t (glyphs Bits (get_or A.entries r []))

  lines_body : IsBody r A.cols front
  lines_body = front_body A r far.matrix far.field far.in_rows

  pub many_digits : r < A.rows → length digits ≡ t
  many_digits below = length-take-le t (glyphs Bits (get_or A.entries r [])) (let l = length-glyphs Bits A.cols (get_or A.entries r []) (far.matrix.width r below) in let i = far.in_line in omega (arith, l, i))

  pub digit_there : r < A.rows → (j : ℕ) → j < t → IsBinaryDigit (get_or digits j 0)
  digit_there below j inside =
      let es = get_or A.entries r [] in
      let wide = far.matrix.width r below in
      let i = far.in_line in
      let small : get_or es j 0 < 2 = subst (λ F. get_or es j 0 < 2 ^ F.degree) far.field (far.matrix.elements r j below (omega (arith, i, inside))) in
      let e : get_or digits j 0 ≡ 48 + get_or es j 0 =
      get_or-take t (glyphs Bits es) j 0 inside ∙ get_or-map (digit_glyph false) es j 0 0 (omega (arith, wide, i, inside)) ∙ glyph_low (get_or es j 0) (omega (arith, small)) in
      (omega (arith, e), omega (arith, e, small))

  -- where the lines stop in a row, bytes go wrong in it
  pub wrong_lines : (rest : List ℕ) → r < A.rows → Stops Bits A.rows A.cols r t rest → GoesWrong (IsBody (r + 1) A.cols) (body ++ rest) (r * (A.cols + 1) + t)
  wrong_lines rest below stops =
      let many = many_digits below in
      let after = digits ++ rest in
      let long = length-append digits rest in
      let before : (j : ℕ) → j < t → IsBinaryDigit (get_or after j 0) =
      λ j inside. subst IsBinaryDigit (sym (get_or_append_left digits rest 0 j (omega (arith, many, inside)))) (digit_there below j inside) in
      let z : t - t ≡ 0 = omega arith in
      let next : get_or after t 0 ≡ get_or rest 0 0 = get_or-append_right digits rest t t 0 many (omega arith) ∙ ap (λ k. get_or rest k 0) z in
      let i = far.in_line in
      let found : GoesWrong (IsLine A.cols) after t =
      wrong_line A.cols after t i (omega (arith, long, many)) before
      (λ inside short digit. stops.digit below (omega (arith, inside, long, many)) short (digit_stands A.cols t (get_or rest 0 0) (subst IsBinaryDigit next digit)))
      (λ inside full end. stops.ending below (omega (arith, inside, long, many)) full (sym next ∙ end)) in
      let whole : front ++ after ≡ body ++ rest = sym (append_assoc front digits rest) ∙ ap (λ l. l ++ rest) (sym far.spelled) in
      let place : length front + t ≡ r * (A.cols + 1) + t =
      (let s = ap length far.spelled in let l = length-append front digits in let f = length-so_far Bits A r t body far in omega (arith, s, l, f, many)) in
      subst₂ (GoesWrong (IsBody (r + 1) A.cols)) whole place (wrong_row r (r + 1) A.cols (omega arith) front after t lines_body found)

  -- all rows are there
  pub all_lines : r ≡ A.rows → IsBody A.rows A.cols body
  all_lines all =
      let none : t ≡ 0 = far.last all in
      let e : body ≡ front = far.spelled ∙ ap (λ k. front ++ take k (glyphs Bits (get_or A.entries r []))) none ∙ append-nil front in
      subst₂ (λ k l. IsBody k A.cols l) all (sym e) lines_body

-- a first line stays it
pub HasLine-append : (bytes more : List ℕ) (n : ℕ) → HasLine bytes n → HasLine (bytes ++ more) n
HasLine-append bytes more n first =
    let inside = first.inside in
    record {
      inside = omega (arith, inside, length-append bytes more);
      digits = λ j below. subst IsBinaryDigit (sym (get_or_append_left bytes more 0 j (omega (arith, inside, below)))) (first.digits j below);
      ended = get_or_append_left bytes more 0 n inside ∙ first.ended;
    }
