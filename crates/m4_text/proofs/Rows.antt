-- A matrix while its rows are read.
use Rattle.std.proofs.Common.{◌≡◌, ℕ, ◌+◌, ◌<◌, ◌≤◌, Bool, true, false, List, [], ◌∷◌, ◌++◌, length, get_or, set, take, drop, flat_map, refl, sym, ◌∙◌, ap, subst, arith, ◌⊎◌, inl, inr, take-add, take_all, get_or-set_same, get_or-set_other, length-take, get_or-take, length-drop, take-append-drop, ap₂, subst₂, ◌^◌}
use Rattle.std.proofs.lemmas.List.{get_or_default, length-set, length-take-le, take_more_set, flat_map_more}
use Rattle.std.proofs.lemmas.Bool.{cases_eq}
use Rattle.m4_model.specs.Field.{Field, gf2}
use Rattle.m4_model.specs.Matrix.{Matrix, IsMatrix, with_row}
use Rattle.m4_model.specs.Text.{IsTextOf, header, line, text}
use Rattle.m4_bits.specs.Digits.{AreDigits}
use Rattle.m4_text.specs.Place.{GoesWrong, AreBits, IsLine, IsBareOf, IsWrongText, IsBinaryDigit, HasLine}
use Rattle.m4_text.specs.Reading.{HasDigit, ReadsRow, ReadsRows, ReadsLines, entries_of}
use Rattle.m4_text.proofs.Lines.{line_read}
use Rattle.m4_text.proofs.Fronts.{GoesWrong-same}
use Rattle.m4_text.proofs.Bodies.{IsBody, body_of_rows, body_of_bare, bare_of_body, AreRows, AreRows-matrix, AreRows-take, wrong_row, wrong_text, none_wrong, longer_text}

-- a digit is one of two
pub HasDigit-binary : (bytes : List ℕ) (place : ℕ) (bit : Bool) → HasDigit bytes place bit → IsBinaryDigit (get_or bytes place 0)
HasDigit-binary bytes place true has = (omega (arith, has.digit), omega (arith, has.digit))
HasDigit-binary bytes place false has = (omega (arith, has.digit), omega (arith, has.digit))

binary_from_digit : (d : ℕ) → (d ≡ 48) ⊎ (d ≡ 49) → IsBinaryDigit d
binary_from_digit d (inl zero_digit) = (omega arith, omega arith)
binary_from_digit d (inr one_digit) = (omega arith, omega arith)

digit_from_binary : (d : ℕ) → IsBinaryDigit d → (d ≡ 48) ⊎ (d ≡ 49)
digit_from_binary d is =
    elim (cases_eq d 48) [
      | inl low ↦ inl low
      | inr other ↦ inr (omega (arith, is.0, is.1))
    ]

pub binary_digits : (n : ℕ) (bytes : List ℕ) → n ≤ length bytes → AreDigits (take n bytes) → (j : ℕ) → j < n → IsBinaryDigit (get_or bytes j 0)
binary_digits n bytes within digits j below =
    binary_from_digit (get_or bytes j 0)
    (subst (λ b. (b ≡ 48) ⊎ (b ≡ 49)) (get_or-take n bytes j 0 below) (digits j 0 (omega (arith, length-take n bytes))))

-- a row of digits and a line feed are its line
pub row_read : (A : Matrix) (r : ℕ) (bytes : List ℕ) → A.cols < length bytes → AreDigits (take A.cols bytes) → get_or bytes A.cols 0 ≡ 10
    → ReadsRow bytes A (with_row A r (entries_of (take A.cols bytes))) r
row_read A r bytes inside digits end =
    let read = line_read A.cols bytes inside (binary_digits A.cols bytes (omega arith) digits) end in
    record {
      entries = entries_of (take A.cols bytes);
      bits = read.0;
      within = omega arith;
      spelled = read.1;
      changed = refl;
    }

-- the line of a row has digits
pub digits_of_line : (n : ℕ) (bytes : List ℕ) → HasLine bytes n → AreDigits (take n bytes)
digits_of_line n bytes has = λ j d below.
    let front : j < n = omega (arith, length-take n bytes) in
    let inside : j < length bytes = omega (arith, has.inside) in
    subst (λ b. (b ≡ 48) ⊎ (b ≡ 49)) (get_or_default bytes j 0 d inside ∙ sym (get_or-take n bytes j d front)) (digit_from_binary (get_or bytes j 0) (has.digits j front))

-- a row of a matrix with another row r is that, or as it was
changed_row : (rows : List (List ℕ)) (r i : ℕ) (es : List ℕ) → i < length rows
    → ((get_or (set rows r es) i [] ≡ es) ⊎ (get_or (set rows r es) i [] ≡ get_or rows i []))
changed_row rows r i es inside =
    elim (cases_eq i r) [
      | inl same ↦
          inl (ap (λ k. get_or (set rows r es) k []) same ∙ get_or-set_same rows r es [] (omega arith))
      | inr other ↦ inr (get_or-set_other rows r i es [] other)
    ]

-- a matrix with another row of bits is one
pub IsMatrix-with_row : (A : Matrix) (r : ℕ) (es : List ℕ) → IsMatrix A → A.field ≡ gf2 → AreBits A.cols es → IsMatrix (with_row A r es)
IsMatrix-with_row A r es matrix field bits = record {
  over_field = matrix.over_field;
  height = length-set A.entries r es ∙ matrix.height;
  width = λ i in_rows.
      elim (changed_row A.entries r i es (omega (arith, matrix.height))) [
        | inl new ↦ ap length new ∙ bits.width
        | inr old ↦ ap length old ∙ matrix.width i in_rows
      ];
  elements = λ i j in_rows in_cols.
      elim (changed_row A.entries r i es (omega (arith, matrix.height))) [
        | inl new ↦
            subst (λ (F : Field). get_or (get_or (set A.entries r es) i []) j 0 < 2 ^ F.degree) (sym field)
            (subst (λ (l : List ℕ). get_or l j 0 < 2) (sym new) (bits.elements j in_cols))
        | inr old ↦ subst (λ (l : List ℕ). get_or l j 0 < 2 ^ A.field.degree) (sym old) (matrix.elements i j in_rows in_cols)
      ];
}

-- The lines of r rows are read into the matrix, and end before this place.
pub record RowsSoFar (m n : ℕ) (bytes : List ℕ) (place r : ℕ) (A : Matrix) : Type 0 where
  pub rows : A.rows ≡ m
  pub cols : A.cols ≡ n
  pub matrix : IsMatrix A
  pub over_gf2 : A.field ≡ gf2
  pub within : place ≤ length bytes
  pub spelled : take place bytes ≡ flat_map line (take r A.entries)

-- before the first row
pub rows_begin : (bytes : List ℕ) (A : Matrix) → IsMatrix A → A.field ≡ gf2 → RowsSoFar A.rows A.cols bytes 0 0 A
rows_begin bytes A matrix field = record {
  rows = refl;
  cols = refl;
  matrix = matrix;
  over_gf2 = field;
  within = omega arith;
  spelled = refl;
}

-- one row more
pub rows_go_on : (m n : ℕ) (bytes : List ℕ) (place r : ℕ) (A new : Matrix) → r < m → RowsSoFar m n bytes place r A
    → ReadsRow (drop place bytes) A new r → RowsSoFar m n bytes (place + (n + 1)) (r + 1) new
rows_go_on m n bytes place r A new below far read =
    let es = read.entries in
    let inside : r < length A.entries = omega (arith, far.rows, far.matrix.height) in
    let next : take (n + 1) (drop place bytes) ≡ line es = ap (λ k. take (k + 1) (drop place bytes)) (sym far.cols) ∙ read.spelled in
    let rows : take (r + 1) (set A.entries r es) ≡ take r A.entries ++ es ∷ [] = take_more_set A.entries r es inside in
    subst (RowsSoFar m n bytes (place + (n + 1)) (r + 1)) (sym read.changed) (record {
      rows = far.rows;
      cols = far.cols;
      matrix = IsMatrix-with_row A r es far.matrix far.over_gf2 read.bits;
      over_gf2 = far.over_gf2;
      within = omega (arith, read.within, far.cols, length-drop place bytes, far.within);
      spelled = take-add place (n + 1) bytes ∙ ap₂ (λ x y. x ++ y) far.spelled next
          ∙ flat_map_more line [] (take r A.entries) es
          ∙ ap (λ (l : List (List ℕ)). flat_map line l) (sym rows);
    })

-- a line that goes wrong
pub rows_wrong : (m n : ℕ) (bytes : List ℕ) (place r k : ℕ) (A : Matrix) → r < m → RowsSoFar m n bytes place r A
    → GoesWrong (IsLine A.cols) (drop place bytes) k → GoesWrong (IsBareOf m n) bytes (place + k)
rows_wrong m n bytes place r k A below far found =
    let rows = take r A.entries in
    let many : length rows ≡ r = length-take-le r A.entries (omega (arith, far.rows, far.matrix.height)) in
    let are : AreRows n rows = subst (λ c. AreRows c rows) far.cols (AreRows-take A.cols r A.entries (AreRows-matrix A far.matrix far.over_gf2)) in
    let before : IsBody r n (flat_map line rows) = subst (λ c. IsBody c n (flat_map line rows)) many (body_of_rows n rows are) in
    let wrong = wrong_row r m n below (flat_map line rows) (drop place bytes) k before
    (subst (λ c. GoesWrong (IsLine c) (drop place bytes) k) far.cols found) in
    let whole : flat_map line rows ++ drop place bytes ≡ bytes =
    ap (λ l. l ++ drop place bytes) (sym far.spelled) ∙ take-append-drop place bytes in
    let here : length (flat_map line rows) + k ≡ place + k =
    ap (λ (l : List ℕ). length l + k) (sym far.spelled) ∙ ap (λ p. p + k) (length-take-le place bytes far.within) in
    GoesWrong-same (IsBody m n) (IsBareOf m n) (bare_of_body m n) (body_of_bare m n) bytes (place + k)
    (subst₂ (GoesWrong (IsBody m n)) whole here wrong)

-- all rows
pub rows_end : (m n : ℕ) (bytes : List ℕ) (place : ℕ) (old A : Matrix) → old.rows ≡ m → old.cols ≡ n → RowsSoFar m n bytes place m A
    → ReadsLines bytes old A place
rows_end m n bytes place old A many wide far = record {
  within = far.within;
  spelled = far.spelled
      ∙ ap (λ (l : List (List ℕ)). flat_map line l) (take_all m A.entries (omega (arith, far.rows, far.matrix.height)));
  matrix = far.matrix;
  over_gf2 = far.over_gf2;
  rows = far.rows ∙ sym many;
  cols = far.cols ∙ sym wide;
}

-- the lines behind a header line
module _ (bytes : List ℕ) (start : ℕ) (old : Matrix) (head : take start bytes ≡ header old.rows old.cols) (within : start ≤ length bytes) where
  whole : header old.rows old.cols ++ drop start bytes ≡ bytes
  whole = ap (λ w. w ++ drop start bytes) (sym head) ∙ take-append-drop start bytes

  far : length (header old.rows old.cols) ≡ start
  far = ap length (sym head) ∙ length-take-le start bytes within

  -- they go wrong
  pub text_wrong : (k : ℕ) → GoesWrong (IsBareOf old.rows old.cols) (drop start bytes) k → IsWrongText old.rows old.cols bytes (start + k)
  text_wrong k found =
      let wrong = wrong_text old.rows old.cols (drop start bytes) k found in
      let here : length (header old.rows old.cols) + k ≡ start + k = ap (λ p. p + k) far in
      let placed : GoesWrong (IsTextOf old.rows old.cols) bytes (start + k) = subst₂ (GoesWrong (IsTextOf old.rows old.cols)) whole here wrong in
      record { none = none_wrong (IsTextOf old.rows old.cols) bytes (start + k) placed; longest = placed.longest }

  -- they are read, and spell the text up to this place
  spelled_text : (A : Matrix) (end : ℕ) → ReadsLines (drop start bytes) old A end → take (start + end) bytes ≡ text A
  spelled_text A end read =
      take-add start end bytes ∙ ap₂ (λ x y. x ++ y) head read.spelled
      ∙ ap₂ (λ k l. header k l ++ flat_map line A.entries) (sym read.rows) (sym read.cols)

  -- nothing stands behind them
  pub text_end : (A : Matrix) (end : ℕ) → ReadsLines (drop start bytes) old A end → length bytes ≤ start + end → ReadsRows bytes old A
  text_end A end read last = record {
    spelled = sym (take_all (start + end) bytes last) ∙ spelled_text A end read;
    matrix = read.matrix;
    over_gf2 = read.over_gf2;
    rows = read.rows;
    cols = read.cols;
  }

  -- something stands behind them
  pub text_longer : (A : Matrix) (end : ℕ) → ReadsLines (drop start bytes) old A end → start + end < length bytes
      → IsWrongText old.rows old.cols bytes (start + end)
  text_longer A end read inside =
      longer_text old.rows old.cols bytes (start + end) inside
      (A, read.matrix, read.over_gf2, read.rows, read.cols, spelled_text A end read)
