-- Texts of matrices of one shape, and where bytes go wrong in one.
use Rattle.std.proofs.Common.{◌≡◌, ℕ, zero, suc, ◌+◌, ◌*◌, ◌^◌, ◌<◌, List, [], ◌∷◌, ◌++◌, length, get_or, take, flat_map, refl, sym, ◌∙◌, ap, ap₂, subst, subst₂, arith, inl, inr, append_assoc, append-nil, length-append, length-take-le, take_all}
use Rattle.std.specs.List.{AllByRecursion}
use Rattle.std.proofs.lemmas.Bool.{cases_lt}
use Rattle.m4_model.specs.Field.{gf2}
use Rattle.m4_model.specs.Matrix.{Matrix, IsMatrix}
use Rattle.m4_model.specs.Text.{IsTextOf, header, line}
use Rattle.m4_model.proofs.FieldLemmas.{gf2_field}
use Rattle.m4_text.specs.Place.{GoesWrong, AreBits, IsLine, IsBareOf, IsWrongText}
use Rattle.m4_text.proofs.Fronts.{IsPrefixFree, IsPrefixFree-same_length, IsLongest-from_next, Joined, GoesWrong-first, GoesWrong-second, GoesWrong-same}
use Rattle.m4_text.proofs.Lines.{length-line, IsPrefixFree-line, begins_line}

-- The lines of m rows of n columns.
unfoldable pub IsBody : ℕ → ℕ → List ℕ → Type 0
IsBody zero n bytes = bytes ≡ []
IsBody (suc m) n bytes = Joined (IsLine n) (IsBody m n) bytes

-- rows of n columns
abbrev pub AreRows : ℕ → List (List ℕ) → Type 0
AreRows n rows = AllByRecursion (AreBits n) rows

pub length-body : (m n : ℕ) (w : List ℕ) → IsBody m n w → length w ≡ m * (n + 1)
unfolding IsBody
length-body zero n w e = omega (arith, ap length e)
length-body (suc m) n w (a, b, first, rest, e) =
    omega (arith, ap length e, length-append a b, length-line n a first, length-body m n b rest)

-- rows have lines, and lines have rows
pub body_of_rows : (n : ℕ) (rows : List (List ℕ)) → AreRows n rows → IsBody (length rows) n (flat_map line rows)
unfolding IsBody
body_of_rows n [] are = refl
body_of_rows n (row ∷ rows) are = (line row, flat_map line rows, (row, are.0, refl), body_of_rows n rows are.1, refl)

pub rows_of_body : (m n : ℕ) (w : List ℕ) → IsBody m n w → (rows : List (List ℕ)) × (length rows ≡ m) × AreRows n rows × (w ≡ flat_map line rows)
unfolding IsBody
rows_of_body zero n w e = ([], refl, tt, e)
rows_of_body (suc m) n w (a, b, (row, bits, spelled), rest, e) =
    let (rows, many, are, lines) = rows_of_body m n b rest in
    (row ∷ rows, ap suc many, (bits, are), e ∙ ap₂ (λ x y. x ++ y) spelled lines)

-- some m rows of n columns
pub some_body : (m n : ℕ) → (w : List ℕ) × IsBody m n w
unfolding IsBody
some_body zero n = ([], refl)
some_body (suc m) n =
    let first = begins_line n [] (omega arith) (λ j none. absurd (omega (arith, none))) in
    let rest = some_body m n in
    (first.0 ++ rest.0, (first.0, rest.0, first.1, rest.1, refl))

-- bytes go wrong in the line of a row, behind the lines of the rows before it
pub wrong_row : (i m n : ℕ) → i < m → (front after : List ℕ) (k : ℕ) → IsBody i n front → GoesWrong (IsLine n) after k
    → GoesWrong (IsBody m n) (front ++ after) (length front + k)
unfolding IsBody
wrong_row i zero n below front after k before found = absurd (omega arith)
wrong_row zero (suc m) n below front after k before found =
    let rest = some_body m n in
    let wrong = GoesWrong-first (IsLine n) (IsBody m n) (IsPrefixFree-line n) rest.0 rest.1 after k found in
    let here : k ≡ length front + k = omega (arith, ap length before) in
    subst₂ (GoesWrong (Joined (IsLine n) (IsBody m n))) (ap (λ w. w ++ after) (sym before)) here wrong
wrong_row (suc i) (suc m) n below front after k (a, b, first, rest, e) found =
    let inner = wrong_row i m n (omega (arith, below)) b after k rest found in
    let wrong = GoesWrong-second (IsLine n) (IsBody m n) (IsPrefixFree-line n) a first (b ++ after) (length b + k) inner in
    let here : length a + (length b + k) ≡ length front + k = omega (arith, ap length e, length-append a b) in
    subst₂ (GoesWrong (Joined (IsLine n) (IsBody m n))) (sym (append_assoc a b after) ∙ ap (λ w. w ++ after) (sym e)) here wrong

-- rows by index
pub AreBits-row : (n : ℕ) (rows : List (List ℕ)) (i : ℕ) → AreRows n rows → i < length rows → AreBits n (get_or rows i [])
AreBits-row n [] i are below = absurd (omega (arith, below))
AreBits-row n (row ∷ rows) zero are below = are.0
AreBits-row n (row ∷ rows) (suc i) are below = AreBits-row n rows i are.1 (omega (arith, below))

pub AreRows-by_index : (n : ℕ) (rows : List (List ℕ)) → ((i : ℕ) → i < length rows → AreBits n (get_or rows i [])) → AreRows n rows
AreRows-by_index n [] are = tt
AreRows-by_index n (row ∷ rows) are = (are 0 (omega arith), AreRows-by_index n rows (λ i below. are (suc i) (omega (arith, below))))

pub AreRows-take : (n i : ℕ) (rows : List (List ℕ)) → AreRows n rows → AreRows n (take i rows)
AreRows-take n zero rows are = tt
AreRows-take n (suc i) [] are = tt
AreRows-take n (suc i) (row ∷ rows) are = (are.0, AreRows-take n i rows are.1)

-- a matrix over GF(2) has rows of its columns, and such rows make a matrix
pub AreRows-matrix : (M : Matrix) → IsMatrix M → M.field ≡ gf2 → AreRows M.cols M.entries
AreRows-matrix M matrix field =
    AreRows-by_index M.cols M.entries (λ i below.
    let in_rows : i < M.rows = omega (arith, matrix.height) in
    record {
      width = matrix.width i in_rows;
      elements = λ j in_cols.
          subst (λ F. get_or (get_or M.entries i []) j 0 < 2 ^ F.degree) field (matrix.elements i j in_rows in_cols);
    })

pub IsMatrix-rows : (m n : ℕ) (rows : List (List ℕ)) → length rows ≡ m → AreRows n rows
    → IsMatrix (record { field = gf2; rows = m; cols = n; entries = rows })
IsMatrix-rows m n rows many are =
    let at_row : (i : ℕ) → i < m → AreBits n (get_or rows i []) = λ i below. AreBits-row n rows i are (omega (arith, many)) in
    record {
      over_field = gf2_field;
      height = many;
      width = λ i below. (at_row i below).width;
      elements = λ i j in_rows in_cols. (at_row i in_rows).elements j in_cols;
    }

-- the header line of m x n matrices, and no other text
abbrev pub IsHead : ℕ → ℕ → List ℕ → Type 0
IsHead m n bytes = bytes ≡ header m n

IsPrefixFree-head : (m n : ℕ) → IsPrefixFree (IsHead m n)
IsPrefixFree-head m n = IsPrefixFree-same_length (IsHead m n) (λ a b first second. ap length (first ∙ sym second))

-- a text is a header line and a body
pub head_and_body : (m n : ℕ) (w : List ℕ) → IsTextOf m n w → Joined (IsHead m n) (IsBody m n) w
head_and_body m n w (M, matrix, field, many, wide, e) = (
  header M.rows M.cols,
  flat_map line M.entries,
  ap₂ header many wide,
  subst₂ (λ k l. IsBody k l (flat_map line M.entries)) (matrix.height ∙ many) wide
      (body_of_rows M.cols M.entries (AreRows-matrix M matrix field)),
  e,
)

pub text_of_body : (m n : ℕ) (w : List ℕ) → Joined (IsHead m n) (IsBody m n) w → IsTextOf m n w
text_of_body m n w (a, b, head, body, e) =
    let (rows, many, are, lines) = rows_of_body m n b body in (
      record { field = gf2; rows = m; cols = n; entries = rows },
      IsMatrix-rows m n rows many are,
      refl,
      refl,
      refl,
      e ∙ ap₂ (λ x y. x ++ y) head lines,
    )

-- all texts of m x n matrices have one length
pub length-text : (m n : ℕ) (w : List ℕ) → IsTextOf m n w → length w ≡ length (header m n) + m * (n + 1)
length-text m n w is =
    let (a, b, head, body, e) = head_and_body m n w is in
    omega (arith, ap length e, length-append a b, ap length head, length-body m n b body)

-- lines are a body
pub body_of_bare : (m n : ℕ) (w : List ℕ) → IsBareOf m n w → IsBody m n w
body_of_bare m n w (M, matrix, field, many, wide, e) =
    subst (IsBody m n) (sym e)
    (subst₂ (λ k l. IsBody k l (flat_map line M.entries)) (matrix.height ∙ many) wide
    (body_of_rows M.cols M.entries (AreRows-matrix M matrix field)))

pub bare_of_body : (m n : ℕ) (w : List ℕ) → IsBody m n w → IsBareOf m n w
bare_of_body m n w body =
    let (rows, many, are, lines) = rows_of_body m n w body in
    (record { field = gf2; rows = m; cols = n; entries = rows }, IsMatrix-rows m n rows many are, refl, refl, refl, lines)

-- bytes that begin with a header line, and go wrong in the lines behind it
pub wrong_text : (m n : ℕ) (after : List ℕ) (k : ℕ) → GoesWrong (IsBareOf m n) after k
    → GoesWrong (IsTextOf m n) (header m n ++ after) (length (header m n) + k)
wrong_text m n after k found =
    let body = GoesWrong-same (IsBareOf m n) (IsBody m n) (body_of_bare m n) (bare_of_body m n) after k found in
    GoesWrong-same _ (IsTextOf m n) (text_of_body m n) (head_and_body m n) _ _
    (GoesWrong-second (IsHead m n) (IsBody m n) (IsPrefixFree-head m n) (header m n) refl after k body)

-- what goes wrong isn't a text
pub none_wrong : (P : List ℕ → Type 0) (bytes : List ℕ) (n : ℕ) → GoesWrong P bytes n → P bytes → ⊥
none_wrong P bytes n found whole =
    elim (cases_lt n (length bytes)) [
      | inl inside ↦
          found.longest.longest (length bytes) inside (omega arith) ([], subst P (sym (append-nil _ ∙ take_all (length bytes) bytes (omega arith))) whole)
      | inr end ↦ found.unfinished (subst P (sym (take_all n bytes end)) whole)
    ]

-- bytes that go on behind a text
pub longer_text : (m n : ℕ) (bytes : List ℕ) (k : ℕ) → k < length bytes → IsTextOf m n (take k bytes) → IsWrongText m n bytes k
longer_text m n bytes k inside is =
    let most = length-text m n (take k bytes) is in
    let far : length (take k bytes) ≡ k = length-take-le k bytes (omega arith) in
    record {
      none = λ whole. omega (arith, length-text m n bytes whole, most, far);
      longest = IsLongest-from_next (IsTextOf m n) bytes k (omega arith) ([], subst (IsTextOf m n) (sym (append-nil (take k bytes))) is)
          (λ more goes.
          omega (
            arith,
            length-text m n _ goes.1,
            most,
            far,
            length-append (take (k + 1) bytes) goes.0,
            length-take-le (k + 1) bytes (omega arith),
          ));
    }
