-- A headed text is read as one matrix.
use Rattle.std.proofs.Common.{◌≡◌, ℕ, zero, suc, ◌+◌, ◌-◌, ◌*◌, ◌/◌, ◌%◌, ◌^◌, ◌<◌, ◌≤◌, false, List, [], ◌∷◌, ◌++◌, flat_map, length, get_or, refl, sym, ◌∙◌, ap, ap₂, subst, arith, length-append}
use Rattle.std.specs.Fmt.{digit_glyph}
use Rattle.std.proofs.Math.Nat.{div-div-eq-div-mul}
use Rattle.std.proofs.Math.Pow.{pow_mono}
use Rattle.std.proofs.lemmas.Grind.{same_number_lists}
use Rattle.std.proofs.lemmas.List.{append_cancel_left, append_cancel_right, get_or-map}
use Rattle.m4_model.specs.Field.{Field, IsExtension}
use Rattle.m4_model.specs.Matrix.{Matrix}
use Rattle.m4_model.proofs.MatrixLemmas.{same_parts as same_matrices}
use Rattle.m4_model.specs.Headed.{Spelling, Bits, Fours, Elements, HasField, Reads, field_of, header, line, row_digits, element_digits, digit_of_four, digits_per_element}
use Rattle.m4_etext.specs.Pieces.{digits_in, IsRow, glyphs}
use Rattle.m4_etext.proofs.BitRows.{pow_four}
use Rattle.m4_etext.proofs.Fronts.{IsPrefixFree-same_length, same_parts}
use Rattle.m4_etext.proofs.Numerals.{glyph_injective}
use Rattle.m4_etext.proofs.Once.{own_text, same_sizes}
use Rattle.m4_etext.proofs.Pieces.{length-glyphs}
use Rattle.m4_etext.proofs.RowDigits.{get_or-flat, length-element_digits, get_or-element_digits, length-row_digits, get_or-fours, bit_or_none, may_stand}
use Rattle.m4_etext.proofs.Rows.{row_is}

-- four bits are told by their number
four_once : (a b c d p q r s : ℕ) → a < 2 → b < 2 → c < 2 → d < 2 → p < 2 → q < 2 → r < 2 → s < 2
    → a + 2 * b + 4 * c + 8 * d ≡ p + 2 * q + 4 * r + 8 * s → (a ≡ p) × (b ≡ q) × (c ≡ r) × (d ≡ s)
four_once a b c d p q r s la lb lc ld lp lq lr ls e = (omega arith, omega arith, omega arith, omega arith)

-- a number is told by its digits of four bits
sixteens_once : (k x y : ℕ) → x < 16 ^ k → y < 16 ^ k → ((v : ℕ) → v < k → x / 16 ^ v % 16 ≡ y / 16 ^ v % 16) → x ≡ y
sixteens_once zero x y small small' same = omega arith
sixteens_once (suc k) x y small small' same =
    let low : x % 16 ≡ y % 16 = let e = same 0 (omega arith) in omega arith in
    let step : 16 ^ suc k ≡ 16 * 16 ^ k = omega arith in
    let high : x / 16 ≡ y / 16 = sixteens_once k (x / 16) (y / 16) (omega (arith, small, step)) (omega (arith, small', step))
    (λ v below.
    let p : 16 * 16 ^ v ≡ 16 ^ suc v = omega arith in
    ap (λ n. n % 16) (div-div-eq-div-mul x 16 (16 ^ v) ∙ ap (λ n. x / n) p) ∙ same (suc v) (omega (arith, below))
    ∙ ap (λ n. n % 16) (sym (div-div-eq-div-mul y 16 (16 ^ v) ∙ ap (λ n. y / n) p))) in
    omega (arith, low, high)

-- a row is told by its digits
module _ (n : ℕ) (xs ys : List ℕ) where
  abbrev SameDigits : Spelling → Type 0
  SameDigits S = (t : ℕ) → t < digits_in S n → get_or (row_digits S xs) t 0 ≡ get_or (row_digits S ys) t 0

  fours_once : IsRow (field_of Fours) n xs → IsRow (field_of Fours) n ys → SameDigits Fours → (j : ℕ) → j < n → get_or xs j 0 ≡ get_or ys j 0
  fours_once is is' same j below =
      let t = j / 4 in
      let inside : t < (n + 3) / 4 = omega (arith, below) in
      let number : digit_of_four xs t ≡ digit_of_four ys t =
      sym (get_or-fours xs t (subst (λ m. t < (m + 3) / 4) (sym is.wide) inside)) ∙ same t inside ∙ get_or-fours ys t (subst (λ m. t < (m + 3) / 4) (sym is'.wide) inside) in
      let x : (i : ℕ) → get_or xs i 0 < 2 = λ i. (bit_or_none n xs is i).0 in
      let y : (i : ℕ) → get_or ys i 0 < 2 = λ i. (bit_or_none n ys is' i).0 in
      let four = four_once _ _ _ _ _ _ _ _ (x (4 * t)) (x (4 * t + 1)) (x (4 * t + 2)) (x (4 * t + 3)) (y (4 * t)) (y (4 * t + 1)) (y (4 * t + 2)) (y (4 * t + 3)) number in
      at (j % 4) refl four
    where
      Here : ℕ → Type 0
      Here i = get_or xs i 0 ≡ get_or ys i 0

      at : (i : ℕ) → j % 4 ≡ i → Here (4 * (j / 4)) × Here (4 * (j / 4) + 1) × Here (4 * (j / 4) + 2) × Here (4 * (j / 4) + 3) → Here j
      at zero is_place four = let e : 4 * (j / 4) ≡ j = omega arith in subst Here e four.0
      at (suc zero) is_place four = let e : 4 * (j / 4) + 1 ≡ j = omega arith in subst Here e four.1
      at (suc (suc zero)) is_place four = let e : 4 * (j / 4) + 2 ≡ j = omega arith in subst Here e four.2
      at (suc (suc (suc zero))) is_place four = let e : 4 * (j / 4) + 3 ≡ j = omega arith in subst Here e four.3
      at (suc (suc (suc (suc i)))) is_place four = absurd (omega arith)

  elements_once : (F : Field) → IsExtension F → IsRow F n xs → IsRow F n ys → SameDigits (Elements F) → (j : ℕ) → j < n → get_or xs j 0 ≡ get_or ys j 0
  elements_once F field is is' same j below =
      let k = digits_per_element F in
      let wide = is.wide in
      let wide' = is'.wide in
      let most : 2 ^ F.degree ≤ 16 ^ k = subst (λ m. 2 ^ F.degree ≤ m) (pow_four k) (pow_mono {i = F.degree} {j = 4 * k} (omega arith)) in
      let x_small = is.elements j below in
      let y_small = is'.elements j below in
      sixteens_once k (get_or xs j 0) (get_or ys j 0) (omega (arith, most, x_small)) (omega (arith, most, y_small))
      (λ v inside.
      let i = k - 1 - v in
      let there : i < k = omega (arith, inside) in
      let back : k - 1 - i ≡ v = omega (arith, inside) in
      let place : j * k + i < n * k = lower j n k i below there in
      ap (λ u. get_or xs j 0 / 16 ^ u % 16) (sym back)
      ∙ sym (get_or-element_digits F (get_or xs j 0) i there)
      ∙ sym (get_or-flat (element_digits F) k (length-element_digits F) xs j i (omega (arith, wide, below)) there)
      ∙ same (j * k + i) place
      ∙ get_or-flat (element_digits F) k (length-element_digits F) ys j i (omega (arith, wide', below)) there
      ∙ get_or-element_digits F (get_or ys j 0) i there
      ∙ ap (λ u. get_or ys j 0 / 16 ^ u % 16) back)
    where
      lower : (j n k i : ℕ) → j < n → i < k → j * k + i < n * k
      lower j n k i less small = let e : suc j * k ≤ n * k = grind arith in let f : suc j * k ≡ j * k + k = omega arith in omega (arith, e, f)

  row_once : (S : Spelling) → HasField S → IsRow (field_of S) n xs → IsRow (field_of S) n ys → SameDigits S → xs ≡ ys
  row_once Bits has is is' same = same_number_lists xs ys (is.wide ∙ sym is'.wide) (λ j below. same j (subst (λ m. j < m) is.wide below))
  row_once Fours has is is' same = same_number_lists xs ys (is.wide ∙ sym is'.wide) (λ j below. fours_once is is' same j (subst (λ m. j < m) is.wide below))
  row_once (Elements F) has is is' same = same_number_lists xs ys (is.wide ∙ sym is'.wide) (λ j below. elements_once F has is is' same j (subst (λ m. j < m) is.wide below))

-- a line tells its row
line_once : (S : Spelling) (n : ℕ) (xs ys : List ℕ) → HasField S → IsRow (field_of S) n xs → IsRow (field_of S) n ys → line S xs ≡ line S ys → xs ≡ ys
line_once S n xs ys has is is' e =
    let same : glyphs S xs ≡ glyphs S ys = append_cancel_right (glyphs S xs) (glyphs S ys) (10 ∷ []) e in
    row_once n xs ys S has is is'
    (λ t below.
    let x_in : t < length (row_digits S xs) = rw (length-row_digits S xs, is.wide) below in
    let y_in : t < length (row_digits S ys) = rw (length-row_digits S ys, is'.wide) below in
    glyph_injective (get_or (row_digits S xs) t 0) (get_or (row_digits S ys) t 0) (may_stand S n xs is t below).0 (may_stand S n ys is' t below).0
    (sym (get_or-map (digit_glyph false) (row_digits S xs) t 0 0 x_in) ∙ ap (λ l. get_or l t 0) same ∙ get_or-map (digit_glyph false) (row_digits S ys) t 0 0 y_in))

-- lines tell their rows
lines_once : (S : Spelling) (n : ℕ) → HasField S → (xs ys : List (List ℕ)) → length xs ≡ length ys
    → ((i : ℕ) → i < length xs → IsRow (field_of S) n (get_or xs i [])) → ((i : ℕ) → i < length ys → IsRow (field_of S) n (get_or ys i []))
    → flat_map (line S) xs ≡ flat_map (line S) ys → xs ≡ ys
lines_once S n has [] [] long are are' e = refl
lines_once S n has [] (y ∷ ys) long are are' e = absurd (omega arith)
lines_once S n has (x ∷ xs) [] long are are' e = absurd (omega arith)
lines_once S n has (x ∷ xs) (y ∷ ys) long are are' e =
    let is = are 0 (omega arith) in
    let is' = are' 0 (omega arith) in
    let P : List ℕ → Type 0 = λ w. length w ≡ digits_in S n + 1 in
    let x_long : length (line S x) ≡ digits_in S n + 1 = length-append (glyphs S x) (10 ∷ []) ∙ ap (λ k. k + 1) (length-glyphs S n x is.wide) in
    let y_long : length (line S y) ≡ digits_in S n + 1 = length-append (glyphs S y) (10 ∷ []) ∙ ap (λ k. k + 1) (length-glyphs S n y is'.wide) in
    let parts = same_parts P (IsPrefixFree-same_length P (λ a b p q. p ∙ sym q)) (line S x) (flat_map (line S) xs) (line S y) (flat_map (line S) ys) x_long y_long e in
    ap₂ (λ h t. h ∷ t) (line_once S n x y has is is' parts.0)
    (lines_once S n has xs ys (omega (arith, long)) (λ i below. are (suc i) (omega (arith, below))) (λ i below. are' (suc i) (omega (arith, below))) parts.1)

-- a text tells its matrix
pub read_once : (bytes : List ℕ) (A B : Matrix) → Reads bytes A → Reads bytes B → A ≡ B
read_once bytes A B first second =
    let (S, own) = own_text bytes A first in
    let (T, other) = own_text bytes B second in
    let same = same_sizes bytes S T A.rows A.cols B.rows B.cols own.begins other.begins in
    let field : A.field ≡ B.field = own.field ∙ ap field_of same.spelling ∙ sym other.field in
    let head : header T B.rows B.cols ≡ header S A.rows A.cols = ap (λ U. header U B.rows B.cols) (sym same.spelling) ∙ ap₂ (header S) (sym same.rows) (sym same.cols) in
    let body : flat_map (line S) A.entries ≡ flat_map (line S) B.entries =
    append_cancel_left (header S A.rows A.cols) (flat_map (line S) A.entries) (flat_map (line S) B.entries)
    (sym own.spelled ∙ other.spelled ∙ ap₂ (λ h U. h ++ flat_map (line U) B.entries) head (sym same.spelling)) in
    let a = first.accepted.matrix in
    let b = second.accepted.matrix in
    let entries : A.entries ≡ B.entries = lines_once S A.cols own.has_field A.entries B.entries (a.height ∙ same.rows ∙ sym b.height)
    (λ i below. subst (λ F. IsRow F A.cols (get_or A.entries i [])) own.field (row_is A i a (subst (λ m. i < m) a.height below)))
    (λ i below. subst (λ F. IsRow F A.cols (get_or B.entries i [])) (sym field ∙ own.field)
    (subst (λ n. IsRow B.field n (get_or B.entries i [])) (sym same.cols) (row_is B i b (subst (λ m. i < m) b.height below)))) body in
    same_matrices A B field same.rows same.cols entries
