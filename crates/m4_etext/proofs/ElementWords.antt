-- The words of rows of elements, and the digits that spell them.
use Rattle.std.proofs.Common.{◌≡◌, ℕ, suc, [], ◌+◌, ◌-◌, ◌*◌, ◌/◌, ◌%◌, ◌^◌, ◌<◌, ◌≤◌, ◌==◌, ◌||◌, ◌≢◌, inl, inr, false, min, List, length, get_or, take, drop, refl, sym, ◌∙◌, ap, ap₂, subst, arith, IsTrue, mod-eq_of_lt}
use Rattle.std.specs.Int.{bit_at}
use Rattle.std.specs.Fmt.{digit_glyph}
use Rattle.std.proofs.Math.Nat.{div-lt_iff_lt-mul, mul-add-mod_self_right}
use Rattle.std.proofs.lemmas.Nat.{div-add-mod', div-mul-add}
use Rattle.std.proofs.lemmas.Bool.{cases_lt, cases_eq}
use Rattle.std.proofs.lemmas.List.{get_or-map}
use Rattle.std.proofs.lemmas.List.Elements.{All-from_get_or}
use Rattle.std.proofs.lemmas.List.FromFn.{length-map-range_with_len, get_or-map-range_with_len}
use Rattle.m4_model.specs.Field.{Field, width}
use Rattle.m4_model.specs.Matrix.{Matrix, row}
use Rattle.m4_model.specs.Headed.{Elements, row_digits, digits_per_element}
use Rattle.m4_field.proofs.WidthLemmas.{width_facts}
use Rattle.m4_mzed.specs.Packed.{unpacked}
use Rattle.m4_mzed.specs.PackedIn.{IsPackedIn}
use Rattle.m4_mzed.specs.Owned.{e_matrix}
use Rattle.m4_mzed.proofs.IndexLemmas.{AreBits}
use Rattle.m4_mzed.proofs.RowLemmas.{length-unpacked}
use Rattle.m4_mzed.proofs.SumLemmas.{word_element}
use Rattle.m4_etext.specs.Digits.{digit_of_elements, elements_of}
use Rattle.m4_etext.specs.Pieces.{glyphs}
use Rattle.m4_etext.proofs.BitRows.{pow_four}
use Rattle.m4_etext.proofs.RowDigits.{length-row_digits, get_or-elements}
use Rattle.m4_etext.proofs.Pieces.{length-glyphs}
use Rattle.m4_etext.proofs.WrittenRows.{group_is}

-- what holds of each width
last_width : (w : ℕ) → IsTrue (w == 1 || w == 2 || w == 4 || w == 8 || w == 16) → w ≢ 1 → w ≢ 2 → w ≢ 4 → w ≢ 8 → w ≡ 16
last_width w is a b c d = grind arith

pub each_width : (P : ℕ → Type 0) → P 1 → P 2 → P 4 → P 8 → P 16 → (w : ℕ) → IsTrue (w == 1 || w == 2 || w == 4 || w == 8 || w == 16) → P w
each_width P one two four eight sixteen w is =
    elim (cases_eq w 1) [
      | inl e ↦ subst P (sym e) one
      | inr a ↦ elim (cases_eq w 2) [
        | inl e ↦ subst P (sym e) two
        | inr b ↦ elim (cases_eq w 4) [
          | inl e ↦ subst P (sym e) four
          | inr c ↦ elim (cases_eq w 8) [
            | inl e ↦ subst P (sym e) eight
            | inr d ↦ subst P (sym (last_width w is a b c d)) sixteen
          ]
        ]
      ]
    ]

-- a word holds whole elements
pub whole_word : (w : ℕ) → IsTrue (w == 1 || w == 2 || w == 4 || w == 8 || w == 16) → 64 / w * w ≡ 64
whole_word = each_width (λ w. 64 / w * w ≡ 64) refl refl refl refl refl

-- a digit, as it is cut out of its word
pub digit_cut : (w k word p : ℕ) → IsTrue (w == 1 || w == 2 || w == 4 || w == 8 || w == 16)
    → word / 2 ^ (p / k * w) % (1 * 2 ^ w % 2 ^ 64) / 2 ^ (4 * (k - 1 - p % k)) % 16 ≡ digit_of_elements w k word p
digit_cut w k word p is =
    let same : 1 * 2 ^ w % 2 ^ 64 ≡ 2 ^ w = each_width (λ w. 1 * 2 ^ w % 2 ^ 64 ≡ 2 ^ w) refl refl refl refl refl w is in
    ap₂ (λ x y. word / 2 ^ (p / k * w) % x / y % 16) same (pow_four (k - 1 - p % k))

times_le : (a b c : ℕ) → a ≤ b → a * c ≤ b * c
times_le a b c le = grind arith

-- so many digits, of the elements that are left
digits_left : (n w side e k : ℕ) → side * w < n → e ≡ min (n - side * w) side → e * k ≡ min (n * k - side * k * w) (side * k)
digits_left n w side e k inside many =
    let front : side * k * w ≡ side * w * k = grind arith in
    elim (cases_lt (n - side * w) side) [
      | inl few ↦
          let whole : n ≡ side * w + e = omega (arith, inside, many, few) in
          let spread : n * k ≡ side * w * k + e * k = (let s : (side * w + e) * k ≡ side * w * k + e * k = grind arith in ap (λ x. x * k) whole ∙ s) in
          let le = times_le e side k (omega (arith, many)) in
          omega (arith, front, spread, le)
      | inr all ↦
          let is : e ≡ side = omega (arith, many, all) in
          let same : e * k ≡ side * k = ap (λ x. x * k) is in
          let le = times_le (side * w + side) n k (omega (arith, all, inside)) in
          let s : (side * w + side) * k ≡ side * w * k + side * k = grind arith in
          omega (arith, front, same, le, s)
    ]

-- the elements of a word of a row, in so many digits each
module _ (F : Field) (n w k side word e : ℕ) (bits : List ℕ) (long : length bits ≡ n * width F) (are : AreBits bits) (whole : side * width F ≡ 64) (digits : digits_per_element F ≡ k) (some : 0 < k)
    (inside : side * w < n) (many : e ≡ min (n - side * w) side) (reads : (j : ℕ) → j < 64 → bit_at word j ≡ get_or bits (w * 64 + j) 0) where
  -- a digit of the row
  digit_is : (i : ℕ) → i < e * k → side * k * w + i < n * k
      → get_or (row_digits (Elements F) (unpacked (width F) n bits)) (side * k * w + i) 0 ≡ digit_of_elements (width F) k word i
  digit_is i below within =
      let es = unpacked (width F) n bits in
      let t = side * k * w + i in
      let q = side * w + i / k in
      let d = div-add-mod' i k in
      let spread : q * k ≡ side * k * w + i / k * k = grind arith in
      let place : t ≡ q * k + i % k = omega (arith, d, spread) in
      let low : i % k < k = omega (arith, some) in
      let quotient : t / k ≡ w * side + i / k = ap (λ x. x / k) place ∙ div-mul-add q k (i % k) low ∙ (let c : q ≡ w * side + i / k = grind arith in c) in
      let rest : t % k ≡ i % k = ap (λ x. x % k) place ∙ mul-add-mod_self_right q k (i % k) ∙ mod-eq_of_lt low in
      let here : i / k < side = (div-lt_iff_lt-mul some).1 (let le = times_le e side k (omega (arith, many)) in omega (arith, below, le)) in
      let read = get_or-elements F n es (length-unpacked (width F) n bits) (subst (λ x. 0 < x) (sym digits) some) t (subst (λ x. t < n * x) (sym digits) within) in
      subst (λ x. get_or (row_digits (Elements F) es) t 0 ≡ get_or es (t / x) 0 / 16 ^ (x - 1 - t % x) % 16) digits read
      ∙ ap₂ (λ x y. get_or es x 0 / 16 ^ (k - 1 - y) % 16) quotient rest
      ∙ ap (λ x. x / 16 ^ (k - 1 - i % k) % 16) (sym (word_element (width F) side whole n bits long are w word reads (i / k) here))

  pub elements_group : take (side * k) (drop (side * k * w) (glyphs (Elements F) (unpacked (width F) n bits))) ≡ elements_of (width F) k word (e * k)
  elements_group =
      let es = unpacked (width F) n bits in
      let f : ℕ → ℕ = λ p. digit_glyph false (digit_of_elements (width F) k word p) in
      let wide : length es ≡ n = length-unpacked (width F) n bits in
      let long' : length (glyphs (Elements F) es) ≡ n * k = length-glyphs (Elements F) n es wide ∙ ap (λ d. n * d) digits in
      let d : length (row_digits (Elements F) es) ≡ n * k = length-row_digits (Elements F) es ∙ ap₂ (λ a b. a * b) wide digits in
      let room = digits_left n w side e k inside many in
      group_is (glyphs (Elements F) es) (elements_of (width F) k word (e * k)) (side * k) w (e * k) (length-map-range_with_len f 0 (e * k)) (room ∙ ap (λ x. min (x - side * k * w) (side * k)) (sym long')) (λ i below.
      let within : side * k * w + i < n * k = omega (arith, below, room) in
      get_or-map (digit_glyph false) (row_digits (Elements F) es) (side * k * w + i) 0 0 (omega (arith, d, within))
      ∙ ap (digit_glyph false) (digit_is i below within)
      ∙ sym (get_or-map-range_with_len f 0 (e * k) i i 0 below (omega arith)))

-- what is known of a row of a matrix over a field, and of its bits
pub record IsRowOfBits (M B : Matrix) (r wd side k : ℕ) : Type 0 where
  pub packed : IsPackedIn M.field M.cols B
  pub shows : e_matrix M.field M.cols B ≡ M
  pub in_rows : r < B.rows
  pub wide : length (row B r) ≡ B.cols
  pub are : (j : ℕ) → j < B.cols → get_or (row B r) j 0 < 2
  pub width_is : wd ≡ width M.field
  pub side_is : side ≡ 64 / wd
  pub digits : k ≡ digits_per_element M.field
  pub some : 1 ≤ k

module _ (M B : Matrix) (r wd side k : ℕ) (is : IsRowOfBits M B r wd side k) where
  row_shown : row M r ≡ unpacked (width M.field) M.cols (row B r)
  row_shown =
      ap (λ (A : Matrix). row A r) (sym is.shows)
      ∙ get_or-map (unpacked (width M.field) M.cols) B.entries r [] [] (let c = is.packed.count in let i = is.in_rows in omega (arith, c, i))

  bits_long : length (row B r) ≡ M.cols * width M.field
  bits_long = is.wide ∙ is.packed.wide

  bits_are : AreBits (row B r)
  bits_are = All-from_get_or (λ b. b < 2) (row B r) 0 (λ j below. is.are j (let w = is.wide in omega (arith, w, below)))

  pub whole : side * width M.field ≡ 64
  whole = ap (λ x. x * width M.field) (is.side_is ∙ ap (λ x. 64 / x) is.width_is) ∙ (width_facts M.field is.packed.carried).whole

  -- a word before the last one has elements
  pub some_elements : (w : ℕ) → 64 * w < B.cols → side * w < M.cols
  some_elements w inside = elim (cases_lt (side * w) M.cols) [
    | inl below ↦ below
    | inr past ↦
        let le = times_le M.cols (side * w) (width M.field) past in
        let e : side * w * width M.field ≡ w * (side * width M.field) = grind arith in
        let f : w * (side * width M.field) ≡ w * 64 = ap (λ x. w * x) whole in
        absurd (let p = is.packed.wide in omega (arith, inside, le, e, f, p))
  ]

  -- the digits of a word
  pub word_group : (w word e : ℕ) → 64 * w < B.cols → e ≡ min (M.cols - side * w) side
      → ((j : ℕ) → j < 64 → bit_at word j ≡ get_or (row B r) (w * 64 + j) 0)
      → take (side * k) (drop (side * k * w) (glyphs (Elements M.field) (row M r))) ≡ elements_of wd k word (e * k)
  word_group w word e inside many reads =
      ap (λ es. take (side * k) (drop (side * k * w) (glyphs (Elements M.field) es))) row_shown
      ∙ elements_group M.field M.cols w k side word e (row B r) bits_long bits_are whole (sym is.digits) is.some (some_elements w inside) many reads
      ∙ ap (λ x. elements_of x k word (e * k)) (sym is.width_is)

  -- all words have all digits
  pub all_digits : (w : ℕ) → B.cols ≤ 64 * w → length (glyphs (Elements M.field) (row M r)) ≤ side * k * w
  all_digits w past =
      let wide : length (row M r) ≡ M.cols = ap length row_shown ∙ length-unpacked (width M.field) M.cols (row B r) in
      let long : length (glyphs (Elements M.field) (row M r)) ≡ M.cols * k = length-glyphs (Elements M.field) M.cols (row M r) wide ∙ ap (λ d. M.cols * d) (sym is.digits) in
      let e : side * w * width M.field ≡ w * (side * width M.field) = grind arith in
      let f : w * (side * width M.field) ≡ w * 64 = ap (λ x. w * x) whole in
      let p = is.packed.wide in
      let all : M.cols ≤ side * w = fewer M.cols (side * w) (width M.field) (width_facts M.field is.packed.carried).some (omega (arith, past, e, f, p)) in
      let le = times_le M.cols (side * w) k all in
      let s : side * w * k ≡ side * k * w = grind arith in
      omega (arith, long, le, s)
    where
      fewer : (a b c : ℕ) → 0 < c → a * c ≤ b * c → a ≤ b
      fewer a b c pos le = elim (cases_lt b a) [
        | inr below ↦ below
        | inl past ↦ absurd (let t : suc b * c ≤ a * c = times_le (suc b) a c past in let s : suc b * c ≡ b * c + c = grind arith in omega (arith, t, s, le, pos))
      ]
