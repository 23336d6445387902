-- Words of elements, written to rows.
use Rattle.std.proofs.Common.{◌≡◌, ℕ, suc, ◌+◌, ◌-◌, ◌*◌, ◌/◌, ◌%◌, ◌^◌, ◌<◌, ◌≤◌, inl, inr, false, min, List, length, get_or, take, get_or-take, sym, ◌∙◌, ap, ap₂, subst, arith, cond, nat_eq, mod-eq_of_lt}
use Rattle.std.specs.Int.{bit_at}
use Rattle.std.specs.List.{All}
use Rattle.std.specs.Fmt.{digit_glyph}
use Rattle.std.proofs.Math.Nat.{div-lt_iff_lt-mul, mul-add-mod_self_right}
use Rattle.std.proofs.lemmas.Nat.{div-add-mod', div-mul-add}
use Rattle.std.proofs.lemmas.Nat.Bits.{bit_at-lt}
use Rattle.std.proofs.lemmas.Bool.{cases_eq, cond-true, cond-false, eq-eqb, ne_eqb}
use Rattle.std.proofs.lemmas.List.{length-take-le}
use Rattle.std.proofs.lemmas.List.Elements.{All-from_get_or, All-get_or}
use Rattle.std.proofs.lemmas.List.FromFn.{length-map-range_with_len, get_or-map-range_with_len}
use Rattle.m4_model.specs.Field.{Field, IsCarried, IsElement, width}
use Rattle.m4_model.specs.Matrix.{Matrix, IsMatrix, row, with_row}
use Rattle.m4_model.specs.Headed.{Elements, row_digits, digits_per_element}
use Rattle.m4_field.proofs.WidthLemmas.{width_facts}
use Rattle.m4_mzd.specs.Rows.{with_word}
use Rattle.m4_mzd.specs.Window.{Window, IsWindow}
use Rattle.m4_mzd.specs.Window.{content as bit_content, showing as bit_showing}
use Rattle.m4_mzed.specs.EWindow.{EWindow, content, showing}
use Rattle.m4_mzed.specs.Packed.{unpacked, elements, IsPackedRow, IsPacked}
use Rattle.m4_mzed.specs.Words.{element, AreElements}
use Rattle.m4_mzed.proofs.EntryLemmas.{row_bits, packed_row, row_of_elements}
use Rattle.m4_mzed.proofs.IndexLemmas.{AreBits, element_at, element_bit, element_small, unpacked_is}
use Rattle.m4_mzed.proofs.PartLemmas.{packed_written, elements_written}
use Rattle.m4_mzed.proofs.RowLemmas.{length-unpacked}
use Rattle.m4_mzed.proofs.SumLemmas.{length-with_word}
use Rattle.m4_mzed.proofs.WordLemmas.{element-lt, bit_at-element}
use Rattle.m4_etext.specs.Place.{IsValue}
use Rattle.m4_etext.specs.Pieces.{IsRow, ReadsDigits}
use Rattle.m4_etext.specs.Digits.{digit_of_elements}
use Rattle.m4_etext.specs.ElementWords.{with_elements}
use Rattle.m4_etext.proofs.Rows.{row_is}
use Rattle.m4_etext.proofs.RowDigits.{get_or-elements}
use Rattle.m4_etext.proofs.BitRows.{front_many}

times_le : (a b c : ℕ) → a ≤ b → a * c ≤ b * c
times_le a b c le = grind arith

-- an entry of a row with a word of elements
entry_is : (w v word : ℕ) (es : List ℕ) (c : ℕ) → c < length es
    → get_or (with_elements w v word es) c 0 ≡ cond (nat_eq (c / (64 / w)) v) (element w (c % (64 / w)) word) (get_or es c 0)
entry_is w v word es c inside = get_or-map-range_with_len _ 0 (length es) c c 0 inside (omega arith)

length-with_elements : (w v word : ℕ) (es : List ℕ) → length (with_elements w v word es) ≡ length es
length-with_elements w v word es = length-map-range_with_len _ 0 (length es)

-- a row of bits with a word
module _ (F : Field) (n v word : ℕ) (xs : List ℕ) (p : IsPackedRow F n xs) (bits : AreBits xs) (whole : 64 / width F * width F ≡ 64) (some : 0 < 64 / width F) (are : AreElements F (width F) word) where
  bit_is : (q : ℕ) → q < length xs → get_or (with_word v word xs) q 0 ≡ cond (nat_eq (q / 64) v) (bit_at word (q % 64)) (get_or xs q 0)
  bit_is q inside = get_or-map-range_with_len _ 0 (length xs) q q 0 inside (omega arith)

  long : length (with_word v word xs) ≡ n * width F
  long = length-with_word v word xs ∙ p.long

  new_bits : AreBits (with_word v word xs)
  new_bits = All-from_get_or (λ b. b < 2) (with_word v word xs) 0 (λ q inside.
      let l = length-with_word v word xs in
      let within : q < length xs = omega (arith, l, inside) in
      elim (cases_eq (q / 64) v) [
        | inl here ↦ subst (λ b. b < 2) (sym (bit_is q within ∙ cond-true _ _ _ (eq-eqb (q / 64) v here))) (bit_at-lt word (q % 64))
        | inr away ↦ subst (λ b. b < 2) (sym (bit_is q within ∙ cond-false _ _ _ (ne_eqb (q / 64) v away))) (All-get_or (λ b. b < 2) xs q 0 within bits)
      ])

  count : length (with_elements (width F) v word (unpacked (width F) n xs)) ≡ n
  count = length-with_elements (width F) v word (unpacked (width F) n xs) ∙ length-unpacked (width F) n xs

  new_entry : (j : ℕ) → j < n → get_or (with_elements (width F) v word (unpacked (width F) n xs)) j 0
      ≡ cond (nat_eq (j / (64 / width F)) v) (element (width F) (j % (64 / width F)) word) (get_or (unpacked (width F) n xs) j 0)
  new_entry j below = entry_is (width F) v word (unpacked (width F) n xs) j (let l = length-unpacked (width F) n xs in omega (arith, l, below))

  -- what holds of the old entries and of the word's elements
  each : (P : ℕ → Type 0) → ((j : ℕ) → j < n → P (get_or (unpacked (width F) n xs) j 0)) → ((i : ℕ) → i < 64 / width F → P (element (width F) i word))
      → (j : ℕ) → j < n → P (get_or (with_elements (width F) v word (unpacked (width F) n xs)) j 0)
  each P old new j below = elim (cases_eq (j / (64 / width F)) v) [
    | inl here ↦ subst P (sym (new_entry j below ∙ cond-true _ _ _ (eq-eqb (j / (64 / width F)) v here))) (new (j % (64 / width F)) (let s = some in omega (arith, s)))
    | inr away ↦ subst P (sym (new_entry j below ∙ cond-false _ _ _ (ne_eqb (j / (64 / width F)) v away))) (old j below)
  ]

  -- the place of a bit of an element
  bit_place : (j u : ℕ) → u < width F → (((j * width F + u) / 64 ≡ j / (64 / width F)) × ((j * width F + u) % 64 ≡ j % (64 / width F) * width F + u))
  bit_place j u small =
      let side = 64 / width F in
      let d = div-add-mod' j side in
      let low : j % side < side = let s = some in omega (arith, s) in
      let le : suc (j % side) * width F ≤ side * width F = times_le (suc (j % side)) side (width F) low in
      let s : suc (j % side) * width F ≡ j % side * width F + width F = omega arith in
      let w = whole in
      let room : j % side * width F + u < 64 = omega (arith, le, s, small, w) in
      let first : j * width F ≡ j / side * (side * width F) + j % side * width F = ap (λ x. x * width F) (sym d) ∙ spread (j / side) side (j % side) (width F) in
      let second : j / side * (side * width F) ≡ j / side * 64 = ap (λ x. j / side * x) whole in
      let place : j * width F + u ≡ j / side * 64 + (j % side * width F + u) = omega (arith, first, second) in
      (ap (λ x. x / 64) place ∙ div-mul-add (j / side) 64 (j % side * width F + u) room, ap (λ x. x % 64) place ∙ mul-add-mod_self_right (j / side) 64 (j % side * width F + u) ∙ mod-eq_of_lt room)
    where
      spread : (q m r c : ℕ) → (q * m + r) * c ≡ q * (m * c) + r * c
      spread q m r c = grind arith

  pub word_unpacked : unpacked (width F) n (with_word v word xs) ≡ with_elements (width F) v word (unpacked (width F) n xs)
  word_unpacked =
      unpacked_is (width F) n (with_word v word xs) long new_bits _ count
      (each (λ x. x < 2 ^ width F) (λ j below. element_small (width F) n xs p.long bits j below) (λ i below. element-lt (width F) i word))
      (λ j u below small.
      let place = bit_place j u small in
      let le : suc j * width F ≤ n * width F = times_le (suc j) n (width F) below in
      let s : suc j * width F ≡ j * width F + width F = omega arith in
      let within : j * width F + u < length xs = (let l = p.long in omega (arith, l, le, s, small)) in
      bit_is (j * width F + u) within
      ∙ (elim (cases_eq (j / (64 / width F)) v) [
        | inl here ↦
            cond-true _ _ _ (eq-eqb ((j * width F + u) / 64) v (place.0 ∙ here)) ∙ ap (bit_at word) place.1
            ∙ sym (bit_at-element (width F) (j % (64 / width F)) word u small)
            ∙ ap (λ x. bit_at x u) (sym (new_entry j below ∙ cond-true _ _ _ (eq-eqb (j / (64 / width F)) v here)))
        | inr away ↦
            cond-false _ _ _ (ne_eqb ((j * width F + u) / 64) v (λ same. away (sym place.0 ∙ same)))
            ∙ sym (element_bit (width F) n xs p.long bits j u below small)
            ∙ ap (λ x. bit_at x u) (sym (new_entry j below ∙ cond-false _ _ _ (ne_eqb (j / (64 / width F)) v away)))
      ]))

  pub word_packed : IsPackedRow F n (with_word v word xs)
  word_packed = record {
    long = long;
    elements = let P : List ℕ → Type 0 = All (IsElement F) in
        subst P (sym word_unpacked) (All-from_get_or (IsElement F) _ 0 (λ j inside.
        each (IsElement F) (λ j below. element_at F (unpacked (width F) n xs) j p.elements) (λ i below. are i below) j (let c = count in omega (arith, c, inside))));
  }

-- what is known where a word of elements is written, over plain variables
pub record IsSet (F : Field) (n : ℕ) (x dst : EWindow) (W N : Window) (r v word : ℕ) : Type 0 where
  pub whole : x ≡ dst
  pub packed : IsPacked x.field x.cols W
  pub shows : elements x.field x.cols W ≡ x
  pub field_is : F ≡ dst.field
  pub cols_is : n ≡ dst.cols
  pub shape : IsWindow W
  pub in_rows : r < dst.rows
  pub are : AreElements dst.field (width dst.field) word
  pub kept : N ≡ bit_showing W (with_row (bit_content W) r (with_word v word (row (bit_content W) r)))

-- a word holds an element
some_side : (F : Field) → IsCarried F → 0 < 64 / width F
some_side F carried =
    let whole = (width_facts F carried).whole in
    elim (cases_eq (64 / width F) 0) [
      | inr away ↦ omega (arith, away)
      | inl none ↦ let z = ap (λ y. y * width F) none in absurd (omega (arith, z, whole))
    ]

module _ (F : Field) (n : ℕ) (x dst : EWindow) (W N : Window) (r v word : ℕ) (g : IsSet F n x dst W N r v word) where
  below : r < W.rows
  below =
      let a = ap (λ (w : EWindow). w.rows) (g.shows ∙ g.whole) in
      let b = g.in_rows in
      omega (arith, a, b)

  are : AreElements x.field (width x.field) word
  are = subst (λ (w : EWindow). AreElements w.field (width w.field) word) (sym g.whole) g.are

  whole : 64 / width x.field * width x.field ≡ 64
  whole = (width_facts x.field g.packed.carried).whole

  some : 0 < 64 / width x.field
  some = some_side x.field g.packed.carried

  packed : IsPackedRow x.field x.cols (row (bit_content W) r)
  packed = packed_row x.field x.cols W g.packed r below

  bits : AreBits (row (bit_content W) r)
  bits = row_bits W r g.shape below

  pub set_packed : IsPacked F n N
  set_packed =
      let P : Field → Type 0 = λ H. IsPacked H n N in
      let Q : ℕ → Type 0 = λ k. IsPacked x.field k N in
      let field : F ≡ x.field = g.field_is ∙ sym (ap (λ (w : EWindow). w.field) g.whole) in
      let cols : n ≡ x.cols = g.cols_is ∙ sym (ap (λ (w : EWindow). w.cols) g.whole) in
      subst P (sym field) (subst Q (sym cols) (packed_written x.field x.cols W g.packed r _ N (word_packed x.field x.cols v word (row (bit_content W) r) packed bits whole some are) g.kept))

  pub set_elements : elements F n N ≡ showing dst (with_row (content dst) r (with_elements (width dst.field) v word (row (content dst) r)))
  set_elements =
      let field : F ≡ x.field = g.field_is ∙ sym (ap (λ (w : EWindow). w.field) g.whole) in
      let cols : n ≡ x.cols = g.cols_is ∙ sym (ap (λ (w : EWindow). w.cols) g.whole) in
      ap₂ (λ (H : Field) (k : ℕ). elements H k N) field cols
      ∙ elements_written x.field x.cols W g.packed r _ N g.kept
      ∙ ap (λ l. showing (elements x.field x.cols W) (with_row (content (elements x.field x.cols W)) r l))
      (word_unpacked x.field x.cols v word (row (bit_content W) r) packed bits whole some are
      ∙ ap (with_elements (width x.field) v word) (sym (row_of_elements x.field x.cols W g.packed r below)))
      ∙ ap (λ (w : EWindow). showing w (with_row (content w) r (with_elements (width w.field) v word (row (content w) r)))) (g.shows ∙ g.whole)

-- what is known where a word of elements is read
pub record IsTaken (A new : Matrix) (r t len k : ℕ) (word : ℕ) (bytes : List ℕ) : Type 0 where
  pub old : IsRow A.field A.cols (row A r)
  pub digits : k ≡ digits_per_element A.field
  pub some : 0 < k
  pub side : 0 < 64 / width A.field
  pub starts : t % (64 / width A.field * k) ≡ 0
  pub in_line : t < A.cols * k
  pub many : len ≡ min (A.cols * k - t) (64 / width A.field * k)
  pub enough : len ≤ length bytes
  pub are : AreElements A.field (width A.field) word
  pub values : (i : ℕ) → i < len → IsValue (get_or bytes i 0) (digit_of_elements (width A.field) k word i)
  pub changed : new ≡ with_row A r (with_elements (width A.field) (t / (64 / width A.field * k)) word (row A r))

module _ (A new : Matrix) (r t len k : ℕ) (word : ℕ) (bytes : List ℕ) (g : IsTaken A new r t len k word bytes) where
  side : ℕ
  side = 64 / width A.field

  v : ℕ
  v = t / (64 / width A.field * k)

  es : List ℕ
  es = with_elements (width A.field) (t / (64 / width A.field * k)) word (row A r)

  wide : length (with_elements (width A.field) (t / (64 / width A.field * k)) word (row A r)) ≡ A.cols
  wide = length-with_elements (width A.field) (t / (64 / width A.field * k)) word (row A r) ∙ g.old.wide

  entry : (c : ℕ) → c < A.cols → get_or (with_elements (width A.field) (t / (64 / width A.field * k)) word (row A r)) c 0
      ≡ cond (nat_eq (c / (64 / width A.field)) (t / (64 / width A.field * k))) (element (width A.field) (c % (64 / width A.field)) word) (get_or (row A r) c 0)
  entry c below = entry_is (width A.field) (t / (64 / width A.field * k)) word (row A r) c (let w = g.old.wide in omega (arith, w, below))

  elements_are : (j : ℕ) → j < A.cols → IsElement A.field (get_or (with_elements (width A.field) (t / (64 / width A.field * k)) word (row A r)) j 0)
  elements_are j below =
      let P : ℕ → Type 0 = IsElement A.field in
      elim (cases_eq (j / (64 / width A.field)) (t / (64 / width A.field * k))) [
        | inl here ↦ subst P (sym (entry j below ∙ cond-true _ _ _ (eq-eqb _ _ here))) (g.are (j % (64 / width A.field)) (let s = g.side in omega (arith, s)))
        | inr away ↦ subst P (sym (entry j below ∙ cond-false _ _ _ (ne_eqb _ _ away))) (g.old.elements j below)
      ]

  -- the place of the word
  start : t ≡ t / (64 / width A.field * k) * (64 / width A.field) * k
  start =
      let d = div-add-mod' t (64 / width A.field * k) in
      let z = g.starts in
      let s : t / (64 / width A.field * k) * (64 / width A.field * k) ≡ t / (64 / width A.field * k) * (64 / width A.field) * k = grind arith in
      omega (arith, d, z, s)

  -- a digit of a row
  digit_at : (xs : List ℕ) → length xs ≡ A.cols → (p : ℕ) → p < A.cols * k → get_or (row_digits (Elements A.field) xs) p 0 ≡ get_or xs (p / k) 0 / 16 ^ (k - 1 - p % k) % 16
  digit_at xs long p below =
      subst (λ d. get_or (row_digits (Elements A.field) xs) p 0 ≡ get_or xs (p / d) 0 / 16 ^ (d - 1 - p % d) % 16) (sym g.digits)
      (get_or-elements A.field A.cols xs long (subst (λ d. 0 < d) g.digits g.some) p (subst (λ d. p < A.cols * d) g.digits below))

  -- digits before the word are as they were
  before : (j : ℕ) → j < t → get_or (row_digits (Elements A.field) (with_elements (width A.field) (t / (64 / width A.field * k)) word (row A r))) j 0 ≡ get_or (row_digits (Elements A.field) (row A r)) j 0
  before j front =
      let l = g.in_line in
      let within : j < A.cols * k = omega (arith, l, front) in
      let inside : j / k < A.cols = (div-lt_iff_lt-mul g.some).1 within in
      let s = start in
      let first : j / k < t / (64 / width A.field * k) * (64 / width A.field) = (div-lt_iff_lt-mul g.some).1 (omega (arith, s, front)) in
      let second : j / k / (64 / width A.field) < t / (64 / width A.field * k) = (div-lt_iff_lt-mul g.side).1 first in
      digit_at _ wide j within
      ∙ ap (λ x. x / 16 ^ (k - 1 - j % k) % 16) (entry (j / k) inside ∙ cond-false _ _ _ (ne_eqb (j / k / (64 / width A.field)) (t / (64 / width A.field * k)) (λ same. omega (arith, same, second))))
      ∙ sym (digit_at (row A r) g.old.wide j within)

  room : t + len ≤ A.cols * k
  room = let m = g.many in let l = g.in_line in omega (arith, m, l)

  -- and those of the word are read
  read : (i : ℕ) → i < len → get_or (row_digits (Elements A.field) (with_elements (width A.field) (t / (64 / width A.field * k)) word (row A r))) (t + i) 0 ≡ digit_of_elements (width A.field) k word i
  read i below =
      let q = t / (64 / width A.field * k) in
      let m = g.many in
      let positive = g.some in
      let e = room in
      let within : t + i < A.cols * k = omega (arith, e, below) in
      let d = div-add-mod' i k in
      let low : i % k < k = omega (arith, positive) in
      let s = start in
      let spread : (q * (64 / width A.field) + i / k) * k ≡ q * (64 / width A.field) * k + i / k * k = grind arith in
      let place : t + i ≡ (q * (64 / width A.field) + i / k) * k + i % k = omega (arith, d, s, spread) in
      let quotient : (t + i) / k ≡ q * (64 / width A.field) + i / k = ap (λ x. x / k) place ∙ div-mul-add (q * (64 / width A.field) + i / k) k (i % k) low in
      let rest : (t + i) % k ≡ i % k = ap (λ x. x % k) place ∙ mul-add-mod_self_right (q * (64 / width A.field) + i / k) k (i % k) ∙ mod-eq_of_lt low in
      let few : i / k < 64 / width A.field = (div-lt_iff_lt-mul g.some).1 (omega (arith, m, below)) in
      let inside : q * (64 / width A.field) + i / k < A.cols = subst (λ x. x < A.cols) quotient ((div-lt_iff_lt-mul g.some).1 within) in
      let here : (q * (64 / width A.field) + i / k) / (64 / width A.field) ≡ q = div-mul-add q (64 / width A.field) (i / k) few in
      let which : (q * (64 / width A.field) + i / k) % (64 / width A.field) ≡ i / k = mul-add-mod_self_right q (64 / width A.field) (i / k) ∙ mod-eq_of_lt few in
      digit_at _ wide (t + i) within
      ∙ ap₂ (λ x y. get_or (with_elements (width A.field) q word (row A r)) x 0 / 16 ^ (k - 1 - y) % 16) quotient rest
      ∙ ap (λ x. x / 16 ^ (k - 1 - i % k) % 16) (entry (q * (64 / width A.field) + i / k) inside ∙ cond-true _ _ _ (eq-eqb _ _ here) ∙ ap (λ x. element (width A.field) x word) which)

  pub word_taken : ReadsDigits (Elements A.field) bytes A new r t len
  word_taken =
      let e : t + len ≤ A.cols * digits_per_element A.field = subst (λ d. t + len ≤ A.cols * d) g.digits room in
      record {
        within = g.enough;
        in_line = e;
        entries = with_elements (width A.field) (t / (64 / width A.field * k)) word (row A r);
        is = record { wide = wide; elements = elements_are };
        changed = g.changed;
        front = front_many (Elements A.field) A.cols t len (row A r) _ bytes g.old.wide wide e g.enough before
            (λ i below. ap (digit_glyph false) (read i below) ∙ sym (g.values i below).glyph);
      }

-- what is known where all digits of a word were read, over plain variables
pub record IsGathered (A new : Matrix) (G : Field) (r t len k w : ℕ) (word : ℕ) (bytes : List ℕ) : Type 0 where
  pub matrix : IsMatrix A
  pub in_rows : r < A.rows
  pub same : G ≡ A.field
  pub carried : IsCarried G
  pub width_is : w ≡ width G
  pub digits : k ≡ digits_per_element G
  pub some : 0 < k
  pub starts : t % (64 / w * k) ≡ 0
  pub in_line : t < A.cols * digits_per_element A.field
  pub many : len ≡ min (A.cols * k - t) (64 / w * k)
  pub enough : len ≤ length bytes
  pub are : AreElements G (width G) word
  pub values : (i : ℕ) → i < length (take len bytes) → IsValue (get_or (take len bytes) i 0) (digit_of_elements (width G) (digits_per_element G) word i)
  pub changed : new ≡ with_row A r (with_elements (width A.field) (t / (64 / w * k)) word (row A r))

pub gathered_taken : (A new : Matrix) (G : Field) (r t len k w : ℕ) (word : ℕ) (bytes : List ℕ) → IsGathered A new G r t len k w word bytes → ReadsDigits (Elements A.field) bytes A new r t len
gathered_taken A new G r t len k w word bytes g =
    let wide : w ≡ width A.field = g.width_is ∙ ap width g.same in
    let count : k ≡ digits_per_element A.field = g.digits ∙ ap digits_per_element g.same in
    let cut = length-take-le len bytes g.enough in
    word_taken A new r t len k word bytes (record {
      old = row_is A r g.matrix g.in_rows;
      digits = count;
      some = g.some;
      side = subst (λ (F : Field). 0 < 64 / width F) g.same (some_side G g.carried);
      starts = subst (λ x. t % (64 / x * k) ≡ 0) wide g.starts;
      in_line = subst (λ d. t < A.cols * d) (sym count) g.in_line;
      many = subst (λ x. len ≡ min (A.cols * k - t) (64 / x * k)) wide g.many;
      enough = g.enough;
      are = subst (λ (F : Field). AreElements F (width F) word) g.same g.are;
      values = λ i below.
          let value = g.values i (omega (arith, cut, below)) in
          subst (λ d. IsValue (get_or bytes i 0) (digit_of_elements (width A.field) d word i)) (sym count)
          (subst (λ (F : Field). IsValue (get_or bytes i 0) (digit_of_elements (width F) (digits_per_element F) word i)) g.same
          (subst (λ b. IsValue b (digit_of_elements (width G) (digits_per_element G) word i)) (get_or-take len bytes i 0 below) value));
      changed = subst (λ x. new ≡ with_row A r (with_elements (width A.field) (t / (64 / x * k)) word (row A r))) wide g.changed;
    })
