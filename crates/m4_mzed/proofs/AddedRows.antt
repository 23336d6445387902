-- A row of elements to which a multiple of another is added from a column on, and one that is scaled.
use Rattle.std.proofs.Common.{◌≡◌, ℕ, ◌+◌, ◌*◌, ◌/◌, ◌%◌, ◌^◌, ◌<◌, ◌≤◌, inl, inr, List, [], length, get_or, set, map, sym, ◌∙◌, ap, ap₂, subst, arith, bit_xor, mod-eq_of_lt}
use Rattle.std.specs.Int.{bit_at}
use Rattle.std.specs.Int.Bits.{xor_lt, xor_zero_r}
use Rattle.std.specs.List.{All}
use Rattle.std.proofs.Math.Nat.{mul-add-mod_self_right}
use Rattle.std.proofs.Math.Pow.{pow_mono}
use Rattle.std.proofs.lemmas.Bool.{cases_lt}
use Rattle.std.proofs.lemmas.Nat.{div-mul-add}
use Rattle.std.proofs.lemmas.Nat.Bits.{bit_at-lt, bit_at-zero}
use Rattle.std.proofs.lemmas.List.{ext_get_or, length-map, get_or-map, set-get_or}
use Rattle.std.proofs.lemmas.List.Elements.{All-from_get_or, All-get_or}
use Rattle.m4_model.specs.Field.{Field, IsCarried, IsElement, mul, width}
use Rattle.m4_model.specs.Matrix.{Matrix, row, with_row}
use Rattle.m4_bits.proofs.BitsLemmas.{bit_at-xor}
use Rattle.m4_field.proofs.ProductSteps.{carried_laws}
use Rattle.m4_field.proofs.WidthLemmas.{width_facts}
use Rattle.m4_mzd.specs.Rows.{sum_from}
use Rattle.m4_mzd.specs.Window.{Window, IsWindow}
use Rattle.m4_mzd.specs.Window.{content as bit_content, showing as bit_showing}
use Rattle.m4_mzd.proofs.RowLemmas.{length-sum_from, sum_from-before, sum_from-after}
use Rattle.m4_mzed.specs.EWindow.{EWindow, content, showing}
use Rattle.m4_mzed.specs.Packed.{unpacked, elements, IsPackedRow, IsPacked}
use Rattle.m4_mzed.specs.PackedIn.{IsPackedIn}
use Rattle.m4_mzed.specs.Rows.{multiples, packed_multiples}
use Rattle.m4_mzed.proofs.RowLemmas.{length-unpacked}
use Rattle.m4_mzed.proofs.IndexLemmas.{AreBits, element_at, element_bit, unpacked_is}
use Rattle.m4_mzed.proofs.ProductLemmas.{length-multiples, get_or-multiples}
use Rattle.m4_mzed.proofs.EntryLemmas.{row_bits, packed_row, row_of_elements}
use Rattle.m4_mzed.proofs.PartLemmas.{packed_written, elements_written}

-- places of bits
next_le : (j n w : ℕ) → j < n → j * w + w ≤ n * w
next_le j n w less = grind arith

times_le : (a b k : ℕ) → a ≤ b → a * k ≤ b * k
times_le a b k le = grind arith

-- a row of n elements from the multiples of the elements of another
module _ (F : Field) (carried : IsCarried F) (n a : ℕ) (small : a < 2 ^ F.degree) (zs : List ℕ) (pz : IsPackedRow F n zs) where
  get_or-product : (j : ℕ) → j < n → get_or (multiples F a (unpacked (width F) n zs)) j 0 ≡ mul F (get_or (unpacked (width F) n zs) j 0) a
  get_or-product j below = get_or-map (λ y. mul F y a) (unpacked (width F) n zs) j 0 0 (let l = length-unpacked (width F) n zs in omega (arith, l, below))

  pub length-products : length (multiples F a (unpacked (width F) n zs)) ≡ n
  length-products = length-map (unpacked (width F) n zs) (λ y. mul F y a) ∙ length-unpacked (width F) n zs

  pub product_element : (j : ℕ) → j < n → IsElement F (get_or (multiples F a (unpacked (width F) n zs)) j 0)
  product_element j below =
      let P : ℕ → Type 0 = IsElement F in
      subst P (sym (get_or-product j below)) ((carried_laws F carried).closed _ a (element_at F (unpacked (width F) n zs) j pz.elements) small)

  pub product_bit : (j v : ℕ) → j < n → v < width F → get_or (packed_multiples F n a zs) (j * width F + v) 0 ≡ bit_at (get_or (multiples F a (unpacked (width F) n zs)) j 0) v
  product_bit j v below v_below =
      let w = width F in
      let inside : j * w + v < length zs = let l = pz.long in let m = next_le j n w below in omega (arith, l, m, v_below) in
      let place : (j * w + v) / w ≡ j = div-mul-add j w v v_below in
      let bit : (j * w + v) % w ≡ v = mul-add-mod_self_right j w v ∙ mod-eq_of_lt v_below in
      get_or-multiples F carried n a zs (j * w + v) inside
      ∙ ap₂ (λ e u. bit_at (mul F (get_or (unpacked w n zs) e 0) a) u) place bit
      ∙ ap (λ y. bit_at y v) (sym (get_or-product j below))

  product_bits : AreBits (packed_multiples F n a zs)
  product_bits = All-from_get_or (λ b. b < 2) _ 0 (λ p inside.
      let P : ℕ → Type 0 = λ b. b < 2 in
      subst P (sym (get_or-multiples F carried n a zs p (let l = length-multiples F carried n a zs in omega (arith, l, inside)))) (bit_at-lt _ _))

  product_long : length (packed_multiples F n a zs) ≡ n * width F
  product_long = length-multiples F carried n a zs ∙ pz.long

  -- the row scaled
  pub scaled_is : unpacked (width F) n (packed_multiples F n a zs) ≡ multiples F a (unpacked (width F) n zs)
  scaled_is =
      unpacked_is (width F) n (packed_multiples F n a zs) product_long product_bits (multiples F a (unpacked (width F) n zs)) length-products
      (λ j below. let s = product_element j below in let m = pow_mono {i = F.degree} {j = width F} (width_facts F carried).room in omega (arith, s, m))
      product_bit

  pub scaled_packed : IsPackedRow F n (packed_multiples F n a zs)
  scaled_packed = record {
    long = product_long;
    elements = let P : List ℕ → Type 0 = All (IsElement F) in
        subst P (sym scaled_is) (All-from_get_or (IsElement F) _ 0 (λ j within. product_element j (let l = length-products in omega (arith, l, within))));
  }

  -- the multiples added to another row, from a column on
  module _ (c : ℕ) (in_cols : c ≤ n) (xs : List ℕ) (px : IsPackedRow F n xs) (bx : AreBits xs) where
    ys : List ℕ
    ys = sum_from (c * width F) xs (packed_multiples F n a zs)

    bit_room : c * width F ≤ length xs
    bit_room = let l = px.long in let m = times_le c n (width F) in_cols in omega (arith, l, m)

    same_long : length xs ≡ length (packed_multiples F n a zs)
    same_long = px.long ∙ sym product_long

    old_long : length (unpacked (width F) n xs) ≡ n
    old_long = length-unpacked (width F) n xs

    old_same : length (unpacked (width F) n xs) ≡ length (multiples F a (unpacked (width F) n zs))
    old_same = old_long ∙ sym length-products

    old_room : c ≤ length (unpacked (width F) n xs)
    old_room = let l = old_long in omega (arith, l, in_cols)

    sum_long : length (sum_from (c * width F) xs (packed_multiples F n a zs)) ≡ n * width F
    sum_long = length-sum_from (c * width F) xs (packed_multiples F n a zs) ∙ px.long

    sum_bits : AreBits (sum_from (c * width F) xs (packed_multiples F n a zs))
    sum_bits = All-from_get_or (λ b. b < 2) _ 0 (λ p inside.
        let P : ℕ → Type 0 = λ b. b < 2 in
        let within : p < length xs = let l = length-sum_from (c * width F) xs (packed_multiples F n a zs) in omega (arith, l, inside) in
        let mine = All-get_or (λ b. b < 2) xs p 0 within bx in
        elim (cases_lt p (c * width F)) [
          | inl before ↦ subst P (sym (sum_from-before (c * width F) p xs (packed_multiples F n a zs) bit_room before)) mine
          | inr from ↦
              subst P (sym (sum_from-after (c * width F) p xs (packed_multiples F n a zs) (sym same_long) bit_room from))
              (xor_lt 1 _ _ mine (All-get_or (λ b. b < 2) (packed_multiples F n a zs) p 0 (let s = same_long in omega (arith, s, within)) product_bits))
        ])

    sum_bit : (j v : ℕ) → j < n → v < width F → get_or (sum_from (c * width F) xs (packed_multiples F n a zs)) (j * width F + v) 0
        ≡ bit_at (get_or (sum_from c (unpacked (width F) n xs) (multiples F a (unpacked (width F) n zs))) j 0) v
    sum_bit j v below v_below =
        let w = width F in
        let old = unpacked w n xs in
        let more = multiples F a (unpacked w n zs) in
        elim (cases_lt j c) [
          | inl before ↦
              sum_from-before (c * w) (j * w + v) xs (packed_multiples F n a zs) bit_room (let m = next_le j c w before in omega (arith, m, v_below))
              ∙ sym (element_bit w n xs px.long bx j v below v_below)
              ∙ ap (λ e. bit_at e v) (sym (sum_from-before c j old more old_room before))
          | inr from ↦
              sum_from-after (c * w) (j * w + v) xs (packed_multiples F n a zs) (sym same_long) bit_room (let m = times_le c j w from in omega (arith, m))
              ∙ ap₂ bit_xor (sym (element_bit w n xs px.long bx j v below v_below)) (product_bit j v below v_below)
              ∙ sym (bit_at-xor (get_or old j 0) (get_or more j 0) v)
              ∙ ap (λ e. bit_at e v) (sym (sum_from-after c j old more (sym old_same) old_room from))
        ]

    sum_element : (j : ℕ) → j < n → IsElement F (get_or (sum_from c (unpacked (width F) n xs) (multiples F a (unpacked (width F) n zs))) j 0)
    sum_element j below =
        let P : ℕ → Type 0 = IsElement F in
        let old = unpacked (width F) n xs in
        let more = multiples F a (unpacked (width F) n zs) in
        let mine = element_at F old j px.elements in
        elim (cases_lt j c) [
          | inl before ↦ subst P (sym (sum_from-before c j old more old_room before)) mine
          | inr from ↦ subst P (sym (sum_from-after c j old more (sym old_same) old_room from)) (xor_lt F.degree _ _ mine (product_element j below))
        ]

    pub sum_is : unpacked (width F) n (sum_from (c * width F) xs (packed_multiples F n a zs)) ≡ sum_from c (unpacked (width F) n xs) (multiples F a (unpacked (width F) n zs))
    sum_is =
        unpacked_is (width F) n _ sum_long sum_bits _ (length-sum_from c (unpacked (width F) n xs) (multiples F a (unpacked (width F) n zs)) ∙ old_long)
        (λ j below. let s = sum_element j below in let m = pow_mono {i = F.degree} {j = width F} (width_facts F carried).room in omega (arith, s, m))
        sum_bit

    pub sum_packed : IsPackedRow F n (sum_from (c * width F) xs (packed_multiples F n a zs))
    sum_packed = record {
      long = sum_long;
      elements = let P : List ℕ → Type 0 = All (IsElement F) in
          subst P (sym sum_is) (All-from_get_or (IsElement F) _ 0 (λ j within. sum_element j
          (let l = length-sum_from c (unpacked (width F) n xs) (multiples F a (unpacked (width F) n zs)) in let m = old_long in omega (arith, l, m, within))));
    }

-- a window to a row of which a multiple was added
module _ (F : Field) (n a r c : ℕ) (zs : List ℕ) (w next : Window) (is : IsPacked F n w) (shape : IsWindow w) (below : r < w.rows) (small : a < 2 ^ F.degree) (in_cols : c ≤ n)
    (pz : IsPackedRow F n zs) (kept : next ≡ bit_showing w (with_row (bit_content w) r (sum_from (c * width F) (row (bit_content w) r) (packed_multiples F n a zs)))) where
  pub added_packed : IsPacked F n next
  added_packed =
      packed_written F n w is r (sum_from (c * width F) (row (bit_content w) r) (packed_multiples F n a zs)) next
      (sum_packed F is.carried n a small zs pz c in_cols (row (bit_content w) r) (packed_row F n w is r below) (row_bits w r shape below)) kept

  pub added_elements : elements F n next ≡ showing (elements F n w) (with_row (content (elements F n w)) r (sum_from c (row (content (elements F n w)) r) (multiples F a (unpacked (width F) n zs))))
  added_elements =
      elements_written F n w is r (sum_from (c * width F) (row (bit_content w) r) (packed_multiples F n a zs)) next kept
      ∙ ap {B = EWindow} (λ l. record (elements F n w) { entries = set (elements F n w).entries r l })
      (sum_is F is.carried n a small zs pz c in_cols (row (bit_content w) r) (packed_row F n w is r below) (row_bits w r shape below)
      ∙ ap (λ l. sum_from c l (multiples F a (unpacked (width F) n zs))) (sym (row_of_elements F n w is r below)))

-- a window of which a row was scaled
module _ (F : Field) (n a r : ℕ) (w next : Window) (is : IsPacked F n w) (below : r < w.rows) (small : a < 2 ^ F.degree)
    (kept : next ≡ bit_showing w (with_row (bit_content w) r (packed_multiples F n a (row (bit_content w) r)))) where
  pub row_scaled_packed : IsPacked F n next
  row_scaled_packed =
      packed_written F n w is r (packed_multiples F n a (row (bit_content w) r)) next
      (scaled_packed F is.carried n a small (row (bit_content w) r) (packed_row F n w is r below)) kept

  pub row_scaled_elements : elements F n next ≡ showing (elements F n w) (with_row (content (elements F n w)) r (multiples F a (row (content (elements F n w)) r)))
  row_scaled_elements =
      elements_written F n w is r (packed_multiples F n a (row (bit_content w) r)) next kept
      ∙ ap {B = EWindow} (λ l. record (elements F n w) { entries = set (elements F n w).entries r l })
      (scaled_is F is.carried n a small (row (bit_content w) r) (packed_row F n w is r below)
      ∙ ap (multiples F a) (sym (row_of_elements F n w is r below)))

-- the multiple by 0 adds nothing
pub nothing_added : (F : Field) → IsCarried F → (n c r : ℕ) (zs : List ℕ) (w : Window) → IsWindow w → r < w.rows → c ≤ w.cols → length zs ≡ w.cols
    → w ≡ bit_showing w (with_row (bit_content w) r (sum_from c (row (bit_content w) r) (packed_multiples F n 0 zs)))
nothing_added F carried n c r zs w shape below within long =
    let xs = row (bit_content w) r in
    let ys = packed_multiples F n 0 zs in
    let xs_long = shape.matrix.width r below in
    let room : c ≤ length xs = omega (arith, xs_long, within) in
    let same : length xs ≡ length ys = xs_long ∙ sym long ∙ sym (length-multiples F carried n 0 zs) in
    let is : sum_from c xs ys ≡ xs = ext_get_or 0 _ _ (length-sum_from c xs ys) (λ j inside.
    elim (cases_lt j c) [
      | inl before ↦ sum_from-before c j xs ys room before
      | inr from ↦
          sum_from-after c j xs ys (sym same) room from
          ∙ ap (bit_xor (get_or xs j 0)) (get_or-multiples F carried n 0 zs j (let l = length-sum_from c xs ys in omega (arith, l, inside, xs_long, long))
          ∙ ap (λ y. bit_at y (j % width F)) ((carried_laws F carried).annihilates _) ∙ zero_bit (j % width F))
          ∙ xor_zero_r (get_or xs j 0)
    ]) in
    ap {B = Window} (λ rows. record w { bits = rows }) (sym (set-get_or w.bits r []) ∙ ap (set w.bits r) (sym is))
  where
    zero_bit : (v : ℕ) → bit_at 0 v ≡ 0
    zero_bit v = bit_at-zero v

-- a row of a window for reading over the same field
pub source_packed : (F G : Field) (n m s : ℕ) (A : Matrix) → G ≡ F → m ≡ n → IsPackedIn G m A → s < A.rows → IsPackedRow F n (row A s)
source_packed F G n m s A field cols is below =
    let P : Field → Type 0 = λ H. IsPackedRow H n (row A s) in
    let Q : ℕ → Type 0 = λ k. IsPackedRow G k (row A s) in
    subst P field (subst Q cols (All-get_or (IsPackedRow G m) A.entries s [] (let c = is.count in omega (arith, c, below)) is.packed))

pub source_row : (F G : Field) (n m s : ℕ) (A : Matrix) → G ≡ F → m ≡ n → IsPackedIn G m A → s < A.rows
    → get_or (map (unpacked (width G) m) A.entries) s [] ≡ unpacked (width F) n (row A s)
source_row F G n m s A field cols is below =
    get_or-map (unpacked (width G) m) A.entries s [] [] (let c = is.count in omega (arith, c, below))
    ∙ ap₂ (λ (H : Field) (k : ℕ). unpacked (width H) k (row A s)) field cols
