-- The products of a word are the multiples of its elements, and those of a row of words the multiples of the row's.
use Rattle.std.proofs.Common.{◌≡◌, ℕ, zero, suc, ◌+◌, ◌-◌, ◌*◌, ◌/◌, ◌%◌, ◌^◌, ◌<◌, ◌≤◌, List, length, get_or, map, sym, ◌∙◌, ap, subst, arith, bit_xor, bit_and, mod-eq_of_lt}
use Rattle.std.specs.List.{range_with_len}
use Rattle.std.specs.Int.{bit_at}
use Rattle.std.specs.Int.Bits.{xor_zero_r}
use Rattle.std.proofs.Math.Nat.{div-lt_iff_lt-mul}
use Rattle.std.proofs.Math.Pow.{pow_mono}
use Rattle.std.proofs.lemmas.List.{ext_get_or}
use Rattle.std.proofs.lemmas.List.FromFn.{length-map-range_with_len, get_or-map-range_with_len}
use Rattle.std.proofs.lemmas.Nat.{div-add-mod', and_le_r}
use Rattle.m4_model.specs.Field.{Field, IsCarried, IsElement, mul, sum_below, width}
use Rattle.m4_model.proofs.SumLemmas.{mul-zero_left, mul-one_right}
use Rattle.m4_bits.specs.Products.{filled, products}
use Rattle.m4_field.proofs.ProductSteps.{carried_laws}
use Rattle.m4_field.proofs.WidthLemmas.{width_facts}
use Rattle.m4_mzd.specs.Products.{AreProducts}
use Rattle.m4_mzed.specs.Words.{element}
use Rattle.m4_mzed.specs.Packed.{unpacked, IsPackedRow}
use Rattle.m4_mzed.specs.Rows.{packed_multiples}
use Rattle.m4_mzed.proofs.MultipleLemmas.{term_element, sum_step}
use Rattle.m4_mzed.proofs.IndexLemmas.{AreBits, element_at, element_bit}
use Rattle.m4_mzed.proofs.SumLemmas.{word_element, told_bit}

pub none_yet : (F : Field) → IsCarried F → (w k n x : ℕ) → element w k 0 ≡ mul F (n % 1) x
none_yet F carried w k n x =
    let e : n % 1 ≡ 0 = omega arith in
    let f : element w k 0 ≡ 0 = omega arith in
    f ∙ sym (ap (λ y. mul F y x) e ∙ mul-zero_left F (carried_laws F carried) x)

-- what is known of the places, of the factors, and of their patterns
pub record AreFactors (F : Field) (n low x : ℕ) (factors patterns : List ℕ) : Type 0 where
  pub carried : IsCarried F
  pub wide : n ≡ width F
  pub low_small : low < 2 ^ 64
  pub ones : (k : ℕ) → k < 64 / n → element n k low ≡ 1
  pub powers : (i : ℕ) → i < F.degree → get_or factors i 0 ≡ mul F (2 ^ i) x
  pub small : (i : ℕ) → get_or factors i 0 < 2 ^ F.degree
  pub rest : (i : ℕ) → F.degree ≤ i → get_or factors i 0 ≡ 0
  pub spread : (i : ℕ) → i < n → get_or patterns i 0 ≡ low * get_or factors i 0 % 2 ^ 64

-- the same where the width that the field tells gives the places
pub are_factors : (F : Field) → IsCarried F → (n low w x : ℕ) (factors patterns : List ℕ) → n ≡ width F → w ≡ width F → low < 2 ^ 64 → ((k : ℕ) → k < 64 / w → element w k low ≡ 1)
    → ((i : ℕ) → i < F.degree → get_or factors i 0 ≡ mul F (2 ^ i) x) → ((i : ℕ) → get_or factors i 0 < 2 ^ F.degree) → ((i : ℕ) → F.degree ≤ i → get_or factors i 0 ≡ 0)
    → ((i : ℕ) → i < n → get_or patterns i 0 ≡ low * get_or factors i 0 % 2 ^ 64) → AreFactors F n low x factors patterns
are_factors F carried n low w x factors patterns wide is low_small ones powers small rest spread = record {
  carried = carried;
  wide = wide;
  low_small = low_small;
  ones = let P : ℕ → Type 0 = λ w. (k : ℕ) → k < 64 / w → element w k low ≡ 1 in subst P (is ∙ sym wide) ones;
  powers = powers;
  small = small;
  rest = rest;
  spread = spread;
}

module _ (F : Field) (n low x : ℕ) (factors patterns : List ℕ) (h : AreFactors F n low x factors patterns) where
  abbrev term : ℕ → ℕ → ℕ
  term word i = bit_and (filled n (bit_and (word / 2 ^ i) low)) (get_or patterns i 0)

  room : F.degree ≤ n
  room = let r = (width_facts F h.carried).room in let e = h.wide in omega (arith, r, e)

  whole : 64 / n * n ≡ 64
  whole = let P : ℕ → Type 0 = λ w. 64 / w * w ≡ 64 in subst P (sym h.wide) (width_facts F h.carried).whole

  is_term : (word k t : ℕ) → k < 64 / n → t < F.degree → element n k (term word t) ≡ bit_at (element n k word) t * get_or factors t 0
  is_term word k t k_below within =
      let r = room in
      let below : get_or factors t 0 < 2 ^ n = let s = h.small t in let m = pow_mono {i = F.degree} {j = n} r in omega (arith, s, m) in
      ap (λ y. element n k (bit_and (filled n (bit_and (word / 2 ^ t) low)) y)) (h.spread t (omega (arith, within, r)))
      ∙ term_element n t word low (get_or factors t 0) k (omega (arith, within, r)) whole h.low_small below h.ones k_below

  first_terms : (word k t : ℕ) → k < 64 / n → t ≤ F.degree → element n k (sum_below t (term word)) ≡ mul F (element n k word % 2 ^ t) x
  unfolding sum_below
  first_terms word k zero k_below within = none_yet F h.carried n k (element n k word) x
  first_terms word k (suc t) k_below within =
      let e : t + 1 ≡ suc t = omega arith in
      sum_step F h.carried n t word x (get_or factors t 0) (sum_below t (term word)) (term word t) k (is_term word k t k_below within) (h.powers t within)
      (first_terms word k t k_below (omega (arith, within)))
      ∙ ap (λ m. mul F (element n k word % 2 ^ m) x) e

  other_terms : (word t : ℕ) → t + F.degree ≤ n → sum_below (t + F.degree) (term word) ≡ sum_below F.degree (term word)
  unfolding sum_below
  other_terms word zero within = let e : 0 + F.degree ≡ F.degree = omega arith in ap (λ m. sum_below m (term word)) e
  other_terms word (suc t) within =
      let i = t + F.degree in
      let filled_ones = filled n (bit_and (word / 2 ^ i) low) in
      let none : term word i ≡ 0 =
      ap (bit_and filled_ones) (h.spread i (omega (arith, within)) ∙ ap (λ y. low * y % 2 ^ 64) (h.rest i (omega arith)) ∙ zeros low) ∙ and_zero filled_ones in
      let e : suc t + F.degree ≡ suc i = omega arith in
      ap (λ m. sum_below m (term word)) e ∙ ap (bit_xor (sum_below i (term word))) none ∙ xor_zero_r _ ∙ other_terms word t (omega (arith, within))
    where
      zeros : (a : ℕ) → a * 0 % 2 ^ 64 ≡ 0
      zeros a = let e : a * 0 ≡ 0 = omega arith in ap (λ y. y % 2 ^ 64) e

      and_zero : (a : ℕ) → bit_and a 0 ≡ 0
      and_zero a = let l = and_le_r a 0 in omega (arith, l)

  in_width : (word k : ℕ) → k < 64 / n → IsElement F (element n k word) → element n k (products n low patterns word) ≡ mul F (element n k word) x
  unfolding products
  in_width word k k_below is =
      let r = room in
      let all : n ≡ n - F.degree + F.degree = omega (arith, r) in
      ap (λ m. element n k (sum_below m (term word))) all
      ∙ ap (element n k) (other_terms word (n - F.degree) (omega (arith, r)))
      ∙ first_terms word k F.degree k_below (omega arith)
      ∙ ap (λ y. mul F y x) (mod-eq_of_lt is)

  pub products_element : (word k : ℕ) → k < 64 / width F → IsElement F (element (width F) k word) → element (width F) k (products n low patterns word) ≡ mul F (element (width F) k word) x
  products_element word k =
      let P : ℕ → Type 0 = λ w. k < 64 / w → IsElement F (element w k word) → element w k (products n low patterns word) ≡ mul F (element w k word) x in
      subst P h.wide (in_width word k)

  -- the products of a row
  pub are_products : (cols : ℕ) (xs : List ℕ) → IsPackedRow F cols xs → AreBits xs → AreProducts n low patterns xs (packed_multiples F cols x xs)
  unfolding packed_multiples
  are_products cols xs p bits = record {
    long = length-map-range_with_len _ 0 (length xs);
    bits = λ word j inside reads. at word j inside reads;
  }
    where
      k : ℕ
      k = width F

      at : (word j : ℕ) → j < length xs → ((i : ℕ) → i < 64 → bit_at word i ≡ get_or xs (j / 64 * 64 + i) 0)
          → get_or (map (λ p. bit_at (mul F (get_or (unpacked (width F) cols xs) (p / width F) 0) x) (p % width F)) (range_with_len 0 (length xs))) j 0 ≡ bit_at (products n low patterns word) (j % 64)
      at word j inside reads =
          let w = width F in
          let whole = (width_facts F h.carried).whole in
          let place : j / 64 * 64 + j % 64 ≡ j = omega arith in
          let told : ℕ → ℕ = λ e. mul F (get_or (unpacked w cols xs) e 0) x in
          let P : ℕ → Type 0 = IsElement F in
          get_or-map-range_with_len _ 0 (length xs) j j 0 inside (omega arith)
          ∙ ap (λ q. bit_at (told (q / w)) (q % w)) (sym place)
          ∙ sym (told_bit w (64 / w) whole told (j / 64) (products n low patterns word) (λ i i_below.
          let same = word_element w (64 / w) whole cols xs p.long bits (j / 64) word reads i i_below in
          products_element word i i_below (subst P (sym same) (element_at F (unpacked w cols xs) (j / 64 * (64 / w) + i) p.elements)) ∙ ap (λ y. mul F y x) same) (j % 64) (omega arith))

module _ (F : Field) (carried : IsCarried F) (n x : ℕ) (xs : List ℕ) where
  pub length-multiples : length (packed_multiples F n x xs) ≡ length xs
  unfolding packed_multiples
  length-multiples = length-map-range_with_len _ 0 (length xs)

  pub get_or-multiples : (j : ℕ) → j < length xs → get_or (packed_multiples F n x xs) j 0 ≡ bit_at (mul F (get_or (unpacked (width F) n xs) (j / width F) 0) x) (j % width F)
  unfolding packed_multiples
  get_or-multiples j inside = get_or-map-range_with_len _ 0 (length xs) j j 0 inside (omega arith)

-- the multiple by 1
pub multiples_one : (F : Field) → IsCarried F → (n : ℕ) (xs : List ℕ) → IsPackedRow F n xs → AreBits xs → packed_multiples F n 1 xs ≡ xs
multiples_one F carried n xs p bits =
    ext_get_or 0 _ _ (length-multiples F carried n 1 xs) (λ j inside.
    let w = width F in
    let some = (width_facts F carried).some in
    let within : j < length xs = let l = length-multiples F carried n 1 xs in omega (arith, inside, l) in
    let e = get_or (unpacked w n xs) (j / w) 0 in
    let v_below : j % w < w = omega (arith, some) in
    let place : j / w * w + j % w ≡ j = div-add-mod' j w in
    let j_below : j / w < n = quotient w j n some (let l = p.long in omega (arith, within, l)) in
    get_or-multiples F carried n 1 xs j within
    ∙ ap (λ y. bit_at y (j % w)) (mul-one_right F (carried_laws F carried) e (element_at F (unpacked w n xs) (j / w) p.elements))
    ∙ element_bit w n xs p.long bits (j / w) (j % w) j_below v_below
    ∙ ap (λ q. get_or xs q 0) place)
  where
    quotient : (w j n : ℕ) → 1 ≤ w → j < n * w → j / w < n
    quotient w j n some below = (div-lt_iff_lt-mul some).1 below
