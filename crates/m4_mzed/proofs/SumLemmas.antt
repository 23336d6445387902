-- A multiple of one row of elements added to another, word by word.
use Rattle.std.proofs.Common.{◌≡◌, ℕ, suc, ◌+◌, ◌*◌, ◌/◌, ◌%◌, ◌<◌, ◌≤◌, inl, inr, List, [], length, get_or, set, sym, ◌∙◌, ap, ap₂, subst, arith, mod-eq_of_lt, cond, nat_eq}
use Rattle.std.specs.Int.{bit_at}
use Rattle.std.proofs.Math.Nat.{mul-add-mod_self_right, div-lt_iff_lt-mul}
use Rattle.std.proofs.Math.Pow.{pow_pos}
use Rattle.std.proofs.lemmas.Nat.{div-mul-add, div-add-mod'}
use Rattle.std.proofs.lemmas.Nat.Bits.{bit_at-zero, same_from_bits_below}
use Rattle.std.proofs.lemmas.Bool.{cases_lt, cases_eq, cond-true, cond-false, eq-eqb, ne_eqb}
use Rattle.std.proofs.lemmas.List.{get_or_past, get_or-set_same, length-set, set-set}
use Rattle.std.proofs.lemmas.List.FromFn.{length-map-range_with_len, get_or-map-range_with_len}
use Rattle.m4_model.specs.Matrix.{row, with_row}
use Rattle.m4_mzd.specs.Window.{Window, content, showing}
use Rattle.m4_mzd.specs.Rows.{with_word}
use Rattle.m4_mzed.specs.Words.{element}
use Rattle.m4_mzed.specs.Packed.{unpacked}
use Rattle.m4_mzed.proofs.RowLemmas.{length-unpacked}
use Rattle.m4_mzed.proofs.WordLemmas.{element-lt, bit_at-element}
use Rattle.m4_mzed.proofs.IndexLemmas.{AreBits, element_bit, element_small}

times_le : (a b k : ℕ) → a ≤ b → a * k ≤ b * k
times_le a b k le = grind arith

-- place q of word w, in elements of k bits, m of them to a word
module _ (k m : ℕ) (whole : m * k ≡ 64) where
  k_some : 0 < k
  k_some = elim (cases_lt 0 k) [ inl some ↦ some | inr none ↦ absurd (let z : k ≡ 0 = omega arith in let e : m * 0 ≡ 64 = let P : ℕ → Type 0 = λ n. m * n ≡ 64 in subst P z whole in omega (arith, e)) ]

  place_is : (w q : ℕ) → w * 64 + q ≡ (w * m + q / k) * k + q % k
  place_is w q =
      let p = k_some in
      let d : q ≡ q / k * k + q % k = sym (div-add-mod' q k) in
      let e : w * (m * k) ≡ w * m * k = grind arith in
      let f : w * (m * k) ≡ w * 64 = ap (λ n. w * n) whole in
      let g : (w * m + q / k) * k ≡ w * m * k + q / k * k = grind arith in
      omega (arith, d, e, f, g)

  pub place_element : (w q : ℕ) → (w * 64 + q) / k ≡ w * m + q / k
  place_element w q = ap (λ n. n / k) (place_is w q) ∙ div-mul-add (w * m + q / k) k (q % k) (let p = k_some in omega arith)

  pub place_bit : (w q : ℕ) → (w * 64 + q) % k ≡ q % k
  place_bit w q = ap (λ n. n % k) (place_is w q) ∙ mul-add-mod_self_right (w * m + q / k) k (q % k) ∙ mod-eq_of_lt (let p = k_some in omega arith)

  -- the elements of a word of a row
  pub word_element : (n : ℕ) (xs : List ℕ) → length xs ≡ n * k → AreBits xs → (w word : ℕ) → ((j : ℕ) → j < 64 → bit_at word j ≡ get_or xs (w * 64 + j) 0)
      → (i : ℕ) → i < m → element k i word ≡ get_or (unpacked k n xs) (w * m + i) 0
  word_element n xs long bits w word reads i below =
      let within : (v : ℕ) → v < k → i * k + v < 64 = λ v v_below. let e : suc i * k ≤ m * k = times_le (suc i) m k below in let f : suc i * k ≡ i * k + k = grind arith in omega (arith, e, f, whole, v_below) in
      let place : (v : ℕ) → v < k → w * 64 + (i * k + v) ≡ (w * m + i) * k + v = λ v v_below.
      let e : w * (m * k) ≡ w * m * k = grind arith in let f : w * (m * k) ≡ w * 64 = ap (λ n. w * n) whole in let g : (w * m + i) * k ≡ w * m * k + i * k = grind arith in omega (arith, e, f, g) in
      let bit : (v : ℕ) → v < k → bit_at (element k i word) v ≡ get_or xs ((w * m + i) * k + v) 0 =
      λ v v_below. bit_at-element k i word v v_below ∙ reads (i * k + v) (within v v_below) ∙ ap (λ p. get_or xs p 0) (place v v_below) in
      elim (cases_lt (w * m + i) n) [
        | inl inside ↦
            same_from_bits_below k _ _ (element-lt k i word) (element_small k n xs long bits (w * m + i) inside)
            (λ v v_below. bit v v_below ∙ sym (element_bit k n xs long bits (w * m + i) v inside v_below))
        | inr past ↦
            same_from_bits_below k _ _ (element-lt k i word) (let p = pow_pos k in let z = get_or_past (unpacked k n xs) (w * m + i) 0 (let l = length-unpacked k n xs in omega (arith, l, past)) in omega (arith, p, z))
            (λ v v_below. bit v v_below
            ∙ get_or_past xs ((w * m + i) * k + v) 0 (let e = times_le n (w * m + i) k past in omega (arith, e, long))
            ∙ sym (ap (λ x. bit_at x v) (get_or_past (unpacked k n xs) (w * m + i) 0 (let l = length-unpacked k n xs in omega (arith, l, past))) ∙ bit_at-zero v))
      ]

  -- a bit of a word whose elements are told
  pub told_bit : (told : ℕ → ℕ) (w product : ℕ) → ((i : ℕ) → i < m → element k i product ≡ told (w * m + i)) → (q : ℕ) → q < 64
      → bit_at product q ≡ bit_at (told ((w * 64 + q) / k)) ((w * 64 + q) % k)
  told_bit told w product elements q below =
      let p = k_some in
      let i_below : q / k < m = (div-lt_iff_lt-mul p).1 (let e = whole in omega (arith, e, below)) in
      let place : q ≡ q / k * k + q % k = sym (div-add-mod' q k) in
      ap (bit_at product) place
      ∙ sym (bit_at-element k (q / k) product (q % k) (omega (arith, p)))
      ∙ ap (λ x. bit_at x (q % k)) (elements (q / k) i_below)
      ∙ sym (ap₂ (λ e v. bit_at (told e) v) (place_element w q) (place_bit w q))

-- the words before word w have the bits of g, and the others are as they were
pub record SetTo (limit w : ℕ) (g : ℕ → ℕ) (old now : List ℕ) : Type 0 where
  pub done : (p : ℕ) → p < limit → p < w * 64 → get_or now p 0 ≡ g p
  pub rest : (p : ℕ) → p < limit → w * 64 ≤ p → get_or now p 0 ≡ get_or old p 0

pub set_more : (limit w : ℕ) (g : ℕ → ℕ) (old now : List ℕ) (product : ℕ) → length now ≡ limit
    → ((q : ℕ) → q < 64 → w * 64 + q < limit → bit_at product q ≡ g (w * 64 + q)) → SetTo limit w g old now → SetTo limit (w + 1) g old (with_word w product now)
set_more limit w g old now product long gives so_far = record {
  done = λ p inside below. elim (cases_eq (p / 64) w) [
    | inl here ↦
        let q_small : p % 64 < 64 = omega arith in
        let place : w * 64 + p % 64 ≡ p = omega (arith, here) in
        at p inside ∙ cond-true _ _ _ (eq-eqb (p / 64) w here) ∙ gives (p % 64) q_small (omega (arith, place, inside)) ∙ ap g place
    | inr away ↦ at p inside ∙ cond-false _ _ _ (ne_eqb (p / 64) w away) ∙ so_far.done p inside (omega (arith, away, below))
  ];
  rest = λ p inside past. at p inside ∙ cond-false _ _ _ (ne_eqb (p / 64) w (λ here. omega (arith, here, past))) ∙ so_far.rest p inside (omega (arith, past));
}
  where
    at : (p : ℕ) → p < limit → get_or (with_word w product now) p 0 ≡ cond (nat_eq (p / 64) w) (bit_at product (p % 64)) (get_or now p 0)
    at p inside = get_or-map-range_with_len _ 0 (length now) p p 0 (omega (arith, long, inside)) (omega arith)

-- a window with row r written again
pub written_again : (first now next : Window) (r : ℕ) (new : List ℕ) → r < length first.bits → now ≡ showing first (with_row (content first) r (row (content now) r))
    → next ≡ showing now (with_row (content now) r new) → (row (content next) r ≡ new) × (next ≡ showing first (with_row (content first) r (row (content next) r)))
written_again first now next r new within kept written =
    let now_long : length now.bits ≡ length first.bits = ap (λ (w : Window). length w.bits) kept ∙ length-set first.bits r (row (content now) r) in
    let is : row (content next) r ≡ new = ap (λ (w : Window). get_or w.bits r []) written ∙ get_or-set_same now.bits r new [] (omega (arith, now_long, within)) in (
      is,
      written ∙ ap {B = Window} (λ (w : Window). record w { bits = set w.bits r new }) kept
          ∙ ap {B = Window} (λ rows. record first { bits = rows }) (set-set first.bits r (row (content now) r) new)
          ∙ ap {B = Window} (λ l. record first { bits = set first.bits r l }) (sym is),
    )

pub length-with_word : (w value : ℕ) (xs : List ℕ) → length (with_word w value xs) ≡ length xs
length-with_word w value xs = length-map-range_with_len _ 0 (length xs)
