-- Digits of rows over GF(2), read up to a word at once.
use Rattle.std.proofs.Common.{◌≡◌, ℕ, zero, suc, ◌+◌, ◌-◌, ◌*◌, ◌/◌, ◌%◌, ◌^◌, ◌<◌, ◌≤◌, false, cond, nat_eq, List, [], ◌++◌, length, get_or, take, drop, refl, sym, ◌∙◌, ap, ap₂, subst, arith, ◌⊎◌, inl, inr, take-add, get_or-take, get_or-drop, length-drop, ext_get_or, mod-eq_of_lt, lit<}
use Rattle.std.specs.Int.{bit_at}
use Rattle.std.specs.Fmt.{digit_glyph}
use Rattle.std.proofs.Math.Nat.{div-div-eq-div-mul, add-mul-div_right, mul-le-mul_right}
use Rattle.std.proofs.Math.Pow.{pow_mono}
use Rattle.std.proofs.lemmas.Nat.{pow-add, div-mul-add, pow_pos}
use Rattle.std.proofs.lemmas.Nat.Bits.{bit_at-lt, bit_at_above, bit_at_cat_low, bit_at_cat_high}
use Rattle.std.proofs.lemmas.Bool.{cases_eq, cases_lt, cond-true, cond-false, eq-eqb, ne_eqb}
use Rattle.std.proofs.lemmas.List.{length-map, get_or-map, length-take-le, get_or_past}
use Rattle.std.proofs.lemmas.List.FromFn.{length-map-range_with_len, get_or-map-range_with_len}
use Rattle.m4_model.specs.Field.{gf2}
use Rattle.m4_model.specs.Matrix.{Matrix, row, with_row}
use Rattle.m4_model.specs.Headed.{Spelling, Bits, Fours, row_digits, digit_of_four}
use Rattle.m4_bits.specs.Digits.{digits_of}
use Rattle.m4_mzd.specs.Rows.{with_word}
use Rattle.m4_etext.specs.Place.{IsValue}
use Rattle.m4_etext.specs.Pieces.{digits_in, IsRow, glyphs, ReadsDigits}
use Rattle.m4_etext.specs.Kinds.{WritesBits}
use Rattle.m4_etext.proofs.Numerals.{glyph_low, glyph_injective}
use Rattle.m4_etext.proofs.RowDigits.{length-row_digits, get_or-fours}

-- digits by index
pub front_many : (S : Spelling) (n t k : ℕ) (old es bytes : List ℕ) → length old ≡ n → length es ≡ n → t + k ≤ digits_in S n → k ≤ length bytes
    → ((j : ℕ) → j < t → get_or (row_digits S es) j 0 ≡ get_or (row_digits S old) j 0)
    → ((i : ℕ) → i < k → digit_glyph false (get_or (row_digits S es) (t + i) 0) ≡ get_or bytes i 0)
    → take (t + k) (glyphs S es) ≡ take t (glyphs S old) ++ take k bytes
front_many S n t k old es bytes old_wide wide within enough same read =
    let d = row_digits S es in
    let d' = row_digits S old in
    let long : length d ≡ digits_in S n = length-row_digits S es ∙ ap (digits_in S) wide in
    let long' : length d' ≡ digits_in S n = length-row_digits S old ∙ ap (digits_in S) old_wide in
    let g = length-map d (digit_glyph false) in
    let g' = length-map d' (digit_glyph false) in
    let first : take t (glyphs S es) ≡ take t (glyphs S old) =
    ext_get_or 0 _ _ (length-take-le t (glyphs S es) (omega (arith, g, long)) ∙ sym (length-take-le t (glyphs S old) (omega (arith, g', long')))) (λ j below.
    let inside : j < t = let l = length-take-le t (glyphs S es) (omega (arith, g, long)) in omega (arith, below, l) in
    get_or-take t (glyphs S es) j 0 inside ∙ get_or-map (digit_glyph false) d j 0 0 (omega (arith, long, inside))
    ∙ ap (digit_glyph false) (same j inside)
    ∙ sym (get_or-take t (glyphs S old) j 0 inside ∙ get_or-map (digit_glyph false) d' j 0 0 (omega (arith, long', inside)))) in
    let dropped = length-drop t (glyphs S es) in
    let second : take k (drop t (glyphs S es)) ≡ take k bytes =
    ext_get_or 0 _ _ (length-take-le k (drop t (glyphs S es)) (omega (arith, g, long, dropped)) ∙ sym (length-take-le k bytes enough)) (λ i below.
    let inside : i < k = let l = length-take-le k (drop t (glyphs S es)) (omega (arith, g, long, dropped)) in omega (arith, below, l) in
    get_or-take k (drop t (glyphs S es)) i 0 inside ∙ get_or-drop t (glyphs S es) i 0
    ∙ get_or-map (digit_glyph false) d (t + i) 0 0 (omega (arith, long, inside)) ∙ read i inside ∙ sym (get_or-take k bytes i 0 inside)) in
    take-add t k (glyphs S es) ∙ ap₂ (λ x y. x ++ y) first second

-- a number behind the bits before it
pub joined_small : (value len used before : ℕ) → value < 2 ^ len → before < 2 ^ used → used + len ≤ 64 → value * 2 ^ used + before < 2 ^ 64
joined_small value len used before small fits room =
    let a : suc value * 2 ^ used ≤ 2 ^ len * 2 ^ used = mul-le-mul_right (2 ^ used) small in
    let b : suc value * 2 ^ used ≡ value * 2 ^ used + 2 ^ used = omega arith in
    let c : 2 ^ (len + used) ≡ 2 ^ len * 2 ^ used = pow-add 2 len used in
    let d = pow_mono {i = len + used} {j = 64} (omega arith) in
    omega (arith, a, b, c, d, fits)

-- bits are written behind others in a word
module _ (A new : Matrix) (r q len value before merged : ℕ) (over : A.field ≡ gf2) (old_is : IsRow A.field A.cols (row A r)) (room : q % 64 + len ≤ 64) (fits : before < 2 ^ (q % 64))
    (bits : (i : ℕ) → i < q % 64 → bit_at before i ≡ get_or (row A r) (q / 64 * 64 + i) 0) (is : merged ≡ value * 2 ^ (q % 64) + before)
    (changed : new ≡ with_row A r (with_word (q / 64) merged (row A r))) where
  old : List ℕ
  old = get_or A.entries r []

  w : ℕ
  w = q / 64

  entry : (j : ℕ) → j < A.cols → get_or (with_word (q / 64) merged (get_or A.entries r [])) j 0 ≡ cond (nat_eq (j / 64) (q / 64)) (bit_at merged (j % 64)) (get_or (get_or A.entries r []) j 0)
  entry j below = get_or-map-range_with_len _ 0 (length (get_or A.entries r [])) j j 0 (let l = old_is.wide in omega (arith, l, below)) (omega arith)

  wide : length (with_word (q / 64) merged (get_or A.entries r [])) ≡ A.cols
  wide = length-map-range_with_len _ 0 (length (get_or A.entries r [])) ∙ old_is.wide

  small : (j : ℕ) → j < A.cols → get_or (with_word (q / 64) merged (get_or A.entries r [])) j 0 < 2
  small j below = elim (cases_eq (j / 64) (q / 64)) [
    | inl here ↦ let e = entry j below ∙ cond-true _ _ _ (eq-eqb (j / 64) (q / 64) here) in let l = bit_at-lt merged (j % 64) in omega (arith, e, l)
    | inr away ↦
        let e = entry j below ∙ cond-false _ _ _ (ne_eqb (j / 64) (q / 64) away) in
        let l : get_or (get_or A.entries r []) j 0 < 2 = subst (λ F. get_or (get_or A.entries r []) j 0 < 2 ^ F.degree) over (old_is.elements j below) in
        omega (arith, e, l)
  ]

  kept : (j : ℕ) → j < q → get_or (with_word (q / 64) merged (get_or A.entries r [])) j 0 ≡ get_or (get_or A.entries r []) j 0
  kept j front = elim (cases_lt j A.cols) [
    | inr past ↦ get_or_past _ j 0 (let l = wide in omega (arith, l, past)) ∙ sym (get_or_past _ j 0 (let l = old_is.wide in omega (arith, l, past)))
    | inl below ↦ elim (cases_eq (j / 64) (q / 64)) [
      | inr away ↦ entry j below ∙ cond-false _ _ _ (ne_eqb (j / 64) (q / 64) away)
      | inl here ↦
          let low : j % 64 < q % 64 = omega (arith, here, front) in
          let place : q / 64 * 64 + j % 64 ≡ j = omega (arith, here) in
          entry j below ∙ cond-true _ _ _ (eq-eqb (j / 64) (q / 64) here) ∙ ap (λ x. bit_at x (j % 64)) is
          ∙ bit_at_cat_low value (q % 64) before (j % 64) low ∙ bits (j % 64) low ∙ ap (λ k. get_or (get_or A.entries r []) k 0) place
    ]
  ]

  put : (i : ℕ) → i < len → q + i < A.cols → get_or (with_word (q / 64) merged (get_or A.entries r [])) (q + i) 0 ≡ bit_at value i
  put i below inside =
      let here : (q + i) / 64 ≡ q / 64 = omega arith in
      let place : (q + i) % 64 ≡ q % 64 + i = omega arith in
      let back : q % 64 + i - q % 64 ≡ i = omega arith in
      entry (q + i) inside ∙ cond-true _ _ _ (eq-eqb ((q + i) / 64) (q / 64) here) ∙ ap₂ bit_at is place
      ∙ bit_at_cat_high value (q % 64) before (q % 64 + i) fits (omega arith) ∙ ap (bit_at value) back

  pub bits_written : WritesBits A new r q len value
  bits_written = record {
    entries = with_word (q / 64) merged (get_or A.entries r []);
    is = record { wide = wide; elements = λ j below. subst (λ F. get_or (with_word (q / 64) merged (get_or A.entries r [])) j 0 < 2 ^ F.degree) (sym over) (small j below) };
    changed = changed;
    before = kept;
    written = put;
  }

-- digits of one entry
pub bits_taken : (A new : Matrix) (r t k word : ℕ) (bytes : List ℕ) → IsRow A.field A.cols (row A r) → t + k ≤ A.cols → k ≤ length bytes
    → take k bytes ≡ digits_of word (length (take k bytes)) → WritesBits A new r t k word → ReadsDigits Bits bytes A new r t k
bits_taken A new r t k word bytes old_is within enough spelled written = record {
  within = enough;
  in_line = within;
  entries = written.entries;
  is = written.is;
  changed = written.changed;
  front = front_many Bits A.cols t k (row A r) written.entries bytes old_is.wide written.is.wide within enough (λ j below. written.before j below)
      (λ i below.
      let cut = length-take-le k bytes enough in
      let e = written.written i below (omega arith) in
      let l = bit_at-lt word i in
      ap (digit_glyph false) e ∙ glyph_low (bit_at word i) (omega (arith, l))
      ∙ sym (sym (get_or-take k bytes i 0 below) ∙ ap (λ x. get_or x i 0) spelled
      ∙ get_or-map-range_with_len (λ j. 48 + bit_at word j) 0 (length (take k bytes)) i i 0 (omega (arith, cut, below)) (omega arith)));
}

-- powers of 16
pub pow_four : (x : ℕ) → 2 ^ (4 * x) ≡ 16 ^ x
pow_four zero = refl
pow_four (suc x) =
    let e : 4 * suc x ≡ 4 * x + 4 = omega arith in
    let s : 16 ^ suc x ≡ 16 ^ x * 16 = (let f : suc x ≡ x + 1 = omega arith in ap (λ k. 16 ^ k) f ∙ pow-add 16 x 1) in
    ap (λ k. 2 ^ k) e ∙ pow-add 2 (4 * x) 4 ∙ ap (λ y. y * 16) (pow_four x) ∙ sym s

-- the word of hexadecimal digits, the first so many of which are read
pub record IsWordOfFours (bytes : List ℕ) (k word : ℕ) : Type 0 where
  pub small : word < 16 ^ k
  pub values : (i : ℕ) → i < k → IsValue (get_or bytes i 0) (word / 16 ^ i % 16)

pub fours_more : (bytes : List ℕ) (k word v : ℕ) → IsWordOfFours bytes k word → IsValue (get_or bytes k 0) v → IsWordOfFours bytes (k + 1) (word + v * 2 ^ (4 * k))
fours_more bytes k word v so_far is =
    let p = 16 ^ k in
    let scaled : word + v * 2 ^ (4 * k) ≡ v * 16 ^ k + word = ap (λ x. word + v * x) (pow_four k) ∙ omega arith in
    let next : 16 ^ (k + 1) ≡ 16 ^ k * 16 = pow-add 16 k 1 in
    let below = so_far.small in
    let v_small = is.small in
    let most : v * 16 ^ k ≤ 15 * 16 ^ k = mul-le-mul_right (16 ^ k) (omega (arith, v_small)) in
    record {
      small = subst (λ x. x < 16 ^ (k + 1)) (sym scaled) (omega (arith, next, below, most));
      values = λ i i_below. subst (λ x. IsValue (get_or bytes i 0) (x / 16 ^ i % 16)) (sym scaled) (elim (cases_eq i k) [
        | inl here ↦
            let e : (v * 16 ^ k + word) / 16 ^ k ≡ v = div-mul-add v (16 ^ k) word below in
            let m : v % 16 ≡ v = omega (arith, v_small) in
            subst (λ y. IsValue (get_or bytes y 0) ((v * 16 ^ k + word) / 16 ^ y % 16)) (sym here) (subst (IsValue (get_or bytes k 0)) (sym (ap (λ x. x % 16) e ∙ m)) is)
        | inr away ↦
            let front : i < k = omega (arith, away, i_below) in
            let d = k - 1 - i in
            let split : k ≡ (d + 1) + i = omega arith in
            let power : 16 ^ k ≡ 16 ^ (d + 1) * 16 ^ i = ap (λ j. 16 ^ j) split ∙ pow-add 16 (d + 1) i in
            let power' : 16 ^ (d + 1) ≡ 16 ^ d * 16 = pow-add 16 d 1 in
            let arranged : v * 16 ^ k + word ≡ word + (v * 16 ^ d * 16) * 16 ^ i =
            ap (λ x. v * x + word) (power ∙ ap (λ x. x * 16 ^ i) power') ∙ reorder v (16 ^ d) (16 ^ i) word in
            let z : 0 < 16 ^ i = subst (λ x. 0 < x) (pow_four i) (pow_pos (4 * i)) in
            let e : (v * 16 ^ k + word) / 16 ^ i ≡ word / 16 ^ i + v * 16 ^ d * 16 = ap (λ x. x / 16 ^ i) arranged ∙ add-mul-div_right word (v * 16 ^ d * 16) z in
            let m : (word / 16 ^ i + v * 16 ^ d * 16) % 16 ≡ word / 16 ^ i % 16 = omega arith in
            subst (IsValue (get_or bytes i 0)) (sym (ap (λ x. x % 16) e ∙ m)) (so_far.values i front)
      ]);
    }
  where
    reorder : (v a b w : ℕ) → v * (a * 16 * b) + w ≡ w + (v * a * 16) * b
    reorder v a b w = grind arith

pub fours_room : (k word v : ℕ) → k < 16 → word < 16 ^ k → v < 16 → word + v * 2 ^ (4 * k) < 2 ^ 64
fours_room k word v few small digit =
    let scaled : 2 ^ (4 * k) ≡ 16 ^ k = pow_four k in
    let small' : word < 2 ^ (4 * k) = subst (λ x. word < x) (sym scaled) small in
    let j = joined_small v 4 (4 * k) word digit small' (omega arith) in
    omega (arith, j)

-- the bits of a digit
bit_shift : (word i b : ℕ) → bit_at word (4 * i + b) ≡ bit_at (word / 16 ^ i) b
bit_shift word i b = ap (λ x. x % 2) (ap (λ p. word / p) (pow-add 2 (4 * i) b ∙ ap (λ x. x * 2 ^ b) (pow_four i)) ∙ sym (div-div-eq-div-mul word (16 ^ i) (2 ^ b)))

nibble : (y : ℕ) → bit_at y 0 + 2 * bit_at y 1 + 4 * bit_at y 2 + 8 * bit_at y 3 ≡ y % 16
nibble y = omega arith

-- digits of four entries
module _ (A new : Matrix) (r t k word : ℕ) (bytes : List ℕ) (over : A.field ≡ gf2) (old_is : IsRow A.field A.cols (row A r)) (within : t + k ≤ digits_in Fours A.cols) (enough : k ≤ length bytes)
    (is : IsWordOfFours bytes k word) (bounded : (4 * k ≤ A.cols - 4 * t) ⊎ (word < 2 ^ (A.cols - 4 * t))) (written : WritesBits A new r (4 * t) (4 * k) word) where
  es : List ℕ
  es = written.entries

  -- an entry, or none past the last column
  four_entry : (i b : ℕ) → i < k → b < 4 → get_or written.entries (4 * (t + i) + b) 0 ≡ bit_at word (4 * i + b)
  four_entry i b below few =
      let place : 4 * (t + i) + b ≡ 4 * t + (4 * i + b) = omega arith in
      ap (λ j. get_or written.entries j 0) place ∙ (elim (cases_lt (4 * t + (4 * i + b)) A.cols) [
        | inl inside ↦ written.written (4 * i + b) (omega arith) inside
        | inr past ↦
            get_or_past written.entries (4 * t + (4 * i + b)) 0 (let l = written.is.wide in omega (arith, l, past))
            ∙ sym (elim bounded [
              | inl room ↦ absurd (omega (arith, room, past))
              | inr small ↦ bit_at_above word (A.cols - 4 * t) (4 * i + b) small (omega (arith, past))
            ])
      ])

  zero_place : (x : ℕ) → x + 0 ≡ x
  zero_place x = omega arith

  digit : (i : ℕ) → i < k → digit_of_four written.entries (t + i) ≡ word / 16 ^ i % 16
  digit i below =
      let a = ap (λ j. get_or written.entries j 0) (sym (zero_place (4 * (t + i)))) ∙ four_entry i 0 below (lit< tt) ∙ bit_shift word i 0 in
      let b = four_entry i 1 below (lit< tt) ∙ bit_shift word i 1 in
      let c = four_entry i 2 below (lit< tt) ∙ bit_shift word i 2 in
      let d = four_entry i 3 below (lit< tt) ∙ bit_shift word i 3 in
      let n = nibble (word / 16 ^ i) in
      ap₂ (λ x y. x + 2 * y + 4 * get_or written.entries (4 * (t + i) + 2) 0 + 8 * get_or written.entries (4 * (t + i) + 3) 0) a b
      ∙ ap₂ (λ x y. bit_at (word / 16 ^ i) 0 + 2 * bit_at (word / 16 ^ i) 1 + 4 * x + 8 * y) c d ∙ n

  same : (j : ℕ) → j < t → digit_of_four written.entries j ≡ digit_of_four (get_or A.entries r []) j
  same j below =
      let a = written.before (4 * j) (omega arith) in
      let b = written.before (4 * j + 1) (omega arith) in
      let c = written.before (4 * j + 2) (omega arith) in
      let d = written.before (4 * j + 3) (omega arith) in
      ap₂ (λ x y. x + 2 * y + 4 * get_or written.entries (4 * j + 2) 0 + 8 * get_or written.entries (4 * j + 3) 0) a b
      ∙ ap₂ (λ x y. get_or (get_or A.entries r []) (4 * j) 0 + 2 * get_or (get_or A.entries r []) (4 * j + 1) 0 + 4 * x + 8 * y) c d

  pub fours_taken : ReadsDigits Fours bytes A new r t k
  fours_taken =
      let wide : length written.entries ≡ A.cols = written.is.wide in
      record {
        within = enough;
        in_line = within;
        entries = written.entries;
        is = written.is;
        changed = written.changed;
        front = front_many Fours A.cols t k (row A r) written.entries bytes old_is.wide written.is.wide within enough
            (λ j below. get_or-fours written.entries j (subst (λ n. j < (n + 3) / 4) (sym wide) (omega (arith, below, within))) ∙ same j below
            ∙ sym (get_or-fours (get_or A.entries r []) j (subst (λ n. j < (n + 3) / 4) (sym old_is.wide) (omega (arith, below, within)))))
            (λ i below. ap (digit_glyph false) (get_or-fours written.entries (t + i) (subst (λ n. t + i < (n + 3) / 4) (sym wide) (omega (arith, below, within))) ∙ digit i below)
            ∙ sym (is.values i below).glyph);
      }

-- one digit that may not stand there
pub four_refused : (n t word byte v : ℕ) → word < 16 → IsValue byte (word / 16 ^ 0 % 16) → IsValue byte v → v < 2 ^ (n - 4 * t) → word < 2 ^ (n - 4 * t)
four_refused n t word byte v small is is' stands =
    let e : word / 16 ^ 0 % 16 ≡ v = glyph_injective (word / 16 ^ 0 % 16) v is.small is'.small (sym is.glyph ∙ is'.glyph) in
    let p : word / 16 ^ 0 % 16 ≡ word = omega arith in
    subst (λ x. x < 2 ^ (n - 4 * t)) (sym e ∙ p) stands

-- what is read of a front of the bytes
pub of_front : (bytes : List ℕ) (k word : ℕ) → k ≤ length bytes → word < 16 ^ length (take k bytes)
    → ((i : ℕ) → i < length (take k bytes) → IsValue (get_or (take k bytes) i 0) (word / 16 ^ i % 16)) → IsWordOfFours bytes k word
of_front bytes k word enough small values =
    let cut = length-take-le k bytes enough in
    record {
      small = subst (λ n. word < 16 ^ n) cut small;
      values = λ i below. subst (λ b. IsValue b (word / 16 ^ i % 16)) (get_or-take k bytes i 0 below) (values i (omega (arith, cut, below)));
    }

pub few_fours : (bytes : List ℕ) (k word : ℕ) → k ≤ length bytes → word < 16 ^ length (take k bytes) → word < 2 ^ (4 * k)
few_fours bytes k word enough small =
    let cut = length-take-le k bytes enough in
    subst (λ x. word < x) (sym (pow_four k)) (subst (λ n. word < 16 ^ n) cut small)

-- one byte that is no digit
pub one_front : (bytes : List ℕ) (k v : ℕ) → k ≡ 1 → k ≤ length bytes → IsValue (get_or bytes 0 0) v
    → (i : ℕ) → i < length (take k bytes) → (v : ℕ) × IsValue (get_or (take k bytes) i 0) v
one_front bytes k v one enough is i below =
    let cut = length-take-le k bytes enough in
    let none : i ≡ 0 = omega (arith, cut, below, one) in
    let e = get_or-take k bytes 0 0 (omega (arith, one)) in
    (v, subst (λ j. IsValue (get_or (take k bytes) j 0) v) (sym none) (subst (λ b. IsValue b v) (sym e) is))

-- a digit, moved to its place
pub moved : (k v x : ℕ) → k < 16 → v < 16 → x ≡ v → x * 2 ^ (4 * k) % 2 ^ 64 ≡ v * 2 ^ (4 * k)
moved k v x few small same =
    let p = pow_pos (4 * k) in
    let room = joined_small v 4 (4 * k) 0 small p (omega arith) in
    let below : v * 2 ^ (4 * k) < 2 ^ 64 = omega (arith, room) in
    ap (λ y. y * 2 ^ (4 * k) % 2 ^ 64) same ∙ mod-eq_of_lt below

-- a digit of four entries by the bits of their word
pub four_of_bits : (entries : List ℕ) (w i word : ℕ) → i < 16 → ((j : ℕ) → j < 64 → bit_at word j ≡ get_or entries (w * 64 + j) 0)
    → digit_of_four entries (16 * w + i) ≡ word / 16 ^ i % 16
four_of_bits entries w i word few bits =
    let at : (b : ℕ) → b < 4 → (p : ℕ) → p ≡ 4 * (16 * w + i) + b → get_or entries p 0 ≡ bit_at (word / 16 ^ i) b =
    λ b small p is.
    let place : w * 64 + (4 * i + b) ≡ p = omega (arith, is) in
    sym (bits (4 * i + b) (omega (arith, few, small)) ∙ ap (λ q. get_or entries q 0) place) ∙ bit_shift word i b in
    let a = at 0 (lit< tt) (4 * (16 * w + i)) (omega arith) in
    let b = at 1 (lit< tt) (4 * (16 * w + i) + 1) refl in
    let c = at 2 (lit< tt) (4 * (16 * w + i) + 2) refl in
    let d = at 3 (lit< tt) (4 * (16 * w + i) + 3) refl in
    ap₂ (λ x y. x + 2 * y + 4 * get_or entries (4 * (16 * w + i) + 2) 0 + 8 * get_or entries (4 * (16 * w + i) + 3) 0) a b
    ∙ ap₂ (λ x y. bit_at (word / 16 ^ i) 0 + 2 * bit_at (word / 16 ^ i) 1 + 4 * x + 8 * y) c d ∙ nibble (word / 16 ^ i)
