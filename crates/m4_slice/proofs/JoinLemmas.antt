-- Packed elements put together from slices, word by word and row by row.
use Rattle.std.proofs.Common.{◌≡◌, ℕ, zero, suc, ◌+◌, ◌-◌, ◌*◌, ◌/◌, ◌%◌, ◌^◌, ◌<◌, ◌≤◌, max, inl, inr, cond, nat_lt, length, get_or, refl, sym, ◌∙◌, ap, ap₂, arith, bit_or, bit_xor}
use Rattle.std.specs.Int.{bit_at}
use Rattle.std.proofs.lemmas.Nat.{div-add-mod'}
use Rattle.std.proofs.lemmas.Nat.Bits.{bit_at_or, bit_at-zero}
use Rattle.std.proofs.lemmas.Bool.{cases_lt, cases_eq, cond-true, cond-false, lt-ltb, le-ltb}
use Rattle.m4_model.specs.Field.{gf2}
use Rattle.m4_model.specs.Matrix.{Matrix, IsMatrix, row, at, row_sum, with_row, matrix_of}
use Rattle.m4_model.specs.Text.{words_per_row}
use Rattle.m4_model.proofs.MatrixLemmas.{length-row-table, at-table}
use Rattle.m4_bits.proofs.BitsLemmas.{bit_at-xor, length-row_sum, get_or-row_sum}
use Rattle.m4_bits.proofs.TransposeLemmas.{bit_at-mod, bit_at-shl_low, bit_at-shl_high}
use Rattle.m4_mzd.specs.Window.{Window, content, showing}
use Rattle.m4_mzed.proofs.SumLemmas.{place_element, place_bit}
use Rattle.m4_slice.specs.Gathered.{IsSpread}
use Rattle.m4_slice.specs.Sliced.{bits_spread}
use Rattle.m4_slice.proofs.WidthLemmas.{Fills, next_le}
use Rattle.m4_slice.proofs.LoadLemmas.{RowSetTo, rows_taken, taken_more, row_still, times_le}

-- ---- one word: in each number the bits before bit v are told, and the others are 0
abbrev pub SpreadTo : ℕ → ℕ → (ℕ → ℕ → ℕ) → ℕ → Type 0
SpreadTo w v f word = (r u : ℕ) → r < 64 / w → u < w → bit_at word (r * w + u) ≡ cond (nat_lt u v) (f u r) 0

pub spread_none : (w : ℕ) (f : ℕ → ℕ → ℕ) → SpreadTo w 0 f 0
spread_none w f r u r_below u_below = bit_at-zero (r * w + u) ∙ sym (cond-false _ _ _ (le-ltb u 0 (omega arith)))

max_left : (a b c : ℕ) → a ≡ c → b ≡ 0 → max a b ≡ c
max_left a b c is none = rw none (rw is (omega arith))

max_right : (a b c : ℕ) → a ≡ 0 → b ≡ c → max a b ≡ c
max_right a b c none is = rw none (rw is (omega arith))

module _ (w v : ℕ) (fill : Fills w) (v_below : v < w) (f : ℕ → ℕ → ℕ) (word x g : ℕ) (so_far : SpreadTo w v f word) (apart : IsSpread w x g)
    (reads : (r : ℕ) → r < 64 / w → bit_at x r ≡ f v r) where
  in_word : (r u : ℕ) → r < 64 / w → u < w → r * w + u < 64
  in_word r u r_below u_below = let m = next_le r (64 / w) w r_below in let e = fill.whole in omega (arith, m, e, u_below)

  added : (r u : ℕ) → r < 64 / w → u < w → bit_at (bit_or word (g * 2 ^ v % 2 ^ 64)) (r * w + u) ≡ max (bit_at word (r * w + u)) (bit_at (g * 2 ^ v) (r * w + u))
  added r u r_below u_below = bit_at_or word (g * 2 ^ v % 2 ^ 64) (r * w + u) ∙ ap (max (bit_at word (r * w + u))) (bit_at-mod _ 64 (r * w + u) (in_word r u r_below u_below))

  below : (r u : ℕ) → r < 64 / w → u < v → bit_at (g * 2 ^ v) (r * w + u) ≡ 0
  below zero u r_below less = bit_at-shl_low g v (0 * w + u) (omega (arith, less))
  below (suc r) u r_below less =
      let e : suc r * w ≡ r * w + w = grind arith in
      bit_at-shl_high g v (suc r * w + u) (r * w + (w + u - v)) (omega (arith, e, v_below))
      ∙ apart.between r (w + u - v) (omega (arith, r_below)) (omega (arith, v_below)) (omega (arith, v_below, less))

  here : (r : ℕ) → r < 64 / w → bit_at (g * 2 ^ v) (r * w + v) ≡ f v r
  here r r_below = bit_at-shl_high g v (r * w + v) (r * w) refl ∙ apart.spread r r_below ∙ reads r r_below

  above : (r u : ℕ) → r < 64 / w → v < u → u < w → bit_at (g * 2 ^ v) (r * w + u) ≡ 0
  above r u r_below more u_below = bit_at-shl_high g v (r * w + u) (r * w + (u - v)) (omega (arith, more)) ∙ apart.between r (u - v) r_below (omega (arith, more)) (omega (arith, more, u_below))

  pub spread_more : SpreadTo w (v + 1) f (bit_or word (g * 2 ^ v % 2 ^ 64))
  spread_more r u r_below u_below = added r u r_below u_below ∙ elim (cases_lt u v) [
    | inl less ↦
        max_left _ _ _ (so_far r u r_below u_below ∙ cond-true _ _ _ (lt-ltb u v less)) (below r u r_below less)
        ∙ sym (cond-true _ _ _ (lt-ltb u (v + 1) (omega (arith, less))))
    | inr past ↦ elim (cases_eq u v) [
      | inl same ↦
          max_right _ _ _ (so_far r u r_below u_below ∙ cond-false _ _ _ (le-ltb u v past)) (ap (λ t. bit_at (g * 2 ^ v) (r * w + t)) same ∙ here r r_below)
          ∙ ap (λ t. f t r) (sym same)
          ∙ sym (cond-true _ _ _ (lt-ltb u (v + 1) (omega (arith, same))))
      | inr other ↦
          max_left _ _ _ (so_far r u r_below u_below ∙ cond-false _ _ _ (le-ltb u v past)) (above r u r_below (omega (arith, past, other)) u_below)
          ∙ sym (cond-false _ _ _ (le-ltb u (v + 1) (omega (arith, past, other))))
    ]
  ]

-- where the bits of a packed word stand in the slices
pub sliced_place : (w q r : ℕ) → Fills w → q / w * 64 + (q % w * (64 / w) + r) ≡ q * (64 / w) + r
sliced_place w q r fill =
    let a : q ≡ q / w * w + q % w = sym (div-add-mod' q w) in
    let b : (q / w * w + q % w) * (64 / w) ≡ q / w * (64 / w * w) + q % w * (64 / w) = grind arith in
    let c : q / w * (64 / w * w) ≡ q / w * 64 = ap (λ n. q / w * n) fill.whole in
    let d : q * (64 / w) ≡ (q / w * w + q % w) * (64 / w) = ap (λ n. n * (64 / w)) a in
    omega (arith, b, c, d)

pub far_below : (w q r : ℕ) → Fills w → r < 64 / w → q % w * (64 / w) + r < 64
far_below w q r fill below =
    let s = fill.some in
    let m = next_le (q % w) w (64 / w) (omega (arith, s)) in
    let e : w * (64 / w) ≡ 64 / w * w = grind arith in
    let f = fill.whole in omega (arith, m, e, f, below)

pub slice_word : (w q c : ℕ) → Fills w → q < words_per_row (c * w) → q / w < words_per_row c
slice_word w q c fill below = elim (cases_lt (q / w * 64) c) [
  | inl inside ↦ omega (arith, inside)
  | inr past ↦ absurd (
      let a : c * w ≤ q / w * 64 * w = times_le c (q / w * 64) w past in
      let b : q / w * 64 * w ≡ q / w * w * 64 = grind arith in
      let d : q ≡ q / w * w + q % w = sym (div-add-mod' q w) in
      omega (arith, a, b, d, below))
]

-- ---- one row: the bits of the numbers are added
abbrev pub spread_bit : ℕ → ℕ → ℕ → Matrix → ℕ → ℕ → ℕ
spread_bit w e m S i p = cond (nat_lt (p % w) e) (at S (p % w * m + i) (p / w)) 0

pub spread_bits : (w e m q i : ℕ) (S : Matrix) (first now : Window) (word sum : ℕ) → Fills w
    → RowSetTo first now i q (λ p. bit_xor (at (content first) i p) (spread_bit w e m S i p))
    → ((j : ℕ) → j < 64 → bit_at word j ≡ at (content now) i (q * 64 + j))
    → ((r v : ℕ) → r < 64 / w → v < w → bit_at sum (r * w + v) ≡ cond (nat_lt v e) (at S (v * m + i) (q * (64 / w) + r)) 0)
    → (j : ℕ) → j < 64 → q * 64 + j < first.cols → bit_at (bit_xor word sum) j ≡ bit_xor (at (content first) i (q * 64 + j)) (spread_bit w e m S i (q * 64 + j))
spread_bits w e m q i S first now word sum fill so_far reads sums j below within =
    let s = fill.some in
    let whole = fill.whole in
    let split : j / w * w + j % w ≡ j = div-add-mod' j w in
    let u_below : j % w < w = omega (arith, s) in
    let r_below : j / w < 64 / w = quotient_below w j fill below in
    bit_at-xor word sum j
    ∙ ap₂ bit_xor (reads j below ∙ so_far.bits.rest (q * 64 + j) within (omega arith))
    (ap (bit_at sum) (sym split) ∙ sums (j / w) (j % w) r_below u_below
    ∙ ap₂ (λ v r. cond (nat_lt v e) (at S (v * m + i) r) 0) (sym (place_bit w (64 / w) whole q j)) (sym (place_element w (64 / w) whole q j)))
  where
    quotient_below : (w j : ℕ) → Fills w → j < 64 → j / w < 64 / w
    quotient_below w j fill below = elim (cases_lt (j / w) (64 / w)) [
      | inl less ↦ less
      | inr more ↦ absurd (
          let s = fill.some in let e = fill.whole in
          let m : 64 / w * w ≤ j / w * w = times_le (64 / w) (j / w) w more in
          let d : j ≡ j / w * w + j % w = sym (div-add-mod' j w) in
          omega (arith, m, e, d, below))
    ]

-- the new row
pub length-summed : (D R : Matrix) (i : ℕ) → length (row_sum (row D i) (row R i)) ≡ length (row D i)
length-summed D R i = length-row_sum (row D i) (row R i)

pub entry-summed : (D : Matrix) (m n : ℕ) (g : ℕ → ℕ → ℕ) (i p : ℕ) → i < m → p < n → length (row D i) ≡ n
    → get_or (row_sum (row D i) (row (matrix_of gf2 m n g) i)) p 0 ≡ bit_xor (at D i p) (g i p)
entry-summed D m n g i p below within long =
    get_or-row_sum (row D i) (row (matrix_of gf2 m n g) i) p (long ∙ sym (length-row-table m n g i below)) ∙ ap (bit_xor (at D i p)) (at-table m n g i p below within)

-- ---- all slices, and all rows
pub spread_all : (w e v : ℕ) (f : ℕ → ℕ → ℕ) (word : ℕ) → v ≡ e → SpreadTo w v f word → (r u : ℕ) → r < 64 / w → u < w → bit_at word (r * w + u) ≡ cond (nat_lt u e) (f u r) 0
spread_all w e v f word all is r u r_below u_below = is r u r_below u_below ∙ ap (λ k. cond (nat_lt u k) (f u r) 0) all

pub summed_more : (w e m : ℕ) (d now next : Window) (S : Matrix) (i : ℕ) → IsMatrix (content d) → m ≡ d.rows → i < d.rows → d.cols ≡ S.cols * w
    → now ≡ rows_taken d (λ i p. bit_xor (at (content d) i p) (at (bits_spread w e d.rows S) i p)) i
    → next ≡ showing now (with_row (content now) i (row_sum (row (content now) i) (row (bits_spread w e m S) i)))
    → next ≡ rows_taken d (λ i p. bit_xor (at (content d) i p) (at (bits_spread w e d.rows S) i p)) (i + 1)
summed_more w e m d now next S i is rows below cols so_far written =
    let t : ℕ → ℕ → ℕ = λ i p. bit_xor (at (content d) i p) (at (bits_spread w e d.rows S) i p) in
    let D = content d in
    let R = bits_spread w e d.rows S in
    let long = is.width i below in
    taken_more d now next t i (row_sum (row D i) (row R i)) below (length-summed D R i ∙ long)
    (λ p within. get_or-row_sum (row D i) (row R i) p (long ∙ cols ∙ sym (length-row-table d.rows (S.cols * w) _ i below)))
    so_far
    (written ∙ ap₂ (λ l k. showing now (with_row (content now) i (row_sum l (row (bits_spread w e k S) i)))) (row_still d now t i is below so_far) rows)
