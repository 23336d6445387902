-- Numbers that are packed in the rows of a matrix of bits, turned block by block.
use Rattle.std.proofs.Common.{◌≡◌, ◌≢◌, ℕ, ◌+◌, ◌*◌, ◌/◌, ◌%◌, ◌<◌, ◌≤◌, inl, inr, cond, List, get_or, refl, sym, ◌∙◌, ap, ap₂, subst, arith, eqb, ◌==◌, ◌||◌, IsTrue}
use Rattle.std.specs.Prelude.{nat_lt}
use Rattle.std.specs.Int.{bit_at}
use Rattle.std.proofs.Math.Nat.{div-lt_iff_lt-mul, zero-div}
use Rattle.std.proofs.lemmas.Nat.{div-add-mod', div-mul-add}
use Rattle.std.proofs.lemmas.Bool.{cases_lt, cases_eq, cond-true, cond-false, lt-ltb, le-ltb, eq-eqb, ne_eqb}
use Rattle.m4_model.specs.Matrix.{Matrix, IsMatrix, at, table, matrix_of}
use Rattle.m4_model.proofs.MatrixLemmas.{at-table, same_table}
use Rattle.m4_bits.specs.Transpose.{AreTransposed}
use Rattle.m4_mzd.specs.Window.{Window, content, showing}
use Rattle.m4_mzd.specs.Parts.{with_words}
use Rattle.m4_shape.proofs.PlacedLemmas.{table_same}
use Rattle.m4_mzed.proofs.PackedSums.{next_le}
use Rattle.m4_mzed.proofs.SumLemmas.{place_element, place_bit}
use Rattle.m4_eshape.specs.Turned.{numbers_turned}

-- numbers of w bits fill a word
pub record FillWords (w : ℕ) : Type 0 where
  pub some : 1 ≤ w
  pub whole : 64 / w * w ≡ 64

-- the first 64 k columns of a matrix are turned numbers of another
abbrev pub turned_to : ℕ → Matrix → Matrix → ℕ → ℕ → ℕ → ℕ
turned_to w A B k i p = cond (nat_lt p (k * 64)) (at A (p / w) (i * w + p % w)) (at B i p)

abbrev pub turned_window : ℕ → Window → Matrix → ℕ → Window
turned_window w d A k = showing d (matrix_of (content d).field d.rows d.cols (turned_to w A (content d) k))

pub turned_none : (w : ℕ) (d : Window) (A : Matrix) → IsMatrix (content d) → d ≡ turned_window w d A 0
turned_none w d A is =
    ap {B = Window} (λ l. record d { bits = l }) (same_table d.rows d.cols (turned_to w A (content d) 0) d.bits is.height is.width (λ i p below within.
    sym (cond-false _ _ _ (le-ltb p (0 * 64) (omega arith)))))

-- as many rows as a row has numbers
pub turned_rows : (w n c : ℕ) → 1 ≤ w → n * w ≡ c → c / w ≡ n
turned_rows w n c some is = ap (λ x. x / w) (sym is ∙ (omega arith)) ∙ div-mul-add n w 0 (omega (arith, some))

pub turned_all : (w : ℕ) → FillWords w → (d : Window) (A : Matrix) (k : ℕ) → d.rows * w ≡ A.cols → d.cols ≡ A.rows * w → d.cols ≤ k * 64
    → turned_window w d A k ≡ showing d (numbers_turned w A)
turned_all w fill d A k rows cols all =
    ap {B = Window} (λ l. record d { bits = l })
    (table_same d.rows d.cols (turned_to w A (content d) k) (λ i p. at A (p / w) (i * w + p % w)) (λ i p below within. cond-true _ _ _ (lt-ltb p (k * 64) (omega (arith, all, within))))
    ∙ ap₂ (λ m n. table m n (λ i p. at A (p / w) (i * w + p % w))) (sym (turned_rows w d.rows A.cols fill.some rows)) cols)

-- a block that was read, turned and written
pub turned_more : (w : ℕ) → FillWords w → (d now next : Window) (A : Matrix) (k : ℕ) (read block : List ℕ) → d.rows ≤ 64 / w
    → ((i j : ℕ) → i < 64 / w → j < 64 → bit_at (get_or read i 0) j ≡ at A (k * (64 / w) + i) (0 * 64 + j)) → AreTransposed w read block
    → now ≡ turned_window w d A k → next ≡ showing now (with_words k block (content now)) → next ≡ turned_window w d A (k + 1)
turned_more w fill d now next A k read block few in_read turned is written =
    let so_far = turned_to w A (content d) k in
    written ∙ ap (λ (x : Window). showing x (with_words k block (content x))) is
    ∙ ap {B = Window} (λ l. record d { bits = l })
    (table_same d.rows d.cols (λ i p. cond (eqb (p / 64) k) (bit_at (get_or block i 0) (p % 64)) (at (content (turned_window w d A k)) i p)) (turned_to w A (content d) (k + 1)) (λ i p below within.
    elim (cases_eq (p / 64) k) [
      | inl here ↦
          let q = p % 64 in
          let place : k * 64 + q ≡ p = omega (arith, here) in
          let j_below : q / w < 64 / w = (div-lt_iff_lt-mul fill.some).1 (let e = fill.whole in omega (arith, e)) in
          let u_below : q % w < w = (let s = fill.some in omega (arith, s)) in
          let bit : i * w + q % w < 64 = (let m = next_le i (64 / w) w (omega (arith, below, few)) in let e = fill.whole in omega (arith, m, e, u_below)) in
          let col : 0 * 64 + (i * w + q % w) ≡ i * w + q % w = omega arith in
          cond-true _ _ _ (eq-eqb (p / 64) k here)
          ∙ ap (bit_at (get_or block i 0)) (sym (div-add-mod' q w))
          ∙ turned i (q / w) (q % w) (omega (arith, below, few)) j_below u_below
          ∙ in_read (q / w) (i * w + q % w) j_below bit
          ∙ ap₂ (at A) (sym (place_element w (64 / w) fill.whole k q) ∙ ap (λ x. x / w) place) col
          ∙ ap (λ u. at A (p / w) (i * w + u)) (sym (place_bit w (64 / w) fill.whole k q) ∙ ap (λ x. x % w) place)
          ∙ sym (cond-true _ _ _ (lt-ltb p ((k + 1) * 64) (omega (arith, here))))
      | inr away ↦
          cond-false _ _ _ (ne_eqb (p / 64) k away) ∙ at-table d.rows d.cols so_far i p below within
          ∙ elim (cases_lt p (k * 64)) [
            | inl before ↦
                cond-true _ _ _ (lt-ltb p (k * 64) before) ∙ sym (cond-true _ _ _ (lt-ltb p ((k + 1) * 64) (omega arith)))
            | inr after ↦
                cond-false _ _ _ (le-ltb p (k * 64) after) ∙ sym (cond-false _ _ _ (le-ltb p ((k + 1) * 64) (omega (arith, away))))
          ]
    ]))

-- a matrix of no columns
pub turned_empty : (w : ℕ) → 1 ≤ w → (d : Window) (A : Matrix) → IsMatrix (content d) → d.rows * w ≡ A.cols → A.cols ≡ 0 → d ≡ showing d (numbers_turned w A)
turned_empty w some d A is rows none =
    let empty : A.cols / w ≡ 0 = ap (λ x. x / w) none ∙ zero-div w in
    let no_rows : d.rows ≡ 0 = sym (turned_rows w d.rows A.cols some rows) ∙ empty in
    ap {B = Window} (λ l. record d { bits = l })
    (same_table (A.cols / w) (A.rows * w) (λ i p. at A (p / w) (i * w + p % w)) d.bits (is.height ∙ no_rows ∙ sym empty)
    (λ i below. absurd (omega (arith, below, empty))) (λ i p below within. absurd (omega (arith, below, empty))))

-- the widths of elements
last_width : (w : ℕ) → IsTrue (w == 1 || w == 2 || w == 4 || w == 8 || w == 16) → w ≢ 1 → w ≢ 2 → w ≢ 4 → w ≢ 8 → w ≡ 16
last_width w is a b c d = grind arith

each_width : (P : ℕ → Type 0) → P 1 → P 2 → P 4 → P 8 → P 16 → (w : ℕ) → IsTrue (w == 1 || w == 2 || w == 4 || w == 8 || w == 16) → P w
each_width P one two four eight sixteen w is =
    elim (cases_eq w 1) [
      | inl e ↦ subst P (sym e) one
      | inr a ↦ elim (cases_eq w 2) [
        | inl e ↦ subst P (sym e) two
        | inr b ↦ elim (cases_eq w 4) [
          | inl e ↦ subst P (sym e) four
          | inr c ↦ elim (cases_eq w 8) [
            | inl e ↦ subst P (sym e) eight
            | inr d ↦ subst P (sym (last_width w is a b c d)) sixteen
          ]
        ]
      ]
    ]

pub fill_words : (w : ℕ) → IsTrue (w == 1 || w == 2 || w == 4 || w == 8 || w == 16) → FillWords w
fill_words w is =
    each_width FillWords (record { some = omega arith; whole = refl }) (record { some = omega arith; whole = refl }) (record { some = omega arith; whole = refl })
    (record { some = omega arith; whole = refl }) (record { some = omega arith; whole = refl }) w is

-- where the loop over the words of a row is
pub row_of_word : (w : ℕ) → FillWords w → (c r k : ℕ) → c ≡ r * w → k * 64 < c → k * (64 / w) ≤ r
row_of_word w fill c r k wide within = elim (cases_lt r (k * (64 / w))) [
  | inl past ↦
      let m = next_le r (k * (64 / w)) w past in
      let e : k * (64 / w) * w ≡ k * (64 / w * w) = grind arith in
      let f : k * (64 / w * w) ≡ k * 64 = ap (λ x. k * x) fill.whole in
      absurd (omega (arith, m, e, f, wide, within))
  | inr below ↦ below
]

pub rows_of_block : (w : ℕ) → FillWords w → (r c : ℕ) → r * w ≡ c → c ≤ 64 → r ≤ 64 / w
rows_of_block w fill r c wide one = elim (cases_lt (64 / w) r) [
  | inl more ↦ (let m = next_le (64 / w) r w more in let e = fill.whole in let s = fill.some in absurd (omega (arith, m, e, s, wide, one)))
  | inr few ↦ few
]
