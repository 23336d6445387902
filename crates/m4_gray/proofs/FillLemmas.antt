-- A table that is filled by doubling.
use Rattle.std.proofs.Common.{◌≡◌, ℕ, zero, suc, ◌+◌, ◌-◌, ◌*◌, ◌^◌, ◌<◌, ◌≤◌, inl, inr, List, [], ◌++◌, length, get_or, set, take, drop, replicate, sym, ◌∙◌, ap, arith, lit<, bit_xor}
use Rattle.std.specs.Int.{bit_at}
use Rattle.std.specs.Int.Bits.{xor_block, xor_comm, xor_zero_l, xor_zero_r, xor_self}
use Rattle.std.proofs.lemmas.Bool.{cases_lt}
use Rattle.std.proofs.lemmas.Nat.{pow_pos}
use Rattle.std.proofs.Math.Nat.{pow-suc, pow-le-pow_right}
use Rattle.std.proofs.lemmas.List.{length-set, length-replicate, length-map, length-append, length-drop, length-take-le, get_or_append_left, get_or-append_right, get_or-take, get_or-map, get_or-set_same, get_or-replicate, ext_get_or}
use Rattle.std.proofs.lemmas.Nat.Bits.{bit_at-lt, bit_at-zero, bit_at-pow_same, bit_at-pow_other}
use Rattle.m4_model.specs.Matrix.{Matrix, IsMatrix, row, at, row_sum}
use Rattle.m4_model.proofs.FieldLemmas.{sum_below-same}
use Rattle.m4_model.proofs.SumLemmas.{sum_below-xor, sum_below-single, sum_below-zero}
use Rattle.m4_model.proofs.MatrixLemmas.{length-table, length-row-table, at-table}
use Rattle.m4_bits.proofs.BitsLemmas.{bit_at-xor, length-row_sum, get_or-row_sum}
use Rattle.m4_mzd.specs.Window.{Window, content, showing}
use Rattle.m4_gray.specs.Slots.{subset_sum, subset_sums, each_added, doubled}

-- ---- one bit more in a subset adds a row
product_of_bits : (a b v : ℕ) → a < 2 → b < 2 → bit_xor a b * v ≡ bit_xor (a * v) (b * v)
product_of_bits zero b v small small2 =
    let none : 0 * v ≡ 0 = omega arith in
    ap (λ x. x * v) (xor_zero_l b) ∙ sym (ap (λ x. bit_xor x (b * v)) none ∙ xor_zero_l (b * v))
product_of_bits (suc zero) zero v small small2 =
    let none : 0 * v ≡ 0 = omega arith in
    sym (ap (bit_xor (1 * v)) none ∙ xor_zero_r (1 * v))
product_of_bits (suc zero) (suc zero) v small small2 =
    let none : 0 * v ≡ 0 = omega arith in
    none ∙ sym (xor_self (1 * v))
product_of_bits (suc zero) (suc (suc b)) v small small2 = absurd (omega (arith, small2))
product_of_bits (suc (suc a)) b v small small2 = absurd (omega (arith, small))

pub subset_sum-toggled : (B : Matrix) (first bits x p j : ℕ) → p < bits
    → subset_sum B first bits (bit_xor x (2 ^ p)) j ≡ bit_xor (subset_sum B first bits x j) (at B (first + p) j)
subset_sum-toggled B first bits x p j within =
    let v = λ (i : ℕ). at B (first + i) j in
    sum_below-same bits (λ i. bit_at (bit_xor x (2 ^ p)) i * v i) (λ i. bit_xor (bit_at x i * v i) (bit_at (2 ^ p) i * v i))
    (λ i below. ap (λ b. b * v i) (bit_at-xor x (2 ^ p) i) ∙ product_of_bits (bit_at x i) (bit_at (2 ^ p) i) (v i) (bit_at-lt x i) (bit_at-lt (2 ^ p) i))
    ∙ sum_below-xor bits (λ i. bit_at x i * v i) (λ i. bit_at (2 ^ p) i * v i)
    ∙ ap (bit_xor (subset_sum B first bits x j))
    (sum_below-single bits p (λ i. bit_at (2 ^ p) i * v i) within (λ i below away. ap (λ b. b * v i) (bit_at-pow_other p i away) ∙ omega arith)
    ∙ ap (λ b. b * v p) (bit_at-pow_same p) ∙ omega arith)

-- the sum of a row and of one with a lower number is the sum of one that is as many rows further on
pub row-doubled : (B : Matrix) (first bits p x : ℕ) → IsMatrix B → first + bits ≤ B.rows → p < bits → x < 2 ^ p
    → row_sum (row (subset_sums B first bits) x) (row B (first + p)) ≡ row (subset_sums B first bits) (2 ^ p + x)
row-doubled B first bits p x matrix in_rows within below =
    let f = subset_sum B first bits in
    let S = subset_sums B first bits in
    let power : 2 ^ suc p ≤ 2 ^ bits = pow-le-pow_right (lit< tt) (omega (arith, within)) in
    let twice : 2 ^ suc p ≡ 2 ^ p + 2 ^ p = omega (arith, pow-suc 2 p) in
    let old_in : x < 2 ^ bits = omega (arith, power, twice, below) in
    let new_in : 2 ^ p + x < 2 ^ bits = omega (arith, power, twice, below) in
    let one : 1 * 2 ^ p ≡ 2 ^ p = omega arith in
    let high : 2 ^ p ≡ 1 * 2 ^ p + 0 = omega arith in
    let low : x ≡ 0 * 2 ^ p + x = omega arith in
    let number : bit_xor x (2 ^ p) ≡ 2 ^ p + x =
    xor_comm x (2 ^ p)
    ∙ (λ i. bit_xor (high i) (low i))
    ∙ xor_block p 1 0 0 x (pow_pos p) below
    ∙ (λ i. xor_zero_r 1 i * 2 ^ p + xor_zero_l x i)
    ∙ ap (λ n. n + x) one in
    let mine : length (row S x) ≡ B.cols = length-row-table (2 ^ bits) B.cols f x old_in in
    let theirs : length (row B (first + p)) ≡ B.cols = matrix.width (first + p) (omega (arith, in_rows, within)) in
    let whole : length (row S (2 ^ p + x)) ≡ B.cols = length-row-table (2 ^ bits) B.cols f (2 ^ p + x) new_in in
    let sum_long : length (row_sum (row S x) (row B (first + p))) ≡ B.cols = length-row_sum (row S x) (row B (first + p)) ∙ mine in
    ext_get_or 0 _ _ (sum_long ∙ sym whole) (λ j inside.
    let in_cols : j < B.cols = omega (arith, inside, sum_long) in
    get_or-row_sum (row S x) (row B (first + p)) j (mine ∙ sym theirs)
    ∙ ap (λ b. bit_xor b (at B (first + p) j)) (at-table (2 ^ bits) B.cols f x j old_in in_cols)
    ∙ sym (subset_sum-toggled B first bits x p j within)
    ∙ ap (λ n. f n j) number
    ∙ sym (at-table (2 ^ bits) B.cols f (2 ^ p + x) j new_in in_cols))

-- the empty subset
pub row-none : (B : Matrix) (first bits : ℕ) → row (subset_sums B first bits) 0 ≡ replicate B.cols 0
row-none B first bits =
    let f = subset_sum B first bits in
    let in_rows : 0 < 2 ^ bits = pow_pos bits in
    let long : length (row (subset_sums B first bits) 0) ≡ B.cols = length-row-table (2 ^ bits) B.cols f 0 in_rows in
    ext_get_or 0 _ _ (long ∙ sym (length-replicate B.cols 0)) (λ j inside.
    let in_cols : j < B.cols = omega (arith, inside, long) in
    at-table (2 ^ bits) B.cols f 0 j in_rows in_cols
    ∙ sum_below-zero bits (λ i. bit_at 0 i * at B (first + i) j) (λ i below. ap (λ b. b * at B (first + i) j) (bit_at-zero i) ∙ omega arith)
    ∙ sym (get_or-replicate B.cols j 0 0 in_cols))

-- ---- twice as many rows
pub length-doubled : (n : ℕ) (v : List ℕ) (rows : List (List ℕ)) → n + n ≤ length rows → length (doubled n v rows) ≡ length rows
length-doubled n v rows room =
    let first : length (take n rows) ≡ n = length-take-le n rows (omega (arith, room)) in
    let second : length (each_added v (take n rows)) ≡ n = length-map (take n rows) (λ xs. row_sum xs v) ∙ first in
    let third : length (drop n (drop n rows)) ≡ length rows - n - n = length-drop n (drop n rows) ∙ ap (λ k. k - n) (length-drop n rows) in
    length-append (take n rows) (each_added v (take n rows) ++ drop n (drop n rows))
    ∙ (let more = length-append (each_added v (take n rows)) (drop n (drop n rows)) in omega (arith, first, second, third, more, room))

doubled-above : (n : ℕ) (v : List ℕ) (rows : List (List ℕ)) (x : ℕ) → n + n ≤ length rows → x < n → get_or (doubled n v rows) x [] ≡ get_or rows x []
doubled-above n v rows x room below =
    let first : length (take n rows) ≡ n = length-take-le n rows (omega (arith, room)) in
    get_or_append_left (take n rows) (each_added v (take n rows) ++ drop n (drop n rows)) [] x (omega (arith, first, below))
    ∙ get_or-take n rows x [] below

doubled-below : (n : ℕ) (v : List ℕ) (rows : List (List ℕ)) (x : ℕ) → n + n ≤ length rows → x < n
    → get_or (doubled n v rows) (n + x) [] ≡ row_sum (get_or rows x []) v
doubled-below n v rows x room below =
    let first : length (take n rows) ≡ n = length-take-le n rows (omega (arith, room)) in
    let second : length (each_added v (take n rows)) ≡ n = length-map (take n rows) (λ xs. row_sum xs v) ∙ first in
    let place : n + x - n ≡ x = omega arith in
    get_or-append_right (take n rows) (each_added v (take n rows) ++ drop n (drop n rows)) n (n + x) [] first (omega arith)
    ∙ ap (λ k. get_or (each_added v (take n rows) ++ drop n (drop n rows)) k []) place
    ∙ get_or_append_left (each_added v (take n rows)) (drop n (drop n rows)) [] x (omega (arith, second, below))
    ∙ get_or-map (λ xs. row_sum xs v) (take n rows) x [] [] (omega (arith, first, below))
    ∙ ap (λ xs. row_sum xs v) (get_or-take n rows x [] below)

-- ---- the first n rows are filled
pub record FilledTo (old now : Window) (S : Matrix) (n : ℕ) : Type 0 where
  pub same : now ≡ showing old (content now)
  pub high : length now.bits ≡ old.rows
  pub filled : (x : ℕ) → x < n → get_or now.bits x [] ≡ row S x

pub filled-one : (old now : Window) (S : Matrix) (zeros : List ℕ) → length old.bits ≡ old.rows → 0 < old.rows → zeros ≡ row S 0
    → now ≡ record old { bits = set old.bits 0 zeros } → FilledTo old now S 1
filled-one old now S zeros high some none is = record {
  same = is ∙ (λ t. showing old (content (sym is t)));
  high = ap (λ (w : Window). length w.bits) is ∙ length-set old.bits 0 zeros ∙ high;
  filled = λ x below.
      let zero : x ≡ 0 = omega arith in
      rw zero (ap (λ (w : Window). get_or w.bits 0 []) is ∙ get_or-set_same old.bits 0 zeros [] (omega (arith, high)) ∙ none);
}

-- and twice as many
pub filled-doubled : (old now next : Window) (B : Matrix) (first bits p m : ℕ) → IsMatrix B → first + bits ≤ B.rows → p < bits → m ≡ 2 ^ suc p
    → 2 ^ p + 2 ^ p ≤ old.rows → next ≡ record now { bits = doubled (2 ^ p) (row B (first + p)) now.bits }
    → FilledTo old now (subset_sums B first bits) (2 ^ p) → FilledTo old next (subset_sums B first bits) m
filled-doubled old now next B first bits p m matrix in_rows within twice room is so_far = record {
  same = is ∙ ap (λ (w : Window). record w { bits = doubled (2 ^ p) (row B (first + p)) now.bits }) so_far.same ∙ (λ t. showing old (content (sym is t)));
  high = ap (λ (w : Window). length w.bits) is ∙ length-doubled (2 ^ p) (row B (first + p)) now.bits (omega (arith, so_far.high, room)) ∙ so_far.high;
  filled = λ x inside. elim (cases_lt x (2 ^ p)) [
    | inl before ↦
        ap (λ (w : Window). get_or w.bits x []) is
        ∙ doubled-above (2 ^ p) (row B (first + p)) now.bits x (omega (arith, so_far.high, room)) before
        ∙ so_far.filled x before
    | inr behind ↦
        let y = x - 2 ^ p in
        let place : 2 ^ p + y ≡ x = omega (arith, behind) in
        let small : y < 2 ^ p = omega (arith, behind, inside, twice, pow-suc 2 p) in
        ap (λ (w : Window). get_or w.bits x []) is
        ∙ ap (λ k. get_or (doubled (2 ^ p) (row B (first + p)) now.bits) k []) (sym place)
        ∙ doubled-below (2 ^ p) (row B (first + p)) now.bits y (omega (arith, so_far.high, room)) small
        ∙ ap (λ xs. row_sum xs (row B (first + p))) (so_far.filled y small)
        ∙ row-doubled B first bits p y matrix in_rows within small
        ∙ ap (row (subset_sums B first bits)) place
  ];
}

pub filled-all : (old now : Window) (B : Matrix) (first bits n : ℕ) → old.rows ≡ 2 ^ bits → 2 ^ bits ≤ n
    → FilledTo old now (subset_sums B first bits) n → now ≡ showing old (subset_sums B first bits)
filled-all old now B first bits n rows all h =
    let f = subset_sum B first bits in
    let S = subset_sums B first bits in
    let high : length now.bits ≡ length S.entries = h.high ∙ rows ∙ sym (length-table (2 ^ bits) B.cols f) in
    h.same
    ∙ ap (λ rows. record old { bits = rows })
    (ext_get_or [] _ _ high (λ x inside. h.filled x (omega (arith, inside, h.high, rows, all))))
