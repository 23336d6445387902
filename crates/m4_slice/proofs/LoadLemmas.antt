-- Slices gathered from packed elements, word by word and row by row.
use Rattle.std.proofs.Common.{◌≡◌, ℕ, ◌+◌, ◌-◌, ◌*◌, ◌/◌, ◌%◌, ◌^◌, ◌<◌, ◌≤◌, max, inl, inr, cond, nat_lt, List, [], length, get_or, refl, sym, ◌∙◌, ap, ap₂, subst, arith, bit_or}
use Rattle.std.specs.Int.{bit_at}
use Rattle.std.proofs.Math.Nat.{div-lt_iff_lt-mul}
use Rattle.std.proofs.lemmas.Nat.{div-add-mod', div-mul-add}
use Rattle.std.proofs.lemmas.Nat.Bits.{bit_at_or, bit_at-zero}
use Rattle.std.proofs.lemmas.Bool.{cases_lt, cond-true, cond-false, lt-ltb, le-ltb}
use Rattle.std.proofs.lemmas.List.{ext_get_or, set-get_or}
use Rattle.m4_model.specs.Field.{gf2}
use Rattle.m4_model.specs.Matrix.{Matrix, IsMatrix, row, at, with_row, table, matrix_of}
use Rattle.m4_model.specs.Text.{words_per_row}
use Rattle.m4_model.proofs.MatrixLemmas.{same_table, length-table, length-row-table, at-table}
use Rattle.m4_bits.proofs.TransposeLemmas.{bit_at-shr, bit_at-mod, bit_at-shl_low, bit_at-shl_high}
use Rattle.m4_mzd.specs.Window.{Window, content, showing}
use Rattle.m4_mzd.specs.Rows.{with_word}
use Rattle.m4_mzd.proofs.RowLemmas.{with_row-matrix_of}
use Rattle.m4_mzed.proofs.SumLemmas.{SetTo, set_more, written_again, length-with_word}
use Rattle.m4_model.specs.Field.{width}
use Rattle.m4_field.proofs.WidthLemmas.{IsWidth, width_facts}
use Rattle.m4_mzed.specs.Owned.{e_matrix}
use Rattle.m4_mzed.specs.PackedIn.{IsPackedIn}
use Rattle.m4_mzed.proofs.RectLemmas.{matrix_bit}
use Rattle.m4_slice.specs.Gathered.{IsGathered}
use Rattle.m4_slice.specs.Sliced.{sliced, bits_gathered}
use Rattle.m4_slice.proofs.WidthLemmas.{Fills, next_le}

-- ---- one word: the bits of f, as far as the packed words before word q have them
pub record GatheredTo (first w q : ℕ) (f : ℕ → ℕ) (word : ℕ) : Type 0 where
  pub done : (j : ℕ) → j < 64 → first + j / (64 / w) < q → bit_at word j ≡ f j
  pub rest : (j : ℕ) → j < 64 → q ≤ first + j / (64 / w) → bit_at word j ≡ 0

pub gathered_none : (first w : ℕ) (f : ℕ → ℕ) → GatheredTo first w first f 0
gathered_none first w f = record { done = λ j below before. absurd (omega (arith, before)); rest = λ j below past. bit_at-zero j }

-- a word holds some elements
pub per_word : (w : ℕ) → Fills w → 0 < 64 / w
per_word w fill = elim (cases_lt 0 (64 / w)) [
  | inl less ↦ less
  | inr none ↦ absurd (
      let z : 64 / w ≡ 0 = omega (arith, none) in
      let P : ℕ → Type 0 = λ n. n * w ≡ 64 in
      let h : 0 * w ≡ 64 = subst P z fill.whole in
      omega (arith, h))
]

max_left : (a b c : ℕ) → a ≡ c → b ≡ 0 → max a b ≡ c
max_left a b c is none = rw none (rw is (omega arith))

max_right : (a b c : ℕ) → a ≡ 0 → b ≡ c → max a b ≡ c
max_right a b c none is = rw none (rw is (omega arith))

module _ (first w q v : ℕ) (fill : Fills w) (v_below : v < w) (from : first ≤ q) (f source : ℕ → ℕ) (word x g : ℕ) (so_far : GatheredTo first w q f word)
    (reads : (i : ℕ) → i < 64 → bit_at x i ≡ source i) (taken : IsGathered w (x / 2 ^ v) g)
    (is : (j r : ℕ) → j ≡ (q - first) * (64 / w) + r → r < 64 / w → f j ≡ source (v + r * w)) where
  some : 0 < 64 / w
  some = per_word w fill

  split : (j : ℕ) → j ≡ j / (64 / w) * (64 / w) + j % (64 / w)
  split j = sym (div-add-mod' j (64 / w))

  shifted : (j : ℕ) → j < 64 → bit_at (bit_or word (g * 2 ^ ((q - first) * (64 / w)) % 2 ^ 64)) j ≡ max (bit_at word j) (bit_at (g * 2 ^ ((q - first) * (64 / w))) j)
  shifted j below = bit_at_or word (g * 2 ^ ((q - first) * (64 / w)) % 2 ^ 64) j ∙ ap (max (bit_at word j)) (bit_at-mod _ 64 j below)

  before : (j : ℕ) → j < 64 → first + j / (64 / w) < q → bit_at (g * 2 ^ ((q - first) * (64 / w))) j ≡ 0
  before j below less =
      let m = next_le (j / (64 / w)) (q - first) (64 / w) (omega (arith, less)) in
      bit_at-shl_low g ((q - first) * (64 / w)) j (let s = split j in let r = mod_lt j in omega (arith, m, s, r))
    where
      mod_lt : (j : ℕ) → j % (64 / w) < 64 / w
      mod_lt j = let s = some in omega (arith, s)

  here : (j : ℕ) → j < 64 → first + j / (64 / w) ≡ q → bit_at (g * 2 ^ ((q - first) * (64 / w))) j ≡ f j
  here j below same =
      let r = j % (64 / w) in
      let r_below : r < 64 / w = let s = some in omega (arith, s) in
      let t : j / (64 / w) ≡ q - first = omega (arith, same) in
      let place : j ≡ (q - first) * (64 / w) + r = split j ∙ ap (λ k. k * (64 / w) + r) t in
      let m = next_le r (64 / w) w r_below in
      bit_at-shl_high g ((q - first) * (64 / w)) j r (omega (arith, place))
      ∙ taken.gathered r r_below ∙ bit_at-shr x v (r * w)
      ∙ reads (v + r * w) (let e = fill.whole in omega (arith, m, e, v_below))
      ∙ sym (is j r place r_below)

  after : (j : ℕ) → j < 64 → q < first + j / (64 / w) → bit_at (g * 2 ^ ((q - first) * (64 / w))) j ≡ 0
  after j below more =
      let m = next_le (q - first) (j / (64 / w)) (64 / w) (omega (arith, more)) in
      let s = split j in
      bit_at-shl_high g ((q - first) * (64 / w)) j (j - (q - first) * (64 / w)) (omega (arith, m, s))
      ∙ taken.rest (j - (q - first) * (64 / w)) (omega (arith, m, s))

  pub gathered_more : GatheredTo first w (q + 1) f (bit_or word (g * 2 ^ ((q - first) * (64 / w)) % 2 ^ 64))
  gathered_more = record {
    done = λ j below less. shifted j below ∙ elim (cases_lt (first + j / (64 / w)) q) [
      | inl early ↦ max_left _ _ _ (so_far.done j below early) (before j below early)
      | inr late ↦ max_right _ _ _ (so_far.rest j below late) (here j below (omega (arith, late, less)))
    ];
    rest = λ j below past. shifted j below ∙ max_left _ _ _ (so_far.rest j below (omega (arith, past))) (after j below (omega (arith, past)));
  }

-- where a bit of the slice's word lies in the packed row
pub packed_place : (w k q v j r : ℕ) → Fills w → k * w ≤ q → j ≡ (q - k * w) * (64 / w) + r → (k * 64 + j) * w + v ≡ q * 64 + (v + r * w)
packed_place w k q v j r fill from is =
    let whole = fill.whole in
    let a : (k * 64 + j) * w ≡ k * w * 64 + j * w = grind arith in
    let b : j * w ≡ (q - k * w) * (64 / w * w) + r * w = rw is (grind arith) in
    let c : (q - k * w) * (64 / w * w) ≡ (q - k * w) * 64 = ap (λ n. (q - k * w) * n) whole in
    omega (arith, a, b, c, from)

pub times_le : (a b k : ℕ) → a ≤ b → a * k ≤ b * k
times_le a b k le = grind arith

-- all words that there are
pub gathered_all : (w k v q cols end : ℕ) (f : ℕ → ℕ) (word : ℕ) → Fills w → GatheredTo (k * w) w q f word → end ≤ q
    → ((x : ℕ) → x < k * w + w → x < words_per_row cols → x < end) → (j : ℕ) → j < 64 → (k * 64 + j) * w + v < cols → bit_at word j ≡ f j
gathered_all w k v q cols end f word fill to all reach j below within =
    let whole = fill.whole in
    let t = j / (64 / w) in
    let split : j ≡ t * (64 / w) + j % (64 / w) = sym (div-add-mod' j (64 / w)) in
    let low : t * (64 / w) ≤ j = omega (arith, split) in
    let times : t * (64 / w) * w ≤ j * w = times_le (t * (64 / w)) j w low in
    let a : t * (64 / w) * w ≡ t * (64 / w * w) = grind arith in
    let b : t * (64 / w * w) ≡ t * 64 = ap (λ n. t * n) whole in
    let c : (k * 64 + j) * w ≡ k * w * 64 + j * w = grind arith in
    let few : t < w = div_few j t w (64 / w) below whole low in
    to.done j below (let r = reach (k * w + t) (omega (arith, few)) (omega (arith, times, a, b, c, within)) in omega (arith, r, all))
  where
    div_few : (j t w n : ℕ) → j < 64 → n * w ≡ 64 → t * n ≤ j → t < w
    div_few j t w n below whole low = elim (cases_lt t w) [
      | inl less ↦ less
      | inr more ↦ absurd (let m = times_le w t n more in let e : w * n ≡ n * w = grind arith in omega (arith, m, e, whole, low, below))
    ]

-- ---- one row
pub record RowSetTo (first now : Window) (p k : ℕ) (g : ℕ → ℕ) : Type 0 where
  pub kept : now ≡ showing first (with_row (content first) p (row (content now) p))
  pub bits : SetTo first.cols k g (row (content first) p) (row (content now) p)
  pub long : length (row (content now) p) ≡ first.cols

pub row_begun : (first : Window) (p : ℕ) (g : ℕ → ℕ) → IsMatrix (content first) → p < first.rows → RowSetTo first first p 0 g
row_begun first p g is below = record {
  kept = ap {B = Window} (λ l. record first { bits = l }) (sym (set-get_or first.bits p []));
  bits = record { done = λ j inside before. absurd (omega (arith, before)); rest = λ j inside past. refl };
  long = is.width p below;
}

pub row_more : (first now next : Window) (p k word : ℕ) (g : ℕ → ℕ) → p < length first.bits → RowSetTo first now p k g
    → ((q : ℕ) → q < 64 → k * 64 + q < first.cols → bit_at word q ≡ g (k * 64 + q))
    → next ≡ showing now (with_row (content now) p (with_word k word (row (content now) p))) → RowSetTo first next p (k + 1) g
row_more first now next p k word g within so_far gives written =
    let again = written_again first now next p (with_word k word (row (content now) p)) within so_far.kept written in
    let P : List ℕ → Type 0 = SetTo first.cols (k + 1) g (row (content first) p) in
    record {
      kept = again.1;
      bits = subst P (sym again.0) (set_more first.cols k g (row (content first) p) (row (content now) p) word so_far.long gives so_far.bits);
      long = ap length again.0 ∙ length-with_word k word (row (content now) p) ∙ so_far.long;
    }

pub row_all : (first now : Window) (p k : ℕ) (g : ℕ → ℕ) (new : List ℕ) → RowSetTo first now p k g → first.cols ≤ k * 64 → length new ≡ first.cols
    → ((j : ℕ) → j < first.cols → get_or new j 0 ≡ g j) → now ≡ showing first (with_row (content first) p new)
row_all first now p k g new so_far all long is =
    let same : row (content now) p ≡ new = ext_get_or 0 _ _ (so_far.long ∙ sym long) (λ j inside.
    let within : j < first.cols = let l = so_far.long in omega (arith, inside, l) in
    so_far.bits.done j within (omega (arith, within, all)) ∙ sym (is j within)) in
    so_far.kept ∙ ap (λ l. showing first (with_row (content first) p l)) same

-- ---- all rows: those before row p are t's
abbrev pub rows_taken : Window → (ℕ → ℕ → ℕ) → ℕ → Window
rows_taken d t p = showing d (matrix_of gf2 d.rows d.cols (λ i j. cond (nat_lt i p) (t i j) (at (content d) i j)))

pub taken_none : (d : Window) (t : ℕ → ℕ → ℕ) → IsMatrix (content d) → d ≡ rows_taken d t 0
taken_none d t is =
    ap {B = Window} (λ l. record d { bits = l }) (same_table d.rows d.cols (λ i j. cond (nat_lt i 0) (t i j) (at (content d) i j)) d.bits is.height is.width
    (λ i j below within. sym (cond-false _ _ _ (le-ltb i 0 (omega arith)))))

pub taken_more : (d now next : Window) (t : ℕ → ℕ → ℕ) (p : ℕ) (new : List ℕ) → p < d.rows → length new ≡ d.cols → ((j : ℕ) → j < d.cols → get_or new j 0 ≡ t p j)
    → now ≡ rows_taken d t p → next ≡ showing now (with_row (content now) p new) → next ≡ rows_taken d t (p + 1)
taken_more d now next t p new below long is so_far written =
    written ∙ ap (λ (x : Window). showing x (with_row (content x) p new)) so_far
    ∙ ap (λ (A : Matrix). showing d A) (sym (with_row-matrix_of gf2 d.rows d.cols (λ i j. cond (nat_lt i p) (t i j) (at (content d) i j)) (λ i j. cond (nat_lt i (p + 1)) (t i j) (at (content d) i j)) p new below long
    (λ j within. is j within ∙ sym (cond-true _ _ _ (lt-ltb p (p + 1) (omega arith))))
    (λ i j _ _ other. elim (cases_lt i p) [
      | inl before ↦ cond-true _ _ _ (lt-ltb i (p + 1) (omega (arith, before))) ∙ sym (cond-true _ _ _ (lt-ltb i p before))
      | inr after ↦ cond-false _ _ _ (le-ltb i (p + 1) (omega (arith, after, other))) ∙ sym (cond-false _ _ _ (le-ltb i p after))
    ])))

-- the row to be written is still the old one
pub row_still : (d now : Window) (t : ℕ → ℕ → ℕ) (p : ℕ) → IsMatrix (content d) → p < d.rows → now ≡ rows_taken d t p → row (content now) p ≡ row (content d) p
row_still d now t p is below so_far =
    ap (λ (x : Window). row (content x) p) so_far
    ∙ ext_get_or 0 _ _ (length-row-table d.rows d.cols _ p below ∙ sym (is.width p below)) (λ j inside.
    let within : j < d.cols = let l = length-row-table d.rows d.cols (λ i j. cond (nat_lt i p) (t i j) (at (content d) i j)) p below in omega (arith, inside, l) in
    at-table d.rows d.cols (λ i j. cond (nat_lt i p) (t i j) (at (content d) i j)) p j below within ∙ cond-false _ _ _ (le-ltb p p (omega arith)))

pub table_same : (m n : ℕ) (g h : ℕ → ℕ → ℕ) → ((i j : ℕ) → i < m → j < n → g i j ≡ h i j) → table m n g ≡ table m n h
table_same m n g h same =
    same_table m n h (table m n g) (length-table m n g) (length-row-table m n g) (λ i j below within. at-table m n g i j below within ∙ same i j below within)

pub taken_all : (d : Window) (t : ℕ → ℕ → ℕ) (p : ℕ) → d.rows ≤ p → rows_taken d t p ≡ showing d (matrix_of gf2 d.rows d.cols t)
taken_all d t p all =
    ap {B = Window} (λ l. record d { bits = l }) (table_same d.rows d.cols (λ i j. cond (nat_lt i p) (t i j) (at (content d) i j)) t
    (λ i j below within. cond-true _ _ _ (lt-ltb i p (omega (arith, below, all)))))

-- ---- the slices' rows
pub quotient : (w n c : ℕ) → 1 ≤ w → c ≡ n * w → c / w ≡ n
quotient w n c some is = ap (λ x. x / w) (is ∙ (omega arith)) ∙ div-mul-add n w 0 (omega (arith, some))

pub length-gathered : (w e n p : ℕ) (A : Matrix) → 1 ≤ w → A.cols ≡ n * w → p < e * A.rows → length (row (bits_gathered w e A) p) ≡ n
length-gathered w e n p A some cols below = length-row-table (e * A.rows) (A.cols / w) _ p below ∙ quotient w n A.cols some cols

pub entry-gathered : (w e n p : ℕ) (A : Matrix) → 1 ≤ w → A.cols ≡ n * w → p < e * A.rows → (j : ℕ) → j < n
    → get_or (row (bits_gathered w e A) p) j 0 ≡ at A (p % A.rows) (j * w + p / A.rows)
entry-gathered w e n p A some cols below j within =
    at-table (e * A.rows) (A.cols / w) (λ p j. at A (p % A.rows) (j * w + p / A.rows)) p j below (let q = quotient w n A.cols some cols in omega (arith, q, within))

pub slices_gathered : (d : Window) (w e : ℕ) (A : Matrix) → 1 ≤ w → d.rows ≡ e * A.rows → A.cols ≡ d.cols * w
    → showing d (matrix_of gf2 d.rows d.cols (λ p j. at A (p % A.rows) (j * w + p / A.rows))) ≡ showing d (bits_gathered w e A)
slices_gathered d w e A some rows cols =
    ap {B = Window} (λ l. record d { bits = l }) (ap₂ (λ m n. table m n (λ p j. at A (p % A.rows) (j * w + p / A.rows))) rows (sym (quotient w d.cols A.cols some cols)))

-- a slice and a row of it
pub some_rows : (p e m : ℕ) → p < e * m → 0 < m
some_rows p e m below = elim (cases_lt 0 m) [
  | inl some ↦ some
  | inr none ↦ absurd (let z : m ≡ 0 = omega (arith, none) in let P : ℕ → Type 0 = λ m. p < e * m in let h : p < e * 0 = subst P z below in omega (arith, h))
]

pub slice_below : (p e m : ℕ) → p < e * m → p / m < e
slice_below p e m below = let s = some_rows p e m below in (div-lt_iff_lt-mul s).1 below

pub slice_row_below : (p e m : ℕ) → p < e * m → p % m < m
slice_row_below p e m below = let s = some_rows p e m below in omega (arith, s)

-- the bits that are gathered from packed elements are the slices
module _ (A P : Matrix) (e w : ℕ) (packed : IsPackedIn A.field A.cols P) (matrix : IsMatrix P) (over : P.field ≡ gf2) (shows : e_matrix A.field A.cols P ≡ A)
    (degree : e ≡ A.field.degree) (wide : w ≡ width A.field) where
  p_rows : P.rows ≡ A.rows
  p_rows = ap (λ (M : Matrix). M.rows) shows

  facts : IsWidth A.field.degree (width A.field)
  facts = width_facts A.field packed.carried

  p_cols : P.cols / w ≡ A.cols
  p_cols = let f = facts.some in quotient w A.cols P.cols (omega (arith, wide, f)) (packed.wide ∙ ap (λ k. A.cols * k) (sym wide))

  entry : (p j : ℕ) → p < A.field.degree * A.rows → j < A.cols → at P (p % P.rows) (j * w + p / P.rows) ≡ bit_at (at A (p % A.rows) j) (p / A.rows)
  entry p j below within =
      (λ i. at P (p % p_rows i) (j * wide i + p / p_rows i))
      ∙ matrix_bit A.field A.cols P packed matrix over (p % A.rows) j (p / A.rows) (let r = slice_row_below p A.field.degree A.rows below in omega (arith, r, p_rows)) within
      (let s = slice_below p A.field.degree A.rows below in let f = facts.room in omega (arith, s, f))
      ∙ ap (λ (M : Matrix). bit_at (at M (p % A.rows) j) (p / A.rows)) shows

  pub gathered_is : (d : Window) → showing d (bits_gathered w e P) ≡ showing d (sliced A)
  gathered_is d =
      ap {B = Window} (λ l. record d { bits = l })
      (ap₂ (λ m n. table m n (λ p j. at P (p % P.rows) (j * w + p / P.rows))) (ap₂ (λ x y. x * y) degree p_rows) p_cols
      ∙ table_same (A.field.degree * A.rows) A.cols _ _ (λ p j below within. entry p j below within))
