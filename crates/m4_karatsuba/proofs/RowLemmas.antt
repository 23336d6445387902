-- The rows of a window that are added to those of another from some row on.
use Rattle.std.proofs.Common.{◌≡◌, ℕ, ◌+◌, ◌-◌, ◌<◌, ◌≤◌, inl, inr, cond, nat_lt, length, sym, ◌∙◌, ap, arith, bit_xor}
use Rattle.std.specs.Int.Bits.{xor_zero_r}
use Rattle.std.proofs.lemmas.Bool.{cases_lt, cond-true, cond-false, lt-ltb, le-ltb}
use Rattle.m4_model.specs.Field.{gf2}
use Rattle.m4_model.specs.Matrix.{Matrix, IsMatrix, row, at, row_sum, with_row, table, matrix_of}
use Rattle.m4_model.proofs.MatrixLemmas.{same_table, length-row-table, at-table}
use Rattle.m4_bits.proofs.BitsLemmas.{length-row_sum, get_or-row_sum}
use Rattle.m4_mzd.specs.Rows.{sum_from}
use Rattle.m4_mzd.specs.Window.{Window, content, showing}
use Rattle.m4_mzd.proofs.RowLemmas.{with_row-matrix_of}
use Rattle.m4_shape.proofs.PlacedLemmas.{table_same}
use Rattle.m4_karatsuba.specs.Polynomials.{added_from}
use Rattle.m4_karatsuba.proofs.PolynomialLemmas.{past_rows}

-- where r rows of B are added
abbrev pub entry_from : Matrix → Matrix → ℕ → ℕ → ℕ → ℕ → ℕ
entry_from A B first r p j = cond (nat_lt p first) (at A p j) (cond (nat_lt p (first + r)) (bit_xor (at A p j) (at B (p - first) j)) (at A p j))

abbrev pub rows_from : Window → Matrix → ℕ → ℕ → Window
rows_from d B first r = showing d (matrix_of gf2 d.rows d.cols (entry_from (content d) B first r))

pub from_none : (d : Window) (B : Matrix) (first : ℕ) → IsMatrix (content d) → d ≡ rows_from d B first 0
from_none d B first is =
    ap {B = Window} (λ l. record d { bits = l }) (same_table d.rows d.cols (entry_from (content d) B first 0) d.bits is.height is.width (λ p j below within. elim (cases_lt p first) [
      | inl less ↦ sym (cond-true _ _ _ (lt-ltb p first less))
      | inr past ↦ sym (cond-false _ _ _ (le-ltb p first past) ∙ cond-false _ _ _ (le-ltb p (first + 0) (omega (arith, past))))
    ]))

pub from_more : (d now next : Window) (B : Matrix) (first r : ℕ) → IsMatrix (content d) → IsMatrix B → r < B.rows → first + B.rows ≤ d.rows → B.cols ≡ d.cols
    → now ≡ rows_from d B first r → next ≡ showing now (with_row (content now) (first + r) (sum_from 0 (row (content now) (first + r)) (row B r)))
    → next ≡ rows_from d B first (r + 1)
from_more d now next B first r is b below room cols so_far written =
    let g = entry_from (content d) B first r in
    let p = first + r in
    let inside : first + r < d.rows = omega (arith, below, room) in
    let long : length (row (content (rows_from d B first r)) (first + r)) ≡ d.cols = length-row-table d.rows d.cols g (first + r) inside in
    let same : length (row (content (rows_from d B first r)) (first + r)) ≡ length (row B r) = long ∙ sym cols ∙ sym (b.width r below) in
    written ∙ ap (λ (x : Window). showing x (with_row (content x) (first + r) (row_sum (row (content x) (first + r)) (row B r)))) so_far
    ∙ ap (λ (A : Matrix). showing d A) (sym (with_row-matrix_of gf2 d.rows d.cols g (entry_from (content d) B first (r + 1)) (first + r) _ inside
    (length-row_sum _ (row B r) ∙ long)
    (λ j within.
    get_or-row_sum (row (content (rows_from d B first r)) (first + r)) (row B r) j same
    ∙ ap (λ x. bit_xor x (at B r j)) (at-table d.rows d.cols g (first + r) j inside within ∙ cond-false _ _ _ (le-ltb (first + r) first (omega arith)) ∙ cond-false _ _ _ (le-ltb (first + r) (first + r) (omega arith)))
    ∙ ap (λ q. bit_xor (at (content d) (first + r) j) (at B q j)) (omega arith)
    ∙ sym (cond-false _ _ _ (le-ltb (first + r) first (omega arith)) ∙ cond-true _ _ _ (lt-ltb (first + r) (first + (r + 1)) (omega arith))))
    (λ i j _ _ other. elim (cases_lt i first) [
      | inl before ↦ cond-true _ _ _ (lt-ltb i first before) ∙ sym (cond-true _ _ _ (lt-ltb i first before))
      | inr from ↦
          cond-false _ _ _ (le-ltb i first from)
          ∙ (elim (cases_lt i (first + r)) [
            | inl done ↦ cond-true _ _ _ (lt-ltb i (first + (r + 1)) (omega (arith, done))) ∙ sym (cond-true _ _ _ (lt-ltb i (first + r) done))
            | inr after ↦ cond-false _ _ _ (le-ltb i (first + (r + 1)) (omega (arith, after, other))) ∙ sym (cond-false _ _ _ (le-ltb i (first + r) after))
          ])
          ∙ sym (cond-false _ _ _ (le-ltb i first from))
    ])))

pub from_all : (d : Window) (B : Matrix) (first r : ℕ) → length B.entries ≡ B.rows → B.rows ≤ r → rows_from d B first r ≡ showing d (added_from first (content d) B)
from_all d B first r height all =
    ap {B = Window} (λ l. record d { bits = l }) (table_same d.rows d.cols (entry_from (content d) B first r) (λ p j. cond (nat_lt p first) (at (content d) p j) (bit_xor (at (content d) p j) (at B (p - first) j))) (λ p j below within.
    elim (cases_lt p first) [
      | inl less ↦ cond-true _ _ _ (lt-ltb p first less) ∙ sym (cond-true _ _ _ (lt-ltb p first less))
      | inr past ↦
          cond-false _ _ _ (le-ltb p first past)
          ∙ (elim (cases_lt p (first + r)) [
            | inl inside ↦ cond-true _ _ _ (lt-ltb p (first + r) inside)
            | inr after ↦
                cond-false _ _ _ (le-ltb p (first + r) after)
                ∙ sym (ap (bit_xor (at (content d) p j)) (past_rows B (p - first) j (omega (arith, after, all, height))) ∙ xor_zero_r (at (content d) p j))
          ])
          ∙ sym (cond-false _ _ _ (le-ltb p first past))
    ]))

pub copied_sum : (w now : Window) (A B : Matrix) → A.rows ≡ w.rows → A.cols ≡ w.cols → now ≡ showing w A → showing now (added_from 0 (content now) B) ≡ showing w (added_from 0 A B)
copied_sum w now A B rows cols copied =
    ap (λ (x : Window). showing x (added_from 0 (content x) B)) copied
    ∙ ap {B = Window} (λ l. record w { bits = l }) (λ i. table (sym rows i) (sym cols i) (λ p j. cond (nat_lt p 0) (at A p j) (bit_xor (at A p j) (at B (p - 0) j))))
