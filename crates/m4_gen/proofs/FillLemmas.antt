-- Rows of a window that are filled word by word, one row after the other.
use Rattle.std.proofs.Common.{◌≡◌, ℕ, ◌+◌, ◌*◌, ◌/◌, ◌%◌, ◌<◌, ◌≤◌, List, [], length, set, map, refl, sym, ◌∙◌, ap, subst, arith, bit_and}
use Rattle.std.specs.Int.{bit_at}
use Rattle.std.specs.List.{range_with_len}
use Rattle.std.proofs.lemmas.List.{ext_get_or, set-get_or}
use Rattle.std.proofs.lemmas.List.FromFn.{length-map-range_with_len, get_or-map-range_with_len}
use Rattle.m4_model.specs.Matrix.{row, table, with_row}
use Rattle.m4_model.specs.Text.{words_per_row}
use Rattle.m4_model.proofs.MatrixLemmas.{length-table, row-table}
use Rattle.m4_mzd.specs.Window.{Window, content, showing}
use Rattle.m4_mzd.specs.Rows.{with_word}
use Rattle.m4_mzd.proofs.PairLemmas.{copied, copied_more}
use Rattle.m4_mzed.proofs.SumLemmas.{SetTo, set_more, written_again, length-with_word}
use Rattle.m4_model.specs.Generated.{word}
use Rattle.m4_gen.specs.Source.{masked_bit}

-- a window whose row r has the bits of g in the words before word w
pub record IsBegun (first now : Window) (n r w : ℕ) (g : ℕ → ℕ) : Type 0 where
  pub kept : now ≡ showing first (with_row (content first) r (row (content now) r))
  pub set_to : SetTo n w g (row (content first) r) (row (content now) r)
  pub long : length (row (content now) r) ≡ n

pub begun : (first : Window) (n r : ℕ) (g : ℕ → ℕ) → length (row (content first) r) ≡ n → IsBegun first first n r 0 g
begun first n r g long = record {
  kept = ap {B = Window} (λ rows. record first { bits = rows }) (sym (set-get_or first.bits r []));
  set_to = record { done = λ p inside below. absurd (omega arith); rest = λ p inside past. refl };
  long = long;
}

pub begun_more : (first now next : Window) (n r w value : ℕ) (g : ℕ → ℕ) → r < length first.bits → IsBegun first now n r w g
    → ((q : ℕ) → q < 64 → bit_at value q ≡ g (w * 64 + q)) → next ≡ showing now (with_row (content now) r (with_word w value (row (content now) r)))
    → IsBegun first next n r (w + 1) g
begun_more first now next n r w value g within is gives written =
    let again = written_again first now next r (with_word w value (row (content now) r)) within is.kept written in
    let P : List ℕ → Type 0 = λ l. SetTo n (w + 1) g (row (content first) r) l in
    record {
      kept = again.1;
      set_to = subst P (sym again.0) (set_more n w g (row (content first) r) (row (content now) r) value is.long (λ q small inside. gives q small) is.set_to);
      long = ap length again.0 ∙ length-with_word w value (row (content now) r) ∙ is.long;
    }

pub begun_all : (first now : Window) (n r w : ℕ) (g : ℕ → ℕ) → n ≤ w * 64 → IsBegun first now n r w g → now ≡ showing first (with_row (content first) r (map g (range_with_len 0 n)))
begun_all first now n r w g all is =
    is.kept
    ∙ ap {B = Window} (λ l. showing first (with_row (content first) r l))
    (ext_get_or 0 (row (content now) r) (map g (range_with_len 0 n)) (is.long ∙ sym (length-map-range_with_len g 0 n)) (λ p inside.
    let l = is.long in
    let below : p < n = omega (arith, l, inside) in
    is.set_to.done p below (omega (arith, below, all)) ∙ sym (get_or-map-range_with_len g 0 n p p 0 below (omega arith))))

-- the bits of a word under the mask
pub word_bit : (n mask seed r w x q : ℕ) → x ≡ word seed (r * words_per_row n + w) → q < 64 → bit_at (bit_and x mask) q ≡ masked_bit n mask seed r (w * 64 + q)
word_bit n mask seed r w x q is small =
    let place : w ≡ (w * 64 + q) / 64 = omega (arith, small) in
    let at : q ≡ (w * 64 + q) % 64 = omega (arith, small) in
    ap (λ y. bit_at (bit_and y mask) q) (is ∙ ap (λ t. word seed (r * words_per_row n + t)) place)
    ∙ ap (bit_at (bit_and (word seed (r * words_per_row n + (w * 64 + q) / 64)) mask)) at

-- one more row of the matrix was filled
pub filled_more : (first now next : Window) (mask seed r : ℕ) → r < first.rows → length first.bits ≡ first.rows
    → now ≡ copied first (table first.rows first.cols (masked_bit first.cols mask seed)) r
    → next ≡ showing now (with_row (content now) r (map (masked_bit now.cols mask seed r) (range_with_len 0 now.cols)))
    → next ≡ copied first (table first.rows first.cols (masked_bit first.cols mask seed)) (r + 1)
filled_more first now next mask seed r below high is written =
    let rows = table first.rows first.cols (masked_bit first.cols mask seed) in
    let many = length-table first.rows first.cols (masked_bit first.cols mask seed) in
    copied_more first now next rows r (omega (arith, many, below)) (omega (arith, high, below)) is
    (written
    ∙ ap {B = Window} (λ l. record now { bits = set now.bits r l })
    (ap (λ n. map (masked_bit n mask seed r) (range_with_len 0 n)) (ap (λ (w : Window). w.cols) is) ∙ sym (row-table first.rows first.cols (masked_bit first.cols mask seed) r below)))
