-- Several rows that are added to one.
use Rattle.std.proofs.Common.{◌≡◌, ℕ, suc, ◌-◌, ◌^◌, ◌<◌, List, [], ◌∷◌, length, get_or, set, map, refl, sym, ◌∙◌, ap, arith}
use Rattle.std.specs.List.{All, range_with_len}
use Rattle.std.proofs.lemmas.List.FromFn.{fill_by_all}
use Rattle.m4_model.specs.Matrix.{row, row_sum}
use Rattle.m4_bits.specs.Bits.{bit, last_bits, masked, rows_added}
use Rattle.m4_area.specs.Rectangle.{Rectangle}
use Rattle.m4_area.specs.Rows.{row_of, with_row}
use Rattle.m4_area.specs.View.{seen}
use Rattle.m4_mzd.specs.Window.{Window, content}
use Rattle.m4_mzd.specs.Shown.{window, IsFramed}
use Rattle.m4_mzd.specs.Seen.{shown}
use Rattle.m4_mzd.specs.Rows.{sum_of, rows_at}
use Rattle.m4_mzd.specs.declared.win.Win.{Win}
use Rattle.m4_mzd.proofs.WriteLemmas.{Holds, Wrote, wrote_sum, row_written, holds_own, holds_seen}

-- rows of words, and the entries that stand in each
abbrev pub AllHold : ℕ → List (List ℕ) → List (List ℕ) → Type 0
AllHold cols [] [] = Unit {0}
AllHold cols [] (e ∷ es) = ⊥
AllHold cols (s ∷ ss) [] = ⊥
AllHold cols (s ∷ ss) (e ∷ es) = Holds cols s e × AllHold cols ss es

-- rows that were added
wrote_rows : (cols last : ℕ) (old new xs : List ℕ) (sources entries : List (List ℕ)) → last ≡ 2 ^ last_bits cols - 1 → new ≡ rows_added old sources last
    → Holds cols old xs → AllHold cols sources entries → Wrote cols old new (sum_of xs entries)
wrote_rows cols last old new xs [] [] mask is h all =
    record {
      holds = record { long = ap length is ∙ h.long; entries_long = h.entries_long; bits = λ j inside. h.bits j inside ∙ ap (λ l. bit l j) (sym is) };
      kept = λ j past. ap (λ l. bit l j) is;
    }
wrote_rows cols last old new xs [] (e ∷ es) mask is h all = absurd all
wrote_rows cols last old new xs (s ∷ ss) [] mask is h all = absurd all
wrote_rows cols last old new xs (s ∷ ss) (e ∷ es) mask is h all =
    let once = row_sum old (masked s last) in
    let first = wrote_sum cols last old s once xs e mask refl h all.0 in
    let rest = wrote_rows cols last once new (row_sum xs e) ss es mask is first.holds all.1 in
    record { holds = rest.holds; kept = λ j past. rest.kept j past ∙ first.kept j past }

-- the rows of a window for reading that have these numbers
abbrev pub words_at : Win → List ℕ → List (List ℕ)
words_at x numbers = map (row_of (seen x.view)) numbers

all_hold : (x : Win) (cols : ℕ) (w : Window) (v : Rectangle) (numbers : List ℕ) → window v cols ≡ w → x.cols ≡ w.cols → All (λ s. s < x.view.rows) numbers
    → AllHold cols (words_at x numbers) (rows_at (shown x) numbers)
all_hold x cols w v [] is same within = tt
all_hold x cols w v (s ∷ numbers) is same within = (
  holds_seen x cols s (row_of (seen x.view) s) w v is (within 0 0 (omega arith)) same refl,
  all_hold x cols w v numbers is same (λ k d below. within (suc k) d (omega arith)),
)

-- a list by its elements
pub listed : (xs : List ℕ) (n : ℕ) → length xs ≡ n → xs ≡ map (λ k. get_or xs k 0) (range_with_len 0 n)
listed xs n long = fill_by_all (λ k. get_or xs k 0) xs n 0 long (λ k below. refl)

-- the window once rows of another were added to one of its rows
pub rows_written : (x : Win) (v : Rectangle) (cols r last : ℕ) (old new : List ℕ) (sources : List (List ℕ)) (numbers : List ℕ) (w : Window)
    → window v cols ≡ w → IsFramed v cols → r < w.rows → x.cols ≡ w.cols → All (λ s. s < x.view.rows) numbers → sources ≡ words_at x numbers
    → last ≡ 2 ^ last_bits cols - 1 → old ≡ row_of v.words r → new ≡ rows_added old sources last
    → window (record v { words = with_row v.words r new }) cols ≡ record w { bits = set w.bits r (sum_of (row (content w) r) (rows_at (shown x) numbers)) }
rows_written x v cols r last old new sources numbers w is framed below same within listed mask was added =
    row_written v cols r old new (sum_of (row (content w) r) (rows_at (shown x) numbers)) w is framed below was
    (wrote_rows cols last old new (row (content w) r) (words_at x numbers) (rows_at (shown x) numbers) mask (added ∙ ap (λ l. rows_added old l last) listed)
    (holds_own v cols r old w is framed below was) (all_hold x cols w v numbers is same within))
