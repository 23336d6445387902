-- One word of a row whose columns may end inside it.
use Rattle.std.proofs.Common.{◌≡◌, ◌≢◌, ℕ, inl, inr, ◌+◌, ◌-◌, ◌*◌, ◌/◌, ◌%◌, ◌^◌, ◌<◌, ◌≤◌, min, cond, List, length, get_or, set, refl, sym, ◌∙◌, ap, subst, arith, bit_and, eqb}
use Rattle.std.specs.Prelude.{nat_lt}
use Rattle.std.specs.Int.{bit_at}
use Rattle.std.proofs.lemmas.Bool.{cases_eq, cases_lt, cond-true, cond-false, lt-ltb, le-ltb, eq-eqb, ne_eqb}
use Rattle.std.proofs.lemmas.Nat.Bits.{bit_at_and, bit_at_ones, bit_at_ones_above, bit_at-lt}
use Rattle.std.proofs.lemmas.List.{get_or-set_same, get_or-set_other, get_or_past}
use Rattle.std.proofs.lemmas.List.FromFn.{length-map-range_with_len, get_or-map-range_with_len}
use Rattle.m4_model.specs.Matrix.{row}
use Rattle.m4_model.specs.Text.{words_per_row}
use Rattle.m4_bits.specs.Bits.{bit, last_bits, merged}
use Rattle.m4_bits.proofs.BitsLemmas.{last_bits-is}
use Rattle.m4_bits.proofs.OverlaidLemmas.{bit_at-merged_under, bit_at-merged_outside}
use Rattle.m4_area.specs.Rectangle.{Rectangle}
use Rattle.m4_area.specs.Rows.{row_of}
use Rattle.m4_area.specs.View.{seen}
use Rattle.m4_mzd.specs.Window.{Window, content}
use Rattle.m4_mzd.specs.Shown.{window, bits_within, IsFramed}
use Rattle.m4_mzd.specs.Seen.{shown, shown_rows}
use Rattle.m4_mzd.specs.Rows.{with_word}
use Rattle.m4_mzd.specs.declared.win.Win.{Win}
use Rattle.m4_mzd.proofs.BitRows.{length-bits_within, get_or-bits_within}
use Rattle.m4_mzd.proofs.WindowLemmas.{row_of_bits}
use Rattle.m4_mzd.proofs.SeenLemmas.{words_seen, framed_seen}
use Rattle.m4_mzd.proofs.WriteLemmas.{Holds, Wrote}

-- 1 where a bit of a word stands for a column, else 0
abbrev pub in_cols : ℕ → ℕ → ℕ → ℕ
in_cols cols w j = cond (nat_lt (w * 64 + j) cols) 1 0

in_cols-one : (cols w j : ℕ) → w * 64 + j < cols → in_cols cols w j ≡ 1
in_cols-one cols w j below = cond-true _ 1 0 (lt-ltb (w * 64 + j) cols below)

in_cols-zero : (cols w j : ℕ) → cols ≤ w * 64 + j → in_cols cols w j ≡ 0
in_cols-zero cols w j past = cond-false _ 1 0 (le-ltb (w * 64 + j) cols past)

pub mask_last : (cols w j : ℕ) → w < words_per_row cols → w ≡ words_per_row cols - 1 → j < 64 → bit_at (2 ^ last_bits cols - 1) j ≡ in_cols cols w j
mask_last cols w j below last small =
    elim (cases_lt (w * 64 + j) cols) [
      | inl inside ↦ bit_at_ones (last_bits cols) j (rw (last_bits-is cols) (omega arith)) ∙ sym (in_cols-one cols w j inside)
      | inr outside ↦ bit_at_ones_above (last_bits cols) j (rw (last_bits-is cols) (omega arith)) ∙ sym (in_cols-zero cols w j outside)
    ]

pub mask_full : (cols w j : ℕ) → w < words_per_row cols → (w ≡ words_per_row cols - 1 → ⊥) → j < 64 → bit_at (2 ^ 64 - 1) j ≡ in_cols cols w j
mask_full cols w j below inner small =
    let inside : w * 64 + j < cols = omega (arith, inner) in
    bit_at_ones 64 j small ∙ sym (in_cols-one cols w j inside)

-- the bits of a word under its mask
pub word_bits : (cols w j mask : ℕ) (words : List ℕ) → length words ≡ words_per_row cols → bit_at mask j ≡ in_cols cols w j → j < 64
    → bit_at (bit_and (get_or words w 0) mask) j ≡ get_or (bits_within cols words) (w * 64 + j) 0
word_bits cols w j mask words wide masked small =
    let word : (w * 64 + j) / 64 ≡ w = omega arith in
    let place : (w * 64 + j) % 64 ≡ j = omega arith in
    bit_at_and (get_or words w 0) mask j
    ∙ elim (cases_lt (w * 64 + j) cols) [
      | inl inside ↦
          ap (min (bit_at (get_or words w 0) j)) (masked ∙ in_cols-one cols w j inside)
          ∙ (let bound = bit_at-lt (get_or words w 0) j in let least : min (bit_at (get_or words w 0) j) 1 ≡ bit_at (get_or words w 0) j = omega arith in least)
          ∙ sym (get_or-bits_within cols words (w * 64 + j) inside ∙ (rw (word, place) refl))
      | inr outside ↦
          ap (min (bit_at (get_or words w 0) j)) (masked ∙ in_cols-zero cols w j outside)
          ∙ (let least : min (bit_at (get_or words w 0) j) 0 ≡ 0 = omega arith in least)
          ∙ sym (get_or_past (bits_within cols words) (w * 64 + j) 0 (omega (arith, length-bits_within cols words (omega (arith, wide)))))
    ]

-- a word that is written under its mask
pub word_written : (cols w mask value j : ℕ) (words : List ℕ) → w < length words → ((i : ℕ) → i < 64 → bit_at mask i ≡ in_cols cols w i) → j / 64 ≡ w → j < cols
    → bit (set words w (merged mask (get_or words w 0) value)) j ≡ bit_at value (j % 64)
word_written cols w mask value j words within masks here below =
    let under : bit_at mask (j % 64) ≡ 1 = masks (j % 64) (omega arith) ∙ in_cols-one cols w (j % 64) (omega arith) in
    ap (λ k. bit_at (get_or (set words w (merged mask (get_or words w 0) value)) k 0) (j % 64)) here
    ∙ ap (λ x. bit_at x (j % 64)) (get_or-set_same words w (merged mask (get_or words w 0) value) 0 within)
    ∙ bit_at-merged_under mask (get_or words w 0) value (j % 64) under

pub word_kept : (cols w mask value j : ℕ) (words : List ℕ) → w < length words → ((i : ℕ) → i < 64 → bit_at mask i ≡ in_cols cols w i) → cols ≤ j
    → bit (set words w (merged mask (get_or words w 0) value)) j ≡ bit words j
word_kept cols w mask value j words within masks past =
    elim (cases_eq (j / 64) w) [
      | inl here ↦
          let outside : bit_at mask (j % 64) ≡ 0 = masks (j % 64) (omega arith) ∙ in_cols-zero cols w (j % 64) (omega arith) in
          ap (λ k. bit_at (get_or (set words w (merged mask (get_or words w 0) value)) k 0) (j % 64)) here
          ∙ ap (λ x. bit_at x (j % 64)) (get_or-set_same words w (merged mask (get_or words w 0) value) 0 within)
          ∙ bit_at-merged_outside mask (get_or words w 0) value (j % 64) outside
          ∙ ap (λ k. bit_at (get_or words k 0) (j % 64)) (sym here)
      | inr away ↦ ap (λ x. bit_at x (j % 64)) (get_or-set_other words w (j / 64) (merged mask (get_or words w 0) value) 0 away)
    ]

-- a row in which a word was written
pub wrote_word : (cols w value : ℕ) (old new xs : List ℕ) → Holds cols old xs → length new ≡ length old
    → ((j : ℕ) → j / 64 ≡ w → j < cols → bit new j ≡ bit_at value (j % 64)) → ((j : ℕ) → j / 64 ≢ w → bit new j ≡ bit old j) → ((j : ℕ) → cols ≤ j → bit new j ≡ bit old j)
    → Wrote cols old new (with_word w value xs)
wrote_word cols w value old new xs h long written others kept =
    let f : ℕ → ℕ = λ j. cond (eqb (j / 64) w) (bit_at value (j % 64)) (get_or xs j 0) in
    record {
      holds = record {
        long = long ∙ h.long;
        entries_long = length-map-range_with_len f 0 (length xs) ∙ h.entries_long;
        bits = λ j inside.
            get_or-map-range_with_len f 0 (length xs) j j 0 (omega (arith, h.entries_long)) (omega arith)
            ∙ elim (cases_eq (j / 64) w) [
              | inl here ↦ cond-true _ _ _ (eq-eqb (j / 64) w here) ∙ sym (written j here inside)
              | inr away ↦ cond-false _ _ _ (ne_eqb (j / 64) w away) ∙ (h.bits j inside ∙ sym (others j away))
            ];
      };
      kept = kept;
    }

-- the entries of a row, as bits of its words
pub row_in_words : (v : Rectangle) (cols r : ℕ) (w : Window) → window v cols ≡ w → IsFramed v cols → r < w.rows → bits_within cols (row_of v.words r) ≡ row (content w) r
row_in_words v cols r w is f =
    let P : Window → Type 0 = λ x. r < x.rows → bits_within cols (row_of v.words r) ≡ row (content x) r in
    subst P is (λ below. sym (row_of_bits v cols r f below))

pub row_in_view : (x : Win) (s : ℕ) → s < x.view.rows → bits_within x.cols (row_of (seen x.view) s) ≡ row (shown x) s
unfolding shown_rows
row_in_view x s below = sym (row_of_bits (words_seen x) x.cols s (framed_seen x) below)
