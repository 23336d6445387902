-- A row of a window that is written in whole words: the entries that it holds then, and what the window is.
use Rattle.std.proofs.Common.{◌≡◌, ◌≢◌, ℕ, inl, inr, ◌+◌, ◌-◌, ◌^◌, ◌<◌, ◌≤◌, List, [], ◌∷◌, length, get_or, set, map, replicate, refl, sym, ◌∙◌, ap, subst, arith, bit_xor, ◌*◌, ◌/◌, ◌%◌}
use Rattle.std.specs.Int.{bit_at}
use Rattle.std.proofs.lemmas.Bool.{cases_eq, cases_lt}
use Rattle.std.proofs.lemmas.List.{length-map, get_or-map, get_or_past, length-set, length-replicate, get_or-set_same, get_or-set_other, get_or-replicate, map-set, set-get_or}
use Rattle.m4_model.specs.Matrix.{row, row_sum}
use Rattle.m4_model.specs.Text.{words_per_row}
use Rattle.m4_bits.specs.Bits.{bit, last_bits, masked, overlaid, rows_added}
use Rattle.m4_bits.proofs.BitsLemmas.{length-row_sum, get_or-row_sum, bit-row_sum, length-masked, bit-masked_below, bit-masked_past, bit-sum_masked_below, bit-sum_masked_past}
use Rattle.m4_bits.specs.Products.{products, row_products}
use Rattle.m4_bits.proofs.OverlaidLemmas.{length-overlaid, bit-overlaid_below, bit-overlaid_past, bit-cleared_below, bit-cleared_past}
use Rattle.m4_area.specs.Rectangle.{Rectangle}
use Rattle.m4_area.specs.Rows.{row_of, with_row, refill}
use Rattle.m4_area.specs.View.{seen}
use Rattle.m4_area.proofs.RowLemmas.{refill_same}
use Rattle.m4_area.proofs.ShapeLemmas.{row_width}
use Rattle.m4_mzd.specs.Window.{Window}
use Rattle.m4_mzd.specs.Shown.{window, bits_within, bits_past, IsFramed}
use Rattle.m4_mzd.specs.Seen.{shown, shown_rows}
use Rattle.m4_mzd.specs.Products.{AreProducts}
use Rattle.m4_mzd.specs.Rows.{sum_from}
use Rattle.m4_mzd.specs.declared.win.Win.{Win}
use Rattle.m4_mzd.proofs.BitRows.{length-bits_within, get_or-bits_within, within_written, past_kept}
use Rattle.m4_mzd.proofs.RowLemmas.{length-sum_from, sum_from-before, sum_from-after}
use Rattle.m4_mzd.proofs.WindowLemmas.{same_window, row_of_bits, length-row_of_bits}
use Rattle.m4_mzd.proofs.SeenLemmas.{words_seen, framed_seen}

-- a row of words, and the entries of so many columns that stand in it
pub record Holds (cols : ℕ) (words entries : List ℕ) : Type 0 where
  pub long : length words ≡ words_per_row cols
  pub entries_long : length entries ≡ cols
  pub bits : (j : ℕ) → j < cols → get_or entries j 0 ≡ bit words j

-- a row of words was written: it holds these entries, and past its columns what it held
pub record Wrote (cols : ℕ) (old new entries : List ℕ) : Type 0 where
  pub holds : Holds cols new entries
  pub kept : (j : ℕ) → cols ≤ j → bit new j ≡ bit old j

holds_row : (v : Rectangle) (cols r : ℕ) → IsFramed v cols → r < v.rows → Holds cols (row_of v.words r) (get_or (window v cols).bits r [])
holds_row v cols r f below = record {
  long = row_width v r f.shape below ∙ f.wide;
  entries_long = length-row_of_bits v cols r f below;
  bits = λ j within. ap (λ row. get_or row j 0) (row_of_bits v cols r f below) ∙ get_or-bits_within cols (row_of v.words r) j within;
}

-- a row of a window for writing
pub holds_own : (v : Rectangle) (cols r : ℕ) (old : List ℕ) (w : Window) → window v cols ≡ w → IsFramed v cols → r < w.rows → old ≡ row_of v.words r
    → Holds cols old (get_or w.bits r [])
holds_own v cols r old w is f =
    let P : Window → Type 0 = λ x. r < x.rows → old ≡ row_of v.words r → Holds cols old (get_or x.bits r []) in
    subst P is (λ below was. subst (λ l. Holds cols l (get_or (window v cols).bits r [])) (sym was) (holds_row v cols r f below))

-- a row of a window for reading
pub holds_shown : (x : Win) (s : ℕ) → s < x.view.rows → Holds x.cols (row_of (seen x.view) s) (row (shown x) s)
unfolding shown_rows
holds_shown x s below = holds_row (words_seen x) x.cols s (framed_seen x) below

pub holds_seen : (x : Win) (cols s : ℕ) (source : List ℕ) (w : Window) (v : Rectangle) → window v cols ≡ w → s < x.view.rows → x.cols ≡ w.cols → source ≡ row_of (seen x.view) s
    → Holds cols source (row (shown x) s)
holds_seen x cols s source w v is below same was =
    let cols_same : x.cols ≡ cols = same ∙ sym (ap (λ (y : Window). y.cols) is) in
    subst (λ n. Holds n source (row (shown x) s)) cols_same (subst (λ l. Holds x.cols l (row (shown x) s)) (sym was) (holds_shown x s below))

-- words of a row hold their own bits
pub holds_words : (cols : ℕ) (words : List ℕ) → length words ≡ words_per_row cols → Holds cols words (bits_within cols words)
holds_words cols words long = record {
  long = long;
  entries_long = length-bits_within cols words (omega (arith, long));
  bits = λ j below. get_or-bits_within cols words j below;
}

-- the same of equal numbers of columns
pub holds_at : (m n : ℕ) (words entries : List ℕ) → m ≡ n → Holds m words entries → Holds n words entries
holds_at m n words entries same h = subst (λ k. Holds k words entries) same h

-- the columns of two windows of as many
pub same_columns : (v u : Rectangle) (m n : ℕ) (w x : Window) → window v m ≡ w → window u n ≡ x → x.cols ≡ w.cols → n ≡ m
same_columns v u m n w x is other same = ap (λ (y : Window). y.cols) other ∙ same ∙ sym (ap (λ (y : Window). y.cols) is)

-- the window once a row of its words was written
row_written_in : (v : Rectangle) (cols r : ℕ) (old new entries : List ℕ) → IsFramed v cols → r < v.rows → old ≡ row_of v.words r → Wrote cols old new entries
    → window (record v { words = with_row v.words r new }) cols ≡ record (window v cols) { bits = set (window v cols).bits r entries }
row_written_in v cols r old new entries f below was wrote =
    let before = row_of v.words r in
    let long : length new ≡ length before = wrote.holds.long ∙ sym (row_width v r f.shape below ∙ f.wide) in
    let same : refill before new ≡ new = refill_same before new long in
    let within : bits_within cols new ≡ entries =
    within_written cols new entries (omega (arith, wrote.holds.long)) wrote.holds.entries_long (λ j inside. sym (wrote.holds.bits j inside)) in
    let past : bits_past cols new ≡ bits_past cols before = past_kept cols before new long (λ j outside. wrote.kept j outside ∙ ap (λ l. bit l j) was) in
    same_window _ _ refl refl refl refl
    (map-set (bits_within cols) v.words r (refill before new) ∙ ap (set (map (bits_within cols) v.words) r) (ap (bits_within cols) same ∙ within))
    (map-set (bits_past cols) v.words r (refill before new)
    ∙ ap (set (map (bits_past cols) v.words) r) (ap (bits_past cols) same ∙ past)
    ∙ (sym (map-set (bits_past cols) v.words r before) ∙ ap (map (bits_past cols)) (set-get_or v.words r [])))

pub row_written : (v : Rectangle) (cols r : ℕ) (old new entries : List ℕ) (w : Window) → window v cols ≡ w → IsFramed v cols → r < w.rows → old ≡ row_of v.words r
    → Wrote cols old new entries → window (record v { words = with_row v.words r new }) cols ≡ record w { bits = set w.bits r entries }
row_written v cols r old new entries w is f =
    let P : Window → Type 0 = λ x. r < x.rows → old ≡ row_of v.words r → Wrote cols old new entries
    → window (record v { words = with_row v.words r new }) cols ≡ record x { bits = set x.bits r entries } in
    subst P is (row_written_in v cols r old new entries f)

-- one bit
pub wrote_bit : (cols c : ℕ) (old new xs : List ℕ) (value : ℕ) → Holds cols old xs → length new ≡ length old → c < cols
    → bit new c ≡ value → ((k : ℕ) → k ≢ c → bit new k ≡ bit old k) → Wrote cols old new (set xs c value)
wrote_bit cols c old new xs value h long within changed others = record {
  holds = record {
    long = long ∙ h.long;
    entries_long = length-set xs c value ∙ h.entries_long;
    bits = λ j inside. elim (cases_eq j c) [
      | inl here ↦ rw here (get_or-set_same xs c value 0 (omega (arith, h.entries_long)) ∙ sym changed)
      | inr away ↦ get_or-set_other xs c j value 0 away ∙ (h.bits j inside ∙ sym (others j away))
    ];
  };
  kept = λ j past. others j (λ is. omega (arith, is));
}

-- a row that was added
pub wrote_sum : (cols last : ℕ) (old src new xs ys : List ℕ) → last ≡ 2 ^ last_bits cols - 1 → new ≡ row_sum old (masked src last)
    → Holds cols old xs → Holds cols src ys → Wrote cols old new (row_sum xs ys)
wrote_sum cols last old src new xs ys mask sum h g =
    let now : new ≡ row_sum old (masked src (2 ^ last_bits cols - 1)) = sum ∙ ap (λ m. row_sum old (masked src m)) mask in
    let same : length old ≡ length src = h.long ∙ sym g.long in
    let entries : length xs ≡ length ys = h.entries_long ∙ sym g.entries_long in
    record {
      holds = record {
        long = ap length now ∙ (length-row_sum old (masked src (2 ^ last_bits cols - 1)) ∙ h.long);
        entries_long = length-row_sum xs ys ∙ h.entries_long;
        bits = λ j inside.
            get_or-row_sum xs ys j entries
            ∙ (λ i. bit_xor (h.bits j inside i) (g.bits j inside i))
            ∙ sym (ap (λ l. bit l j) now ∙ bit-sum_masked_below old src cols j same g.long inside);
      };
      kept = λ j past. ap (λ l. bit l j) now ∙ bit-sum_masked_past old src cols j same g.long past;
    }

-- a row that was added from a column on
pub wrote_tail : (cols last c : ℕ) (old src new xs ys : List ℕ) → last ≡ 2 ^ last_bits cols - 1 → length new ≡ length old → c ≤ cols
    → ((k : ℕ) → c ≤ k → bit new k ≡ bit (row_sum old (masked src last)) k) → ((k : ℕ) → k < c → bit new k ≡ bit old k)
    → Holds cols old xs → Holds cols src ys → Wrote cols old new (sum_from c xs ys)
wrote_tail cols last c old src new xs ys mask long within added stays h g =
    let same : length old ≡ length src = h.long ∙ sym g.long in
    let entries : length xs ≡ length ys = h.entries_long ∙ sym g.entries_long in
    let room : c ≤ length xs = omega (arith, h.entries_long) in
    let sums : (k : ℕ) → c ≤ k → bit new k ≡ bit (row_sum old (masked src (2 ^ last_bits cols - 1))) k =
    λ k from. added k from ∙ ap (λ m. bit (row_sum old (masked src m)) k) mask in
    record {
      holds = record {
        long = long ∙ h.long;
        entries_long = length-sum_from c xs ys ∙ h.entries_long;
        bits = λ j inside. elim (cases_lt j c) [
          | inl before ↦ sum_from-before c j xs ys room before ∙ (h.bits j inside ∙ sym (stays j before))
          | inr from ↦
              sum_from-after c j xs ys (sym entries) room from
              ∙ (λ i. bit_xor (h.bits j inside i) (g.bits j inside i))
              ∙ sym (sums j from ∙ bit-sum_masked_below old src cols j same g.long inside)
        ];
      };
      kept = λ j past. sums j (omega arith) ∙ bit-sum_masked_past old src cols j same g.long past;
    }

-- the products of the words of a row
pub holds_products : (cols last n low : ℕ) (patterns src xs ys : List ℕ) → last ≡ 2 ^ last_bits cols - 1 → Holds cols src xs → AreProducts n low patterns xs ys
    → Holds cols (row_products n low patterns src last) ys
holds_products cols last n low patterns src xs ys mask h p =
    let sources = masked src (2 ^ last_bits cols - 1) in
    let P : ℕ → Type 0 = λ m. Holds cols (row_products n low patterns src m) ys in
    subst P (sym mask) (record {
      long = length-map sources (products n low patterns) ∙ length-masked src (2 ^ last_bits cols - 1) ∙ h.long;
      entries_long = p.long ∙ h.entries_long;
      bits = λ j inside.
          let within : j / 64 < length sources = omega (arith, length-masked src (2 ^ last_bits cols - 1), h.long, inside) in
          p.bits (get_or sources (j / 64) 0) j (omega (arith, h.entries_long, inside)) (λ i small. reads (j / 64) i small)
          ∙ ap (λ w. bit_at w (j % 64)) (sym (get_or-map (products n low patterns) sources (j / 64) 0 0 within));
    })
  where
    reads : (w i : ℕ) → i < 64 → bit_at (get_or (masked src (2 ^ last_bits cols - 1)) w 0) i ≡ get_or xs (w * 64 + i) 0
    reads w i small =
        let word : (w * 64 + i) / 64 ≡ w = omega (arith, small) in
        let place : (w * 64 + i) % 64 ≡ i = omega (arith, small) in
        (λ k. bit_at (get_or (masked src (2 ^ last_bits cols - 1)) (sym word k) 0) (sym place k))
        ∙ (elim (cases_lt (w * 64 + i) cols) [
          | inl inside ↦ bit-masked_below src cols (w * 64 + i) h.long inside ∙ sym (h.bits (w * 64 + i) inside)
          | inr past ↦ bit-masked_past src cols (w * 64 + i) h.long past ∙ sym (get_or_past xs (w * 64 + i) 0 (omega (arith, h.entries_long, past)))
        ])

-- a row that was copied
pub wrote_copy : (cols last : ℕ) (old src new xs ys : List ℕ) → last ≡ 2 ^ last_bits cols - 1 → new ≡ overlaid old src last
    → Holds cols old xs → Holds cols src ys → Wrote cols old new ys
wrote_copy cols last old src new xs ys mask is h g =
    let now : new ≡ overlaid old src (2 ^ last_bits cols - 1) = is ∙ ap (overlaid old src) mask in
    record {
      holds = record {
        long = ap length now ∙ (length-overlaid old src (2 ^ last_bits cols - 1) ∙ g.long);
        entries_long = g.entries_long;
        bits = λ j inside. g.bits j inside ∙ sym (ap (λ l. bit l j) now ∙ bit-overlaid_below old src cols j g.long inside);
      };
      kept = λ j past. ap (λ l. bit l j) now ∙ bit-overlaid_past old src cols j (h.long ∙ sym g.long) g.long past;
    }

-- the sum of two rows of words holds the sum of what they hold
holds_sum : (cols : ℕ) (xs ys entries others : List ℕ) → Holds cols xs entries → Holds cols ys others → Holds cols (row_sum xs ys) (row_sum entries others)
holds_sum cols xs ys entries others h g = record {
  long = length-row_sum xs ys ∙ h.long;
  entries_long = length-row_sum entries others ∙ h.entries_long;
  bits = λ j inside.
      get_or-row_sum entries others j (h.entries_long ∙ sym g.entries_long)
      ∙ (λ i. bit_xor (h.bits j inside i) (g.bits j inside i))
      ∙ sym (bit-row_sum xs ys j (h.long ∙ sym g.long));
}

-- a row that became the sum of two others
pub wrote_sum_of_two : (cols last : ℕ) (old xs ys new old_entries entries others : List ℕ) → last ≡ 2 ^ last_bits cols - 1 → new ≡ overlaid old (row_sum xs ys) last
    → Holds cols old old_entries → Holds cols xs entries → Holds cols ys others → Wrote cols old new (row_sum entries others)
wrote_sum_of_two cols last old xs ys new old_entries entries others mask is held h g =
    wrote_copy cols last old (row_sum xs ys) new old_entries (row_sum entries others) mask is held (holds_sum cols xs ys entries others h g)

-- a row to which two others were added
pub wrote_both : (cols last : ℕ) (old xs ys new own entries others : List ℕ) → last ≡ 2 ^ last_bits cols - 1 → new ≡ rows_added old (xs ∷ ys ∷ []) last
    → Holds cols old own → Holds cols xs entries → Holds cols ys others → Wrote cols old new (row_sum (row_sum own entries) others)
wrote_both cols last old xs ys new own entries others mask is held h g =
    let once = row_sum old (masked xs last) in
    let first = wrote_sum cols last old xs once own entries mask refl held h in
    let second = wrote_sum cols last once ys new (row_sum own entries) others mask is first.holds g in
    record { holds = second.holds; kept = λ j past. second.kept j past ∙ first.kept j past }

-- a row that was cleared
pub wrote_zeros : (cols last : ℕ) (old new xs : List ℕ) (w : Window) (v : Rectangle) → window v cols ≡ w → last ≡ 2 ^ last_bits cols - 1 → new ≡ overlaid old (replicate (length old) 0) last
    → Holds cols old xs → Wrote cols old new (replicate w.cols 0)
wrote_zeros cols last old new xs w v is mask cleared h =
    let now : new ≡ overlaid old (replicate (length old) 0) (2 ^ last_bits cols - 1) = cleared ∙ ap (overlaid old (replicate (length old) 0)) mask in
    subst (λ n. Wrote cols old new (replicate n 0)) (ap (λ (y : Window). y.cols) is)
    (record {
      holds = record {
        long = ap length now ∙ (length-overlaid old (replicate (length old) 0) (2 ^ last_bits cols - 1) ∙ (length-replicate (length old) 0 ∙ h.long));
        entries_long = length-replicate cols 0;
        bits = λ j inside. get_or-replicate cols j 0 0 inside ∙ sym (ap (λ l. bit l j) now ∙ bit-cleared_below old cols j h.long inside);
      };
      kept = λ j past. ap (λ l. bit l j) now ∙ bit-cleared_past old cols j h.long past;
    })

-- the window once a row was made of two rows of others, and of what it held
pub row_of_two_written : (v : Rectangle) (cols r i j : ℕ) (a b : Win) (w : Window) (own first second new entries : List ℕ) → window v cols ≡ w → IsFramed v cols → r < w.rows → own ≡ row_of v.words r
    → i < a.view.rows → a.cols ≡ w.cols → first ≡ row_of (seen a.view) i → j < b.view.rows → b.cols ≡ w.cols → second ≡ row_of (seen b.view) j
    → (Holds cols own (get_or w.bits r []) → Holds cols first (row (shown a) i) → Holds cols second (row (shown b) j) → Wrote cols own new entries)
    → window (record v { words = with_row v.words r new }) cols ≡ record w { bits = set w.bits r entries }
row_of_two_written v cols r i j a b w own first second new entries is f below was in_a wide_a first_is in_b wide_b second_is wrote =
    row_written v cols r own new entries w is f below was
    (wrote (holds_own v cols r own w is f below was) (holds_seen a cols i first w v is in_a wide_a first_is) (holds_seen b cols j second w v is in_b wide_b second_is))
