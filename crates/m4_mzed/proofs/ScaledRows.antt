-- A row that is scaled word by word.
use Rattle.std.proofs.Common.{◌≡◌, ℕ, ◌+◌, ◌*◌, ◌/◌, ◌%◌, ◌<◌, ◌≤◌, inl, inr, List, length, get_or, sym, ◌∙◌, ap, subst, arith}
use Rattle.std.specs.Int.{bit_at}
use Rattle.std.proofs.lemmas.Bool.{cases_lt}
use Rattle.std.proofs.lemmas.List.{ext_get_or, get_or_past}
use Rattle.m4_model.specs.Field.{Field, IsCarried, IsElement, mul, width}
use Rattle.m4_model.specs.Matrix.{row, at, with_row}
use Rattle.m4_model.specs.Text.{words_per_row}
use Rattle.m4_mzd.specs.Window.{Window, content, showing}
use Rattle.m4_mzd.specs.Rows.{with_word}
use Rattle.m4_field.proofs.WidthLemmas.{width_facts}
use Rattle.m4_mzed.specs.Words.{element}
use Rattle.m4_mzed.specs.Packed.{unpacked, IsPackedRow}
use Rattle.m4_mzed.specs.Rows.{packed_multiples}
use Rattle.m4_mzed.proofs.IndexLemmas.{AreBits, element_at}
use Rattle.m4_mzed.proofs.ProductLemmas.{length-multiples, get_or-multiples}
use Rattle.m4_mzed.proofs.SumLemmas.{word_element, told_bit, SetTo, set_more, written_again, length-with_word}

-- the bits of the multiples
abbrev pub bits_of_multiples : Field → ℕ → List ℕ → ℕ → ℕ → ℕ
bits_of_multiples F n xs x p = bit_at (mul F (get_or (unpacked (width F) n xs) (p / width F) 0) x) (p % width F)

module _ (F : Field) (carried : IsCarried F) (n x : ℕ) (first now : Window) (r w word : ℕ) (p : IsPackedRow F n (row (content first) r)) (bits : AreBits (row (content first) r))
    (long : length (row (content first) r) ≡ first.cols) (now_long : length (row (content now) r) ≡ first.cols)
    (so_far : SetTo first.cols w (bits_of_multiples F n (row (content first) r) x) (row (content first) r) (row (content now) r))
    (reads : (j : ℕ) → j < 64 → bit_at word j ≡ at (content now) r (w * 64 + j)) where
  xs : List ℕ
  xs = row (content first) r

  -- a word that comes next is as it was
  old_word : (j : ℕ) → j < 64 → bit_at word j ≡ get_or (row (content first) r) (w * 64 + j) 0
  old_word j small = reads j small ∙ (elim (cases_lt (w * 64 + j) first.cols) [
    | inl inside ↦ so_far.rest (w * 64 + j) inside (omega arith)
    | inr past ↦ get_or_past (row (content now) r) (w * 64 + j) 0 (omega (arith, now_long, past)) ∙ sym (get_or_past (row (content first) r) (w * 64 + j) 0 (omega (arith, long, past)))
  ])

  whole : 64 / width F * width F ≡ 64
  whole = (width_facts F carried).whole

  same : (i : ℕ) → i < 64 / width F → element (width F) i word ≡ get_or (unpacked (width F) n (row (content first) r)) (w * (64 / width F) + i) 0
  same i below = word_element (width F) (64 / width F) whole n (row (content first) r) p.long bits w word old_word i below

  pub word_elements : (i : ℕ) → i < 64 / width F → IsElement F (element (width F) i word)
  word_elements i below = let P : ℕ → Type 0 = IsElement F in subst P (sym (same i below)) (element_at F (unpacked (width F) n (row (content first) r)) (w * (64 / width F) + i) p.elements)

  pub scaled_more : (next : Window) (product : ℕ) → r < length first.bits → now ≡ showing first (with_row (content first) r (row (content now) r))
      → ((i : ℕ) → i < 64 / width F → element (width F) i product ≡ mul F (element (width F) i word) x)
      → next ≡ showing now (with_row (content now) r (with_word w product (row (content now) r)))
      → (next ≡ showing first (with_row (content first) r (row (content next) r)))
      × SetTo first.cols (w + 1) (bits_of_multiples F n (row (content first) r) x) (row (content first) r) (row (content next) r)
      × (length (row (content next) r) ≡ first.cols)
  scaled_more next product within kept products written =
      let again = written_again first now next r (with_word w product (row (content now) r)) within kept written in
      let told : ℕ → ℕ = λ e. mul F (get_or (unpacked (width F) n (row (content first) r)) e 0) x in
      let more = set_more first.cols w (bits_of_multiples F n (row (content first) r) x) (row (content first) r) (row (content now) r) product now_long
      (λ q below _. told_bit (width F) (64 / width F) whole told w product (λ i i_below. products i i_below ∙ ap (λ y. mul F y x) (same i i_below)) q below) so_far in
      let P : List ℕ → Type 0 = SetTo first.cols (w + 1) (bits_of_multiples F n (row (content first) r) x) (row (content first) r) in
      (again.1, subst P (sym again.0) more, ap length again.0 ∙ length-with_word w product (row (content now) r) ∙ now_long)

-- all words
pub scaled_all : (F : Field) → IsCarried F → (n x w : ℕ) (first now : Window) (r : ℕ) → length (row (content first) r) ≡ first.cols → length (row (content now) r) ≡ first.cols → words_per_row first.cols ≤ w
    → SetTo first.cols w (bits_of_multiples F n (row (content first) r) x) (row (content first) r) (row (content now) r) → row (content now) r ≡ packed_multiples F n x (row (content first) r)
scaled_all F carried n x w first now r long now_long all done =
    let xs = row (content first) r in
    let m = length-multiples F carried n x xs in
    ext_get_or 0 _ _ (now_long ∙ sym (m ∙ long)) (λ j inside.
    let within : j < first.cols = omega (arith, inside, now_long) in
    done.done j within (omega (arith, within, all)) ∙ sym (get_or-multiples F carried n x xs j (omega (arith, within, long))))
