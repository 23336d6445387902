-- Sums of rows of packed elements.
use Rattle.std.proofs.Common.{◌≡◌, ℕ, ◌+◌, ◌*◌, ◌^◌, ◌<◌, List, length, get_or, sym, ◌∙◌, ap, ap₂, subst, arith, bit_xor}
use Rattle.std.specs.List.{All}
use Rattle.std.specs.Int.{bit_at}
use Rattle.std.specs.Int.Bits.{xor_lt}
use Rattle.std.proofs.lemmas.List.Elements.{All-from_get_or, All-get_or}
use Rattle.m4_model.specs.Field.{Field, IsElement, width}
use Rattle.m4_model.specs.Matrix.{row, row_sum, with_row}
use Rattle.m4_bits.proofs.BitsLemmas.{length-row_sum, get_or-row_sum, bit_at-xor}
use Rattle.m4_mzd.specs.Window.{Window, IsWindow}
use Rattle.m4_mzd.specs.Window.{content as bit_content, showing as bit_showing}
use Rattle.m4_mzed.specs.EWindow.{EWindow, content, showing}
use Rattle.m4_mzed.specs.Packed.{unpacked, elements, IsPackedRow, IsPacked}
use Rattle.m4_mzed.proofs.EntryLemmas.{row_bits, packed_row, row_of_elements}
use Rattle.m4_mzed.proofs.IndexLemmas.{AreBits, element_at, element_bit, element_small, unpacked_is}
use Rattle.m4_mzed.proofs.PartLemmas.{packed_written, elements_written}
use Rattle.m4_mzed.proofs.RowLemmas.{length-unpacked}

-- rows of bits that hold n elements
pub record HoldsRow (F : Field) (n : ℕ) (xs : List ℕ) : Type 0 where
  pub packed : IsPackedRow F n xs
  pub bits : AreBits xs

-- their sum
module _ (F : Field) (n : ℕ) (xs ys : List ℕ) (hx : HoldsRow F n xs) (hy : HoldsRow F n ys) where
  same_long : length xs ≡ length ys
  same_long = hx.packed.long ∙ sym hy.packed.long

  many : length (row_sum xs ys) ≡ n * width F
  many = length-row_sum xs ys ∙ hx.packed.long

  sum_bits : AreBits (row_sum xs ys)
  sum_bits = All-from_get_or (λ b. b < 2) _ 0 (λ p inside.
      let P : ℕ → Type 0 = λ b. b < 2 in
      let within : p < length xs = let l = length-row_sum xs ys in omega (arith, l, inside) in
      subst P (sym (get_or-row_sum xs ys p same_long))
      (xor_lt 1 _ _ (All-get_or (λ b. b < 2) xs p 0 within hx.bits) (All-get_or (λ b. b < 2) ys p 0 (let l = same_long in omega (arith, l, within)) hy.bits)))

  abbrev sum_element : ℕ → ℕ
  sum_element j = bit_xor (get_or (unpacked (width F) n xs) j 0) (get_or (unpacked (width F) n ys) j 0)

  sums_long : length (row_sum (unpacked (width F) n xs) (unpacked (width F) n ys)) ≡ n
  sums_long = length-row_sum (unpacked (width F) n xs) (unpacked (width F) n ys) ∙ length-unpacked (width F) n xs

  sums_at : (j : ℕ) → get_or (row_sum (unpacked (width F) n xs) (unpacked (width F) n ys)) j 0 ≡ sum_element j
  sums_at j = get_or-row_sum (unpacked (width F) n xs) (unpacked (width F) n ys) j (length-unpacked (width F) n xs ∙ sym (length-unpacked (width F) n ys))

  pub row_sum_is : unpacked (width F) n (row_sum xs ys) ≡ row_sum (unpacked (width F) n xs) (unpacked (width F) n ys)
  row_sum_is =
      unpacked_is (width F) n (row_sum xs ys) many sum_bits (row_sum (unpacked (width F) n xs) (unpacked (width F) n ys)) sums_long
      (λ j below.
      let P : ℕ → Type 0 = λ x. x < 2 ^ width F in
      subst P (sym (sums_at j)) (xor_lt (width F) _ _ (element_small (width F) n xs hx.packed.long hx.bits j below) (element_small (width F) n ys hy.packed.long hy.bits j below)))
      (λ j v below v_below.
      get_or-row_sum xs ys (j * width F + v) same_long
      ∙ ap₂ bit_xor (sym (element_bit (width F) n xs hx.packed.long hx.bits j v below v_below)) (sym (element_bit (width F) n ys hy.packed.long hy.bits j v below v_below))
      ∙ sym (bit_at-xor _ _ v) ∙ ap (λ x. bit_at x v) (sym (sums_at j)))

  pub row_sum_holds : HoldsRow F n (row_sum xs ys)
  row_sum_holds = record {
    packed = record {
      long = many;
      elements = let P : List ℕ → Type 0 = All (IsElement F) in
          subst P (sym row_sum_is) (All-from_get_or (IsElement F) _ 0 (λ j within.
          let Q : ℕ → Type 0 = IsElement F in
          subst Q (sym (sums_at j)) (xor_lt F.degree _ _ (element_at F (unpacked (width F) n xs) j hx.packed.elements) (element_at F (unpacked (width F) n ys) j hy.packed.elements))));
    };
    bits = sum_bits;
  }

-- two rows added to row r of a window
module _ (F : Field) (n r : ℕ) (ys zs : List ℕ) (w next : Window) (is : IsPacked F n w) (shape : IsWindow w) (below : r < w.rows) (hy : HoldsRow F n ys) (hz : HoldsRow F n zs)
    (kept : next ≡ bit_showing w (with_row (bit_content w) r (row_sum (row_sum (row (bit_content w) r) ys) zs))) where
  old : HoldsRow F n (row (bit_content w) r)
  old = record { packed = packed_row F n w is r below; bits = row_bits w r shape below }

  one : HoldsRow F n (row_sum (row (bit_content w) r) ys)
  one = row_sum_holds F n (row (bit_content w) r) ys old hy

  pub both_packed : IsPacked F n next
  both_packed = packed_written F n w is r _ next (row_sum_holds F n _ zs one hz).packed kept

  pub both_elements : elements F n next ≡ showing (elements F n w)
      (with_row (content (elements F n w)) r (row_sum (row_sum (row (content (elements F n w)) r) (unpacked (width F) n ys)) (unpacked (width F) n zs)))
  both_elements =
      elements_written F n w is r _ next kept
      ∙ ap (λ l. showing (elements F n w) (with_row (content (elements F n w)) r l))
      (row_sum_is F n _ zs one hz
      ∙ ap (λ l. row_sum l (unpacked (width F) n zs))
      (row_sum_is F n (row (bit_content w) r) ys old hy
      ∙ ap (λ l. row_sum l (unpacked (width F) n ys)) (sym (row_of_elements F n w is r below))))
