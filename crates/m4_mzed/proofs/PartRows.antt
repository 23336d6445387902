-- Elements of a row that are copied to any place of another.
use Rattle.std.proofs.Common.{◌≡◌, ℕ, ◌+◌, ◌-◌, ◌*◌, ◌<◌, ◌≤◌, List, ◌++◌, length, set, take, drop, sym, ◌∙◌, ap, ap₂, subst, arith}
use Rattle.std.proofs.lemmas.List.{length-take-le, length-drop, append_assoc}
use Rattle.m4_model.specs.Field.{Field, width}
use Rattle.m4_model.specs.Matrix.{row, with_row}
use Rattle.m4_mzd.specs.Parts.{part, with_part}
use Rattle.m4_mzd.specs.Window.{Window}
use Rattle.m4_mzd.specs.Window.{content as bit_content, showing as bit_showing}
use Rattle.m4_mzed.specs.EWindow.{EWindow, content, showing}
use Rattle.m4_mzed.specs.Packed.{unpacked, elements, IsPackedRow, IsPacked}
use Rattle.m4_mzed.proofs.RowLemmas.{length-unpacked, unpacked-take, unpacked-drop, unpacked-append, packed_take, packed_drop, packed_append}
use Rattle.m4_mzed.proofs.EntryLemmas.{packed_row, row_of_elements}
use Rattle.m4_mzed.proofs.PartLemmas.{packed_written, elements_written}

spread : (a b k : ℕ) → (a + b) * k ≡ a * k + b * k
spread a b k = grind arith

module _ (F : Field) (n m c d count : ℕ) (xs zs : List ℕ) (px : IsPackedRow F n xs) (pz : IsPackedRow F m zs) (in_cols : c + count ≤ n) (in_from : d + count ≤ m) where
  first : List ℕ
  first = take (c * width F) xs

  first_packed : IsPackedRow F c (take (c * width F) xs)
  first_packed = packed_take F c n xs (omega arith) px

  tail_packed : IsPackedRow F (m - d) (drop (d * width F) zs)
  tail_packed = packed_drop F d m zs (omega arith) pz

  middle_packed : IsPackedRow F count (take (count * width F) (drop (d * width F) zs))
  middle_packed = packed_take F count (m - d) (drop (d * width F) zs) (omega arith) tail_packed

  last_packed : IsPackedRow F (n - (c + count)) (drop ((c + count) * width F) xs)
  last_packed = packed_drop F (c + count) n xs in_cols px

  all : c + (count + (n - (c + count))) ≡ n
  all = omega arith

  -- the row of bits, as three parts
  bits_are : with_part (c * width F) (part (d * width F) (count * width F) zs) xs
      ≡ take (c * width F) xs ++ (take (count * width F) (drop (d * width F) zs) ++ drop ((c + count) * width F) xs)
  bits_are =
      let l = middle_packed.long in let s = spread c count (width F) in
      let place : c * width F + length (take (count * width F) (drop (d * width F) zs)) ≡ (c + count) * width F = omega (arith, l, s) in
      append_assoc (take (c * width F) xs) (take (count * width F) (drop (d * width F) zs)) (drop (c * width F + length (take (count * width F) (drop (d * width F) zs))) xs)
      ∙ ap (λ k. take (c * width F) xs ++ (take (count * width F) (drop (d * width F) zs) ++ drop k xs)) place

  pub part_packed : IsPackedRow F n (with_part (c * width F) (part (d * width F) (count * width F) zs) xs)
  part_packed =
      let P : ℕ → Type 0 = λ k. IsPackedRow F k (take (c * width F) xs ++ (take (count * width F) (drop (d * width F) zs) ++ drop ((c + count) * width F) xs)) in
      let Q : List ℕ → Type 0 = IsPackedRow F n in
      subst Q (sym bits_are) (subst P all (packed_append F c (count + (n - (c + count))) _ _ first_packed (packed_append F count (n - (c + count)) _ _ middle_packed last_packed)))

  part_long : length (part d count (unpacked (width F) m zs)) ≡ count
  part_long = length-take-le count (drop d (unpacked (width F) m zs)) (let e = length-drop d (unpacked (width F) m zs) in let l = length-unpacked (width F) m zs in omega (arith, e, l, in_from))

  pub part_is : unpacked (width F) n (with_part (c * width F) (part (d * width F) (count * width F) zs) xs)
      ≡ with_part c (part d count (unpacked (width F) m zs)) (unpacked (width F) n xs)
  part_is =
      let w = width F in
      ap (unpacked w n) bits_are
      ∙ ap (λ k. unpacked w k (take (c * w) xs ++ (take (count * w) (drop (d * w) zs) ++ drop ((c + count) * w) xs))) (sym all)
      ∙ unpacked-append w c (count + (n - (c + count))) (take (c * w) xs) (take (count * w) (drop (d * w) zs) ++ drop ((c + count) * w) xs) first_packed.long
      ∙ ap₂ (λ a b. a ++ b) (unpacked-take w c n xs (omega arith))
      (unpacked-append w count (n - (c + count)) (take (count * w) (drop (d * w) zs)) (drop ((c + count) * w) xs) middle_packed.long
      ∙ ap₂ (λ a b. a ++ b) (unpacked-take w count (m - d) (drop (d * w) zs) (omega arith) ∙ ap (take count) (unpacked-drop w d m zs (omega arith))) (unpacked-drop w (c + count) n xs in_cols))
      ∙ ap (λ k. take c (unpacked w n xs) ++ (part d count (unpacked w m zs) ++ drop k (unpacked w n xs))) (ap (λ l. c + l) (sym part_long))
      ∙ sym (append_assoc (take c (unpacked w n xs)) (part d count (unpacked w m zs)) (drop (c + length (part d count (unpacked w m zs))) (unpacked w n xs)))

-- a window to a row of which elements were copied
module _ (F : Field) (n m c d count r : ℕ) (zs : List ℕ) (w next : Window) (is : IsPacked F n w) (pz : IsPackedRow F m zs) (below : r < w.rows) (in_cols : c + count ≤ n) (in_from : d + count ≤ m)
    (kept : next ≡ bit_showing w (with_row (bit_content w) r (with_part (c * width F) (part (d * width F) (count * width F) zs) (row (bit_content w) r)))) where
  pub copied_packed : IsPacked F n next
  copied_packed =
      packed_written F n w is r _ next (part_packed F n m c d count (row (bit_content w) r) zs (packed_row F n w is r below) pz in_cols in_from) kept

  pub copied_elements : elements F n next ≡ showing (elements F n w) (with_row (content (elements F n w)) r (with_part c (part d count (unpacked (width F) m zs)) (row (content (elements F n w)) r)))
  copied_elements =
      elements_written F n w is r _ next kept
      ∙ ap {B = EWindow} (λ (l : List ℕ). record (elements F n w) { entries = set (elements F n w).entries r l })
      (part_is F n m c d count (row (bit_content w) r) zs (packed_row F n w is r below) pz in_cols in_from
      ∙ ap (with_part c (part d count (unpacked (width F) m zs))) (sym (row_of_elements F n w is r below)))
