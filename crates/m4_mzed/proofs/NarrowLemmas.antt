-- A window of elements with fewer columns, or with more, in as many words.
use Rattle.std.proofs.Common.{◌≡◌, ℕ, zero, suc, ◌+◌, ◌-◌, ◌*◌, ◌<◌, ◌≤◌, List, [], ◌∷◌, ◌++◌, length, take, drop, map, refl, sym, ◌∙◌, ap, ap₂, subst, arith}
use Rattle.std.specs.List.{All, range_with_len}
use Rattle.std.specs.Int.{bit_at}
use Rattle.std.specs.Simd.Lanes.{zip2}
use Rattle.std.proofs.lemmas.List.{length-map, length-drop, length-take-le, take_all, take-append-drop, ext_get_or}
use Rattle.std.proofs.lemmas.List.FromFn.{length-map-range_with_len, get_or-map-range_with_len}
use Rattle.std.proofs.lemmas.List.Elements.{All-take, All-drop, All-head, All-tail, All-map, All-from_get_or}
use Rattle.m4_model.specs.Field.{Field, width}
use Rattle.m4_model.specs.Text.{words_per_row}
use Rattle.m4_mzd.specs.Window.{Window, IsWindow}
use Rattle.m4_mzed.specs.EWindow.{EWindow}
use Rattle.m4_mzed.specs.Packed.{number_of, packed, unpacked, elements, IsPackedRow, IsPacked}
use Rattle.m4_mzed.proofs.RowLemmas.{length-unpacked, unpacked-take, unpacked-drop, times_suc}
use Rattle.m4_mzed.proofs.IndexLemmas.{AreBits, bit_at-number_of}
use Rattle.m4_mzed.proofs.EntryLemmas.{row_bits}
use Rattle.m4_mzed.proofs.PartLemmas.{same_window, packed_left, elements_left, packed_beside, elements_beside}

-- the bits of the elements that were read off bits
digits_back : (w : ℕ) (xs : List ℕ) → length xs ≡ w → AreBits xs → map (bit_at (number_of xs)) (range_with_len 0 w) ≡ xs
digits_back w xs long bits =
    let count = length-map-range_with_len (bit_at (number_of xs)) 0 w in
    ext_get_or 0 _ xs (count ∙ sym long) (λ i inside.
    get_or-map-range_with_len (bit_at (number_of xs)) 0 w i i 0 (omega (arith, count, inside)) (omega arith) ∙ bit_at-number_of xs bits i)

packed_back : (w n : ℕ) (bits : List ℕ) → length bits ≡ n * w → AreBits bits → packed w (unpacked w n bits) ≡ bits
unfolding unpacked packed
packed_back w zero [] long are = refl
packed_back w zero (b ∷ bits) long are = absurd (omega arith)
packed_back w (suc n) bits long are =
    let enough : w ≤ length bits = let t = times_suc n w in omega (arith, t, long) in
    let rest : length (drop w bits) ≡ n * w = let t = times_suc n w in omega (arith, length-drop w bits, t, long) in
    ap₂ (λ xs ys. xs ++ ys) (digits_back w (take w bits) (length-take-le w bits enough) (All-take (λ b. b < 2) w bits are))
    (packed_back w n (drop w bits) rest (All-drop (λ b. b < 2) w bits are))
    ∙ take-append-drop w bits

-- the bits of the last elements of a row
packed_tail : (F : Field) (c n : ℕ) (bits : List ℕ) → c ≤ n → IsPackedRow F n bits → AreBits bits
    → packed (width F) (drop c (unpacked (width F) n bits)) ≡ drop (c * width F) bits
packed_tail F c n bits within row are =
    let k = width F in
    ap (packed k) (sym (unpacked-drop k c n bits within))
    ∙ packed_back k (n - c) (drop (c * k) bits) (rest k row.long) (All-drop (λ b. b < 2) (c * k) bits are)
  where
    rest : (k : ℕ) → length bits ≡ n * k → length (drop (c * k) bits) ≡ (n - c) * k
    rest k long = let m : n * k ≡ (n - c) * k + c * k = grind arith in omega (arith, m, long, length-drop (c * k) bits)

zip_tails : (F : Field) (c n : ℕ) (rows past : List (List ℕ)) → c ≤ n → All (IsPackedRow F n) rows → All AreBits rows
    → zip2 (λ row more. drop (c * width F) row ++ more) rows past
    ≡ zip2 (λ row more. packed (width F) (drop c row) ++ more) (map (unpacked (width F) n) rows) past
zip_tails F c n [] past within is are = refl
zip_tails F c n (r ∷ rows) [] within is are = refl
zip_tails F c n (r ∷ rows) (p ∷ past) within is are =
    ap₂ (λ (xs : List ℕ) (ys : List (List ℕ)). (xs ++ p) ∷ ys) (sym (packed_tail F c n r within (All-head (IsPackedRow F n) r rows is) (All-head AreBits r rows are)))
    (zip_tails F c n rows past within (All-tail (IsPackedRow F n) r rows is) (All-tail AreBits r rows are))

all_bits : (w : Window) → IsWindow w → All AreBits w.bits
all_bits w shape = All-from_get_or AreBits w.bits [] (λ i inside. row_bits w i shape (omega (arith, shape.matrix.height, inside)))

-- fewer columns
module _ (F : Field) (n : ℕ) (w : Window) (is : IsPacked F n w) (c : ℕ) (a : Window) (within : c ≤ n)
    (cut : a ≡ record w { cols = c * width F; bits = map (take (c * width F)) w.bits; past = zip2 (λ row more. drop (c * width F) row ++ more) w.bits w.past }) where
  abbrev left : Window
  left = record w { cols = c * width F; bits = map (take (c * width F)) w.bits; past = map (λ _. []) w.past }

  pub narrow_packed : IsPacked F c a
  narrow_packed =
      let l = packed_left F n w is c (record w { cols = c * width F; bits = map (take (c * width F)) w.bits; past = map (λ _. []) w.past }) within refl in
      let P : Window → Type 0 = IsPacked F c in
      subst P (sym cut) (record { carried = l.carried; wide = l.wide; count = l.count; packed = l.packed })

  pub narrow_elements : IsWindow w
      → elements F c a ≡ record (elements F n w) { cols = c; entries = map (take c) (elements F n w).entries; past = zip2 (λ row more. packed (width F) (drop c row) ++ more) (elements F n w).entries w.past }
  narrow_elements shape =
      let l = elements_left F n w is c (record w { cols = c * width F; bits = map (take (c * width F)) w.bits; past = map (λ _. []) w.past }) within refl in
      ap (elements F c) cut
      ∙ same_window _ _ refl refl refl refl refl (ap (λ (v : EWindow). v.entries) l) (zip_tails F c n w.bits w.past within is.packed (all_bits w shape))

-- more columns
zip_map : (f : List ℕ → List ℕ) (rows past : List (List ℕ)) → zip2 (λ row more. row ++ f more) rows past ≡ zip2 (λ l r. l ++ r) rows (map f past)
zip_map f [] past = refl
zip_map f (r ∷ rows) [] = refl
zip_map f (r ∷ rows) (p ∷ past) = ap (λ ys. (r ++ f p) ∷ ys) (zip_map f rows past)

zip_unpacked : (w k : ℕ) (rows past : List (List ℕ))
    → zip2 (λ l r. l ++ r) rows (map (unpacked w k) (map (take (k * w)) past)) ≡ zip2 (λ row more. row ++ unpacked w k more) rows past
zip_unpacked w k [] past = refl
zip_unpacked w k (r ∷ rows) [] = refl
zip_unpacked w k (r ∷ rows) (p ∷ past) =
    let same : unpacked w k (take (k * w) p) ≡ unpacked w k p = unpacked-take w k k p (omega arith) ∙ take_all k (unpacked w k p) (let l = length-unpacked w k p in omega (arith, l)) in
    ap₂ (λ (xs : List ℕ) (ys : List (List ℕ)). (r ++ xs) ∷ ys) same (zip_unpacked w k rows past)

module _ (F : Field) (n : ℕ) (w : Window) (is : IsPacked F n w) (shape : IsWindow w) (k : ℕ) (a : Window)
    (more : All (λ row. IsPackedRow F k (take (k * width F) row)) w.past)
    (grown : a ≡ record w { cols = w.cols + k * width F; bits = zip2 (λ row more. row ++ take (k * width F) more) w.bits w.past; past = map (drop (k * width F)) w.past }) where
  -- the new columns by themselves
  abbrev right : Window
  right = record w { cols = k * width F; bits = map (take (k * width F)) w.past; past = map (drop (k * width F)) w.past }

  right_packed : IsPacked F k right
  right_packed = record {
    carried = is.carried;
    wide = refl;
    count = length-map w.past (take (k * width F)) ∙ shape.past_rows;
    packed = All-map (IsPackedRow F k) (take (k * width F)) w.past more;
  }

  joined : a ≡ record w { cols = w.cols + right.cols; bits = zip2 (λ l r. l ++ r) w.bits right.bits; past = right.past }
  joined = grown ∙ ap {B = Window} (λ bits. record w { cols = w.cols + k * width F; bits = bits; past = map (drop (k * width F)) w.past }) (zip_map (take (k * width F)) w.bits w.past)

  pub widen_packed : IsPacked F (n + k) a
  widen_packed = packed_beside F n k w right a is right_packed refl joined

  pub widen_elements : elements F (n + k) a
      ≡ record (elements F n w) { cols = n + k; entries = zip2 (λ row more. row ++ unpacked (width F) k more) (elements F n w).entries w.past; past = map (drop (k * width F)) w.past }
  widen_elements =
      elements_beside F n k w right a is right_packed refl joined
      ∙ same_window _ _ refl refl refl refl refl (zip_unpacked (width F) k (map (unpacked (width F) n) w.bits) w.past) refl

-- how many words the columns take
pub same_words : (c n k cols : ℕ) → cols ≡ n * k → words_per_row (c * k) ≡ words_per_row (n * k) → words_per_row (c * k) ≡ words_per_row cols
same_words c n k cols wide same = same ∙ ap words_per_row (sym wide)

pub more_columns : (n c k : ℕ) → n ≤ c → n * k + (c - n) * k ≡ c * k
more_columns n c k more = let m : n * k + (c - n) * k ≡ c * k = grind arith in m
