-- The parts of a window of elements.
use Rattle.std.proofs.Common.{◌≡◌, ℕ, zero, suc, ◌+◌, ◌-◌, ◌*◌, ◌/◌, ◌^◌, ◌<◌, ◌≤◌, List, [], ◌∷◌, ◌++◌, length, get_or, set, take, drop, map, refl, sym, ◌∙◌, ap, ap₂, subst, arith}
use Rattle.std.specs.List.{All, swap}
use Rattle.std.specs.Simd.Lanes.{zip2}
use Rattle.std.proofs.lemmas.List.{length-map, length-drop, length-take-le, length-set, get_or-map, take-map, drop-map}
use Rattle.std.proofs.lemmas.List.Edits.{length-swap, swap_is}
use Rattle.std.proofs.lemmas.Simd.{length-zip2}
use Rattle.std.proofs.lemmas.List.Elements.{All-take, All-drop, All-same, All-map, All-weaker, All-head, All-tail, All-cons, All-nil, All-set, All-get_or}
use Rattle.m4_model.specs.Field.{Field, IsElement}
use Rattle.m4_model.specs.Matrix.{IsMatrix}
use Rattle.m4_model.specs.Field.{width}
use Rattle.m4_field.proofs.ProductSteps.{carried_field}
use Rattle.m4_mzd.specs.Window.{Window}
use Rattle.m4_mzed.specs.EWindow.{EWindow, content}
use Rattle.m4_mzed.specs.Packed.{unpacked, elements, IsPackedRow, IsPacked}
use Rattle.m4_mzed.proofs.RowLemmas.{length-unpacked, unpacked-take, unpacked-drop, unpacked-append, packed_take, packed_drop, packed_append}

-- windows with the same parts are equal
pub same_window : (x y : EWindow) → x.field ≡ y.field → x.place ≡ y.place → x.skip ≡ y.skip → x.rows ≡ y.rows → x.cols ≡ y.cols → x.entries ≡ y.entries → x.past ≡ y.past → x ≡ y
same_window x y field place skip rows cols entries past =
    λ i. record { field = field i; place = place i; skip = skip i; rows = rows i; cols = cols i; entries = entries i; past = past i }

-- functions that agree on all rows
pub map-same : {A B : Type 0} (P : A → Type 0) (f g : A → B) → ((x : A) → P x → f x ≡ g x) → (xs : List A) → All P xs → map f xs ≡ map g xs
map-same P f g same [] all = refl
map-same P f g same (x ∷ xs) all = ap₂ (λ y ys. y ∷ ys) (same x (All-head P x xs all)) (map-same P f g same xs (All-tail P x xs all))

pub map-map : {A B C : Type 0} (f : B → C) (g : A → B) (xs : List A) → map f (map g xs) ≡ map (λ x. f (g x)) xs
map-map f g [] = refl
map-map f g (x ∷ xs) = ap (λ ys. f (g x) ∷ ys) (map-map f g xs)

pub map-set : {A B : Type 0} (f : A → B) (xs : List A) (i : ℕ) (x : A) → map f (set xs i x) ≡ set (map f xs) i (f x)
map-set f [] i x = refl
map-set f (y ∷ xs) zero x = refl
map-set f (y ∷ xs) (suc i) x = ap (λ ys. f y ∷ ys) (map-set f xs i x)

pub map-swap : {A B : Type 0} (f : List A → List B) (xs : List (List A)) (i j : ℕ) → i < length xs → j < length xs → map f (swap xs i j) ≡ swap (map f xs) i j
map-swap f xs i j first second =
    let first' : i < length (map f xs) = let l = length-map xs f in omega arith in
    let second' : j < length (map f xs) = let l = length-map xs f in omega arith in
    ap (map f) (sym (swap_is xs i j [] first second))
    ∙ map-set f (set xs i (get_or xs j [])) j (get_or xs i [])
    ∙ ap₂ (λ ys y. set ys j y) (map-set f xs i (get_or xs j []) ∙ ap (set (map f xs) i) (sym (get_or-map f xs j [] [] second))) (sym (get_or-map f xs i [] [] first))
    ∙ swap_is (map f xs) i j [] first' second'

module _ (F : Field) (cols : ℕ) (w : Window) (is : IsPacked F cols w) where
  -- the first rows, and the others
  pub packed_above : (r : ℕ) (a : Window) → r ≤ w.rows → a ≡ record w { rows = r; bits = take r w.bits; past = take r w.past } → IsPacked F cols a
  packed_above r a within e =
      rw e (record {
        carried = is.carried;
        wide = is.wide;
        count = length-take-le r w.bits (let c = is.count in omega arith);
        packed = All-take (IsPackedRow F cols) r w.bits is.packed;
      })

  pub packed_below : (r : ℕ) (a : Window) → r ≤ w.rows → a ≡ record w { skip = w.skip + r * w.place.stride; rows = w.rows - r; bits = drop r w.bits; past = drop r w.past } → IsPacked F cols a
  packed_below r a within e =
      rw e (record {
        carried = is.carried;
        wide = is.wide;
        count = let c = is.count in omega (arith, length-drop r w.bits);
        packed = All-drop (IsPackedRow F cols) r w.bits is.packed;
      })

  pub elements_above : (r : ℕ) (a : Window) → a ≡ record w { rows = r; bits = take r w.bits; past = take r w.past }
      → elements F cols a ≡ record (elements F cols w) { rows = r; entries = take r (elements F cols w).entries; past = take r w.past }
  elements_above r a e = rw e (same_window _ _ refl refl refl refl refl (sym (take-map (unpacked (width F) cols) r w.bits)) refl)

  pub elements_below : (r : ℕ) (a : Window) → a ≡ record w { skip = w.skip + r * w.place.stride; rows = w.rows - r; bits = drop r w.bits; past = drop r w.past }
      → elements F cols a ≡ record (elements F cols w) { skip = w.skip + r * w.place.stride; rows = w.rows - r; entries = drop r (elements F cols w).entries; past = drop r w.past }
  elements_below r a e = rw e (same_window _ _ refl refl refl refl refl (sym (drop-map (unpacked (width F) cols) r w.bits)) refl)

  -- the first columns, and the others
  pub packed_left : (c : ℕ) (a : Window) → c ≤ cols → a ≡ record w { cols = c * width F; bits = map (take (c * width F)) w.bits; past = map (λ _. []) w.past } → IsPacked F c a
  packed_left c a within e =
      rw e (record {
        carried = is.carried;
        wide = refl;
        count = length-map w.bits (take (c * width F)) ∙ is.count;
        packed = All-map (IsPackedRow F c) (take (c * width F)) w.bits (All-weaker (IsPackedRow F cols) _ (λ bits row. packed_take F c cols bits within row) w.bits is.packed);
      })

  pub packed_right : (c : ℕ) (a : Window) → c ≤ cols → a ≡ record w { skip = w.skip + c * width F / 64; cols = w.cols - c * width F; bits = map (drop (c * width F)) w.bits } → IsPacked F (cols - c) a
  packed_right c a within e =
      rw e (record {
        carried = is.carried;
        wide = rest (width F) is.wide;
        count = length-map w.bits (drop (c * width F)) ∙ is.count;
        packed = All-map (IsPackedRow F (cols - c)) (drop (c * width F)) w.bits (All-weaker (IsPackedRow F cols) _ (λ bits row. packed_drop F c cols bits within row) w.bits is.packed);
      })
    where
      rest : (k : ℕ) → w.cols ≡ cols * k → w.cols - c * k ≡ (cols - c) * k
      rest k wide = let m : cols * k ≡ (cols - c) * k + c * k = grind arith in omega (arith, m, wide)

  pub elements_left : (c : ℕ) (a : Window) → c ≤ cols → a ≡ record w { cols = c * width F; bits = map (take (c * width F)) w.bits; past = map (λ _. []) w.past }
      → elements F c a ≡ record (elements F cols w) { cols = c; entries = map (take c) (elements F cols w).entries; past = map (λ _. []) w.past }
  elements_left c a within e =
      rw e (same_window _ _ refl refl refl refl refl
      (map-map (unpacked (width F) c) (take (c * width F)) w.bits
      ∙ map-same (IsPackedRow F cols) _ _ (λ bits row. unpacked-take (width F) c cols bits within) w.bits is.packed
      ∙ sym (map-map (take c) (unpacked (width F) cols) w.bits)) refl)

  pub elements_right : (c : ℕ) (a : Window) → c ≤ cols → a ≡ record w { skip = w.skip + c * width F / 64; cols = w.cols - c * width F; bits = map (drop (c * width F)) w.bits }
      → elements F (cols - c) a ≡ record (elements F cols w) { skip = w.skip + c * width F / 64; cols = cols - c; entries = map (drop c) (elements F cols w).entries }
  elements_right c a within e =
      rw e (same_window _ _ refl refl refl refl refl
      (map-map (unpacked (width F) (cols - c)) (drop (c * width F)) w.bits
      ∙ map-same (IsPackedRow F cols) _ _ (λ bits row. unpacked-drop (width F) c cols bits within) w.bits is.packed
      ∙ sym (map-map (drop c) (unpacked (width F) cols) w.bits)) refl)

  -- two rows exchanged
  pub packed_swapped : (i j : ℕ) (a : Window) → i < w.rows → j < w.rows → a ≡ record w { bits = swap w.bits i j } → IsPacked F cols a
  packed_swapped i j a first second e =
      let c = is.count in
      let P : List ℕ → Type 0 = IsPackedRow F cols in
      rw e (record {
        carried = is.carried;
        wide = is.wide;
        count = length-swap w.bits i j ∙ is.count;
        packed = All-same P _ _ (sym (swap_is w.bits i j [] (omega arith) (omega arith)))
            (All-set P _ j _ (All-get_or P w.bits i [] (omega arith) is.packed) (All-set P _ i _ (All-get_or P w.bits j [] (omega arith) is.packed) is.packed));
      })

  pub elements_swapped : (i j : ℕ) (a : Window) → i < w.rows → j < w.rows → a ≡ record w { bits = swap w.bits i j }
      → elements F cols a ≡ record (elements F cols w) { entries = swap (elements F cols w).entries i j }
  elements_swapped i j a first second e = rw e (same_window _ _ refl refl refl refl refl (map-swap (unpacked (width F) cols) w.bits i j (let c = is.count in omega arith) (let c = is.count in omega arith)) refl)

  -- one row written
  pub packed_written : (r : ℕ) (new : List ℕ) (a : Window) → IsPackedRow F cols new → a ≡ record w { bits = set w.bits r new } → IsPacked F cols a
  packed_written r new a row e =
      rw e (record {
        carried = is.carried;
        wide = is.wide;
        count = length-set w.bits r new ∙ is.count;
        packed = All-set (IsPackedRow F cols) w.bits r new row is.packed;
      })

  pub elements_written : (r : ℕ) (new : List ℕ) (a : Window) → a ≡ record w { bits = set w.bits r new }
      → elements F cols a ≡ record (elements F cols w) { entries = set (elements F cols w).entries r (unpacked (width F) cols new) }
  elements_written r new a e = rw e (same_window _ _ refl refl refl refl refl (map-set (unpacked (width F) cols) w.bits r new) refl)

  -- what is true of the matrix
  pub packed_matrix : IsMatrix (content (elements F cols w))
  packed_matrix =
      let f = unpacked (width F) cols in
      let rows : (i : ℕ) → i < w.rows → get_or (map f w.bits) i [] ≡ f (get_or w.bits i []) = λ i below. get_or-map f w.bits i [] [] (let c = is.count in omega arith) in
      record {
        over_field = carried_field F is.carried;
        height = length-map w.bits f ∙ is.count;
        width = λ i below. ap length (rows i below) ∙ length-unpacked (width F) cols (get_or w.bits i []);
        elements = λ i j below within.
            let row = (All-get_or (IsPackedRow F cols) w.bits i [] (let c = is.count in omega arith) is.packed).elements in
            let inside : j < length (f (get_or w.bits i [])) = let l = length-unpacked (width F) cols (get_or w.bits i []) in omega arith in
            let P : List ℕ → Type 0 = λ l. get_or l j 0 < 2 ^ F.degree in
            subst P (sym (rows i below)) (All-get_or (IsElement F) (f (get_or w.bits i [])) j 0 inside row);
      }

-- windows beside each other
zip-row : (F : Field) (n m : ℕ) (xs ys : List (List ℕ)) → length ys ≡ length xs → All (IsPackedRow F n) xs → All (IsPackedRow F m) ys
    → All (IsPackedRow F (n + m)) (zip2 (λ l r. l ++ r) xs ys)
zip-row F n m [] [] same is js = All-nil (IsPackedRow F (n + m))
zip-row F n m [] (y ∷ ys) same is js = absurd (omega arith)
zip-row F n m (x ∷ xs) [] same is js = absurd (omega arith)
zip-row F n m (x ∷ xs) (y ∷ ys) same is js =
    All-cons (IsPackedRow F (n + m)) (x ++ y) (zip2 (λ l r. l ++ r) xs ys)
    (packed_append F n m x y (All-head (IsPackedRow F n) x xs is) (All-head (IsPackedRow F m) y ys js))
    (zip-row F n m xs ys (omega arith) (All-tail (IsPackedRow F n) x xs is) (All-tail (IsPackedRow F m) y ys js))

zip-elements : (F : Field) (n m : ℕ) (xs ys : List (List ℕ)) → length ys ≡ length xs → All (IsPackedRow F n) xs
    → map (unpacked (width F) (n + m)) (zip2 (λ l r. l ++ r) xs ys) ≡ zip2 (λ l r. l ++ r) (map (unpacked (width F) n) xs) (map (unpacked (width F) m) ys)
zip-elements F n m [] [] same is = refl
zip-elements F n m [] (y ∷ ys) same is = absurd (omega arith)
zip-elements F n m (x ∷ xs) [] same is = absurd (omega arith)
zip-elements F n m (x ∷ xs) (y ∷ ys) same is =
    ap₂ (λ z zs. z ∷ zs) (unpacked-append (width F) n m x y (All-head (IsPackedRow F n) x xs is).long)
    (zip-elements F n m xs ys (omega arith) (All-tail (IsPackedRow F n) x xs is))

pub packed_beside : (F : Field) (n m : ℕ) (v w a : Window) → IsPacked F n v → IsPacked F m w → w.rows ≡ v.rows
    → a ≡ record v { cols = v.cols + w.cols; bits = zip2 (λ l r. l ++ r) v.bits w.bits; past = w.past } → IsPacked F (n + m) a
packed_beside F n m v w a is js rows e =
    let same : length w.bits ≡ length v.bits = let c = is.count in let d = js.count in omega arith in
    rw e (record {
      carried = is.carried;
      wide = wide (width F) is.wide js.wide;
      count = length-zip2 (λ l r. l ++ r) v.bits w.bits (sym same) ∙ is.count;
      packed = zip-row F n m v.bits w.bits same is.packed js.packed;
    })
  where
    wide : (k : ℕ) → v.cols ≡ n * k → w.cols ≡ m * k → v.cols + w.cols ≡ (n + m) * k
    wide k first second = let d : (n + m) * k ≡ n * k + m * k = grind arith in omega (arith, d, first, second)

pub elements_beside : (F : Field) (n m : ℕ) (v w a : Window) → IsPacked F n v → IsPacked F m w → w.rows ≡ v.rows
    → a ≡ record v { cols = v.cols + w.cols; bits = zip2 (λ l r. l ++ r) v.bits w.bits; past = w.past }
    → elements F (n + m) a ≡ record (elements F n v) { cols = n + m; entries = zip2 (λ l r. l ++ r) (elements F n v).entries (elements F m w).entries; past = w.past }
elements_beside F n m v w a is js rows e =
    let same : length w.bits ≡ length v.bits = let c = is.count in let d = js.count in omega arith in
    rw e (same_window _ _ refl refl refl refl refl (zip-elements F n m v.bits w.bits same is.packed) refl)
