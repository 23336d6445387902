-- Exchanges of the first entries of a list, and then of the others among themselves.
use Rattle.std.proofs.Common.{◌≡◌, ℕ, zero, suc, ◌+◌, ◌-◌, ◌<◌, ◌≤◌, List, [], ◌∷◌, ◌++◌, length, get_or, slice_index, take, drop, map, set, swap, refl, sym, ◌∙◌, ap, ap₂, arith, ext_get_or, get_or-drop}
use Rattle.std.specs.List.{range_with_len}
use Rattle.std.proofs.lemmas.List.{length-append, length-map, length-take-le, length-drop, get_or-map, set-get_or, set-append_right, get_or-append_right, take-append-drop}
use Rattle.std.proofs.lemmas.List.Edits.{swap_is, length-swap}
use Rattle.std.proofs.lemmas.List.FromFn.{length-range_with_len, length-map-range_with_len, get_or-map-range_with_len}
use Rattle.m4_model.specs.Shapes.{exchanged, swaps}
use Rattle.m4_model.specs.Step.{step_order}

-- an entry exchanged with itself
swap_same : (order : List ℕ) (i : ℕ) → i < length order → swap order i i ≡ order
swap_same order i below =
    sym (swap_is order i i 0 below below)
    ∙ ap (λ l. set l i (get_or order i 0)) (set-get_or order i 0) ∙ set-get_or order i 0

-- exchanges, and then others
exchanged-append : (i : ℕ) (a b order : List ℕ) → exchanged i (a ++ b) order ≡ exchanged (i + length a) b (exchanged i a order)
unfolding exchanged
exchanged-append i [] b order = let place : i ≡ i + 0 = omega arith in ap (λ k. exchanged k b order) place
exchanged-append i (s ∷ a) b order =
    let place : suc i + length a ≡ i + suc (length a) = omega arith in
    exchanged-append (suc i) a b (swap order i s) ∙ ap (λ k. exchanged k b (exchanged (suc i) a (swap order i s))) place

-- each entry with itself
exchanged-same : (i : ℕ) (s order : List ℕ) → i + length s ≤ length order → ((k : ℕ) → k < length s → slice_index s k ≡ i + k) → exchanged i s order ≡ order
unfolding exchanged
exchanged-same i [] order room own = refl
exchanged-same i (s ∷ rest) order room own =
    let here : s ≡ i = own 0 (omega arith) ∙ omega arith in
    let same : swap order i s ≡ order = ap (swap order i) here ∙ swap_same order i (omega (arith, room)) in
    ap (exchanged (suc i) rest) same
    ∙ exchanged-same (suc i) rest order (omega (arith, room)) (λ k below. own (suc k) (omega (arith, below)) ∙ omega arith)

-- behind a front
swap_behind : (front order : List ℕ) (i j : ℕ) → i < length order → j < length order
    → swap (front ++ order) (length front + i) (j + length front) ≡ front ++ swap order i j
swap_behind front order i j first second =
    let long = length-append front order in
    let r = length front in
    let i_back : r + i - r ≡ i = omega arith in
    let j_back : j + r - r ≡ j = omega arith in
    let at_j : get_or (front ++ order) (j + r) 0 ≡ get_or order j 0 =
    get_or-append_right front order r (j + r) 0 refl (omega arith) ∙ ap (λ k. get_or order k 0) j_back in
    let at_i : get_or (front ++ order) (r + i) 0 ≡ get_or order i 0 =
    get_or-append_right front order r (r + i) 0 refl (omega arith) ∙ ap (λ k. get_or order k 0) i_back in
    sym (swap_is (front ++ order) (r + i) (j + r) 0 (omega (arith, long, first)) (omega (arith, long, second)))
    ∙ ap₂ (λ x y. set (set (front ++ order) (r + i) x) (j + r) y) at_j at_i
    ∙ ap (λ l. set l (j + r) (get_or order i 0))
    (set-append_right front order r (r + i) (get_or order j 0) refl (omega arith) ∙ ap (λ k. front ++ set order k (get_or order j 0)) i_back)
    ∙ set-append_right front (set order i (get_or order j 0)) r (j + r) (get_or order i 0) refl (omega arith)
    ∙ ap (λ k. front ++ set (set order i (get_or order j 0)) k (get_or order i 0)) j_back
    ∙ ap (λ l. front ++ l) (swap_is order i j 0 first second)

exchanged-behind : (i : ℕ) (s front order : List ℕ) → i + length s ≤ length order → ((k : ℕ) → k < length s → slice_index s k < length order)
    → exchanged (length front + i) (map (λ j. j + length front) s) (front ++ order) ≡ front ++ exchanged i s order
unfolding exchanged
exchanged-behind i [] front order room within = refl
exchanged-behind i (s ∷ rest) front order room within =
    let same = length-swap order i s in
    let place : suc (length front + i) ≡ length front + suc i = omega arith in
    ap (exchanged (suc (length front + i)) (map (λ j. j + length front) rest)) (swap_behind front order i s (omega (arith, room)) (within 0 (omega arith)))
    ∙ ap (λ k. exchanged k (map (λ j. j + length front) rest) (front ++ swap order i s)) place
    ∙ exchanged-behind (suc i) rest front (swap order i s) (omega (arith, room, same))
    (λ k below. let fits = within (suc k) (omega (arith, below)) in omega (arith, fits, same))

-- under a function
map_swap : (f : ℕ → ℕ) (order : List ℕ) (i j : ℕ) → i < length order → j < length order → map f (swap order i j) ≡ swap (map f order) i j
map_swap f order i j first second =
    let long = length-map order f in
    ap (map f) (sym (swap_is order i j 0 first second))
    ∙ map_set f (set order i (get_or order j 0)) j (get_or order i 0)
    ∙ ap₂ (λ ys y. set ys j y) (map_set f order i (get_or order j 0) ∙ ap (set (map f order) i) (sym (get_or-map f order j 0 0 second))) (sym (get_or-map f order i 0 0 first))
    ∙ swap_is (map f order) i j 0 (omega (arith, long)) (omega (arith, long))
  where
    map_set : (f : ℕ → ℕ) (xs : List ℕ) (i x : ℕ) → map f (set xs i x) ≡ set (map f xs) i (f x)
    map_set f [] i x = refl
    map_set f (y ∷ xs) zero x = refl
    map_set f (y ∷ xs) (suc i) x = ap (λ ys. f y ∷ ys) (map_set f xs i x)

exchanged-map : (f : ℕ → ℕ) (i : ℕ) (s order : List ℕ) → i + length s ≤ length order → ((k : ℕ) → k < length s → slice_index s k < length order)
    → exchanged i s (map f order) ≡ map f (exchanged i s order)
unfolding exchanged
exchanged-map f i [] order room within = refl
exchanged-map f i (s ∷ rest) order room within =
    let same = length-swap order i s in
    ap (exchanged (suc i) rest) (sym (map_swap f order i s (omega (arith, room)) (within 0 (omega arith))))
    ∙ exchanged-map f (suc i) rest (swap order i s) (omega (arith, room, same))
    (λ k below. let fits = within (suc k) (omega (arith, below)) in omega (arith, fits, same))

length-exchanged : (i : ℕ) (s order : List ℕ) → length (exchanged i s order) ≡ length order
unfolding exchanged
length-exchanged i [] order = refl
length-exchanged i (s ∷ rest) order = length-exchanged (suc i) rest (swap order i s) ∙ length-swap order i s

-- a list as its entries
listed_behind : (order : List ℕ) (r k : ℕ) → length order ≡ r + k → drop r order ≡ map (λ i. slice_index order (r + i)) (range_with_len 0 k)
listed_behind order r k long =
    let first = length-drop r order in
    let second = length-map-range_with_len (λ i. slice_index order (r + i)) 0 k in
    ext_get_or 0 (drop r order) (map (λ i. slice_index order (r + i)) (range_with_len 0 k)) (omega (arith, first, second, long))
    (λ i below. get_or-drop r order i 0 ∙ sym (get_or-map-range_with_len (λ i. slice_index order (r + i)) 0 k i i 0 (omega (arith, below, first, long)) (omega arith)))

-- Exchanges a of the first r of m entries, and then exchanges s of the others, raised by r, make the order of the step.
pub swaps_of_step : (r k : ℕ) (a own s : List ℕ) → length a ≡ r → length own ≡ k → ((i : ℕ) → i < k → slice_index own i ≡ r + i)
    → length s ≤ k → ((i : ℕ) → i < length s → slice_index s i < k)
    → swaps (r + k) (a ++ map (λ j. j + r) s) ≡ step_order r (swaps (r + k) (a ++ own)) (swaps k s)
swaps_of_step r k a own s first rest stay room within =
    let start = range_with_len 0 (r + k) in
    let place : 0 + length a ≡ r = omega (arith, first) in
    let O = exchanged 0 a start in
    let long : length O ≡ r + k = length-exchanged 0 a start ∙ length-range_with_len 0 (r + k) in
    let front : length (take r O) ≡ r = length-take-le r O (omega (arith, long)) in
    let back : length (drop r O) ≡ k = omega (arith, length-drop r O, long) in
    let behind : exchanged r (map (λ j. j + r) s) (take r O ++ drop r O) ≡ take r O ++ exchanged 0 s (drop r O) =
    let place : length (take r O) + 0 ≡ r = omega (arith, front) in
    (λ t. exchanged (sym place t) (map (λ j. j + sym front t) s) (take r O ++ drop r O))
    ∙ exchanged-behind 0 s (take r O) (drop r O) (omega (arith, back, room)) (λ i below. let fits = within i below in omega (arith, fits, back)) in
    let whole : swaps (r + k) (a ++ own) ≡ O =
    exchanged-append 0 a own start
    ∙ ap (λ i. exchanged i own O) place
    ∙ exchanged-same r own O (omega (arith, long, rest)) (λ i below. stay i (omega (arith, below, rest))) in
    exchanged-append 0 a (map (λ j. j + r) s) start
    ∙ ap (λ i. exchanged i (map (λ j. j + r) s) O) place
    ∙ ap (exchanged r (map (λ j. j + r) s)) (sym (take-append-drop r O))
    ∙ behind
    ∙ ap (λ l. take r O ++ exchanged 0 s l) (listed_behind O r k long)
    ∙ ap (λ l. take r O ++ l) (exchanged-map (λ i. slice_index O (r + i)) 0 s (range_with_len 0 k)
    (omega (arith, room, length-range_with_len 0 k)) (λ i below. let fits = within i below in omega (arith, fits, length-range_with_len 0 k)))
    ∙ sym (ap (λ (P : List ℕ). step_order r P (swaps k s)) whole)
