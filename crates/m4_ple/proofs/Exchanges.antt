-- Exchanges of rows that are put down one by one, in a list that leaves everything as it is at first.
use Rattle.std.proofs.Common.{refl, ◌≡◌, ◌≢◌, ℕ, zero, suc, ◌+◌, ◌<◌, ◌≤◌, ⊎_elim, sym, ◌∙◌, ap, ap₂, arith, List, length, get_or, drop, set}
use Rattle.std.specs.List.{range_with_len, swap}
use Rattle.std.proofs.lemmas.Bool.{cases_lt, cases_eq}
use Rattle.std.proofs.lemmas.List.{ext_get_or, length-set, get_or-set_same, get_or-set_other}
use Rattle.std.proofs.lemmas.List.Edits.{length-swap}
use Rattle.std.proofs.lemmas.List.FromFn.{length-range_with_len, get_or-range_with_len}
use Rattle.m4_model.specs.Shapes.{exchanged, swaps}
use Rattle.m4_model.proofs.EliminationLemmas.{exchange_elim, at-swap}
use Rattle.m4_perm.specs.Perm.{AreSwaps}
use Rattle.m4_perm.proofs.OrderLemmas.{exchange_step, exchange_done}

-- an entry exchanged with itself
swap_itself : (xs : List ℕ) (i : ℕ) → i < length xs → swap xs i i ≡ xs
swap_itself xs i below =
    ext_get_or 0 _ _ (length-swap xs i i) (λ k inside.
    at-swap xs i i k below below
    ∙ exchange_elim (λ k j. get_or xs j 0 ≡ get_or xs k 0) i i k refl refl (λ _ _. refl))

-- exchanges of entries with themselves
all_stay : (fuel i : ℕ) (p order : List ℕ) → length p ≤ i + fuel → length p ≤ length order
    → ((k : ℕ) → i ≤ k → k < length p → get_or p k 0 ≡ k) → exchanged i (drop i p) order ≡ order
all_stay zero i p order short room stay = exchange_done i p order (omega (arith, short))
all_stay (suc fuel) i p order short room stay = ⊎_elim
    (λ (inside : i < length p).
    exchange_step i p order inside
    ∙ ap (exchanged (i + 1) (drop (i + 1) p)) (ap (swap order i) (stay i (omega arith) inside) ∙ swap_itself order i (omega (arith, inside, room)))
    ∙ all_stay fuel (i + 1) p order (omega (arith, short)) room (λ k from. stay k (omega (arith, from))))
    (λ (past : length p ≤ i). exchange_done i p order past)
    (cases_lt i (length p))

-- one exchange more, behind all that move anything
one_more : (fuel i r s : ℕ) (p order : List ℕ) → i + fuel ≡ r → r < length p → s < length p → length p ≤ length order
    → ((k : ℕ) → r ≤ k → k < length p → get_or p k 0 ≡ k)
    → exchanged i (drop i (set p r s)) order ≡ swap (exchanged i (drop i p) order) r s
one_more zero i r s p order place in_first in_second room stay =
    let here : i ≡ r = omega (arith, place) in
    let long = length-set p r s in
    exchange_step i (set p r s) order (omega (arith, here, in_first, long))
    ∙ ap (exchanged (i + 1) (drop (i + 1) (set p r s)))
    (ap₂ (swap order) here (ap (λ (k : ℕ). get_or (set p r s) k 0) here ∙ get_or-set_same p r s 0 in_first))
    ∙ all_stay (length p) (i + 1) (set p r s) (swap order r s) (omega (arith, long)) (let same = length-swap order r s in omega (arith, same, long, room))
    (λ k from below. get_or-set_other p r k s 0 (λ same. absurd (omega (arith, same, from, here))) ∙ stay k (omega (arith, from, here)) (omega (arith, below, long)))
    ∙ ap (λ (xs : List ℕ). swap xs r s) (sym (all_stay (length p) i p order (omega arith) room (λ k from. stay k (omega (arith, from, here)))))
one_more (suc fuel) i r s p order place in_first in_second room stay =
    let long = length-set p r s in
    exchange_step i (set p r s) order (omega (arith, place, in_first, long))
    ∙ ap (λ (k : ℕ). exchanged (i + 1) (drop (i + 1) (set p r s)) (swap order i k)) (get_or-set_other p r i s 0 (λ same. absurd (omega (arith, same, place))))
    ∙ one_more fuel (i + 1) r s p (swap order i (get_or p i 0)) (omega (arith, place)) in_first in_second
    (let same = length-swap order i (get_or p i 0) in omega (arith, same, room)) stay
    ∙ ap (λ (xs : List ℕ). swap xs r s) (sym (exchange_step i p order (omega (arith, place, in_first))))

-- the order after one exchange more
pub swaps-more : (n r s : ℕ) (p : List ℕ) → length p ≡ n → r < n → s < n
    → ((k : ℕ) → r ≤ k → k < n → get_or p k 0 ≡ k) → swaps n (set p r s) ≡ swap (swaps n p) r s
swaps-more n r s p long in_first in_second stay =
    let range = length-range_with_len 0 n in
    one_more r 0 r s p (range_with_len 0 n) (omega arith) (omega (arith, in_first, long)) (omega (arith, in_second, long)) (omega (arith, long, range))
    (λ k from below. stay k from (omega (arith, below, long)))

-- the order at first
pub swaps-range : (n : ℕ) → swaps n (range_with_len 0 n) ≡ range_with_len 0 n
swaps-range n =
    let range = length-range_with_len 0 n in
    all_stay n 0 (range_with_len 0 n) (range_with_len 0 n) (omega (arith, range)) (omega arith)
    (λ k from below. let e : 0 + k ≡ k = omega arith in get_or-range_with_len 0 n k 0 (omega (arith, below, range)) ∙ e)

-- they are exchanges with entries that aren't before
pub AreSwaps-range : (n : ℕ) → AreSwaps n (range_with_len 0 n)
AreSwaps-range n =
    let range = length-range_with_len 0 n in
    record {
      count = omega (arith, range);
      behind = λ i below. let same = get_or-range_with_len 0 n i 0 (omega (arith, below, range)) in omega (arith, same);
      below = λ i below. let same = get_or-range_with_len 0 n i 0 (omega (arith, below, range)) in omega (arith, same, below, range);
    }

-- and stay so
pub AreSwaps-more : (n r s : ℕ) (p : List ℕ) → AreSwaps n p → r ≤ s → s < n → r < length p → AreSwaps n (set p r s)
AreSwaps-more n r s p old order within inside =
    let long = length-set p r s in
    let count = old.count in
    record {
      count = omega (arith, long, count);
      behind = λ i below. ⊎_elim
          (λ (here : i ≡ r). rw (here, get_or-set_same p r s 0 inside) order)
          (λ (away : i ≢ r). rw (get_or-set_other p r i s 0 away) (old.behind i (omega (arith, below, long))))
          (cases_eq i r);
      below = λ i below. ⊎_elim
          (λ (here : i ≡ r). rw (here, get_or-set_same p r s 0 inside) within)
          (λ (away : i ≢ r). rw (get_or-set_other p r i s 0 away) (old.below i (omega (arith, below, long))))
          (cases_eq i r);
    }
