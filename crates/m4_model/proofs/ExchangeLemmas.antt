-- Exchanges of the entries of a list, one after another: what moves, and the order that rising columns make.
use Rattle.std.proofs.Common.{◌≡◌, ◌≢◌, ℕ, zero, suc, ◌+◌, ◌<◌, ◌≤◌, ⊎_elim, refl, sym, ◌∙◌, ap, arith, List, [], ◌∷◌, length, slice_index, swap}
use Rattle.std.specs.List.{range_with_len}
use Rattle.std.proofs.lemmas.List.Edits.{swapped_from_swap, length-swap}
use Rattle.std.proofs.lemmas.List.FromFn.{length-range_with_len, get_or-range_with_len}
use Rattle.std.proofs.lemmas.Bool.{cases_lt, cases_eq}
use Rattle.m4_model.specs.Shapes.{exchanged, swaps}
use Rattle.m4_model.specs.Rank.{IsRising}
use Rattle.m4_model.specs.Factors.{IsOrder}

-- what an exchange of two entries does
pub at-swap_first : (order : List ℕ) (i s : ℕ) → i < length order → s < length order → slice_index (swap order i s) i ≡ slice_index order s
at-swap_first order i s below within = (swapped_from_swap order (swap order i s) i s 0 below within refl).0

pub at-swap_second : (order : List ℕ) (i s : ℕ) → i < length order → s < length order → slice_index (swap order i s) s ≡ slice_index order i
at-swap_second order i s below within = (swapped_from_swap order (swap order i s) i s 0 below within refl).1

pub at-swap_other : (order : List ℕ) (i s k : ℕ) → i < length order → s < length order → k ≢ i → k ≢ s
    → slice_index (swap order i s) k ≡ slice_index order k
at-swap_other order i s k below within first second = (swapped_from_swap order (swap order i s) i s 0 below within refl).2 k first second

-- an exchange keeps an order
pub IsOrder-swap : (n : ℕ) (order : List ℕ) (i s : ℕ) → i < n → s < n → IsOrder n order → IsOrder n (swap order i s)
IsOrder-swap n order i s first second old =
    let count = old.count in
    let in_first : i < length order = omega arith in
    let in_second : s < length order = omega arith in
    record {
      count = length-swap order i s ∙ old.count;
      below = λ k within. ⊎_elim
          (λ (here : k ≡ i). rw (here, at-swap_first order i s in_first in_second) (old.below s second))
          (λ (not_first : k ≢ i). ⊎_elim
          (λ (here : k ≡ s). rw (here, at-swap_second order i s in_first in_second) (old.below i first))
          (λ (not_second : k ≢ s). rw (at-swap_other order i s k in_first in_second not_first not_second) (old.below k within))
          (cases_eq k s))
          (cases_eq k i);
      onto = λ j within.
          let found = old.onto j within in
          ⊎_elim
          (λ (here : found.0 ≡ i). (s, second, at-swap_second order i s in_first in_second ∙ ap (slice_index order) (sym here) ∙ found.2))
          (λ (not_first : found.0 ≢ i). ⊎_elim
          (λ (here : found.0 ≡ s). (i, first, at-swap_first order i s in_first in_second ∙ ap (slice_index order) (sym here) ∙ found.2))
          (λ (not_second : found.0 ≢ s). (found.0, found.1, at-swap_other order i s found.0 in_first in_second not_first not_second ∙ found.2))
          (cases_eq found.0 s))
          (cases_eq found.0 i);
    }

-- so do exchanges one after another
pub IsOrder-exchanged : (n i : ℕ) (s order : List ℕ) → i + length s ≤ n → ((k : ℕ) → k < length s → slice_index s k < n)
    → IsOrder n order → IsOrder n (exchanged i s order)
unfolding exchanged
IsOrder-exchanged n i [] order room within old = old
IsOrder-exchanged n i (s ∷ rest) order room within old =
    IsOrder-exchanged n (suc i) rest (swap order i s) (omega (arith, room)) (λ k below. within (suc k) (omega (arith, below)))
    (IsOrder-swap n order i s (omega (arith, room)) (within 0 (omega arith)) old)

-- the numbers below n are an order
pub IsOrder-range : (n : ℕ) → IsOrder n (range_with_len 0 n)
IsOrder-range n = record {
  count = length-range_with_len 0 n;
  below = λ i below. let e = get_or-range_with_len 0 n i 0 below in omega (arith, e, below);
  onto = λ j below. (j, below, (let e = get_or-range_with_len 0 n j 0 below in omega (arith, e)));
}

-- and so are exchanges of them
pub IsOrder-swaps : (n : ℕ) (s : List ℕ) → length s ≤ n → ((k : ℕ) → k < length s → slice_index s k < n) → IsOrder n (swaps n s)
IsOrder-swaps n s room within = IsOrder-exchanged n 0 s (range_with_len 0 n) (omega (arith, room)) within (IsOrder-range n)

-- exchanges from i on leave the entries before i
pub exchanged-before : (i : ℕ) (s order : List ℕ) (j : ℕ) → j < i → i + length s ≤ length order
    → ((k : ℕ) → k < length s → i + k ≤ slice_index s k) → ((k : ℕ) → k < length s → slice_index s k < length order)
    → slice_index (exchanged i s order) j ≡ slice_index order j
unfolding exchanged
exchanged-before i [] order j before room up within = refl
exchanged-before i (s ∷ rest) order j before room up within =
    let high : i + 0 ≤ s = up 0 (omega arith) in
    let inside : s < length order = within 0 (omega arith) in
    let same : length (swap order i s) ≡ length order = length-swap order i s in
    exchanged-before (suc i) rest (swap order i s) j (omega (arith, before)) (omega (arith, room, same))
    (λ k below. let more = up (suc k) (omega (arith, below)) in omega (arith, more))
    (λ k below. let fits = within (suc k) (omega (arith, below)) in omega (arith, fits, same))
    ∙ at-swap_other order i s j (omega (arith, room)) inside (λ here. absurd (omega (arith, here, before))) (λ here. absurd (omega (arith, here, before, high)))

-- of a rising list of places that hold their own numbers, the k-th comes to entry i + k
pub exchanged-rising : (i : ℕ) (s order : List ℕ) (k : ℕ) → k < length s → IsRising s → i + length s ≤ length order
    → ((k : ℕ) → k < length s → i + k ≤ slice_index s k) → ((k : ℕ) → k < length s → slice_index s k < length order)
    → ((k : ℕ) → k < length s → slice_index order (slice_index s k) ≡ slice_index s k)
    → slice_index (exchanged i s order) (i + k) ≡ slice_index s k
unfolding exchanged
exchanged-rising i [] order k short rising room up within own = absurd (omega (arith, short))
exchanged-rising i (s ∷ rest) order zero short rising room up within own =
    let high : i + 0 ≤ s = up 0 (omega arith) in
    let inside : s < length order = within 0 (omega arith) in
    let same : length (swap order i s) ≡ length order = length-swap order i s in
    let place : i + 0 ≡ i = omega arith in
    ap (slice_index (exchanged (suc i) rest (swap order i s))) place
    ∙ exchanged-before (suc i) rest (swap order i s) i (omega arith) (omega (arith, room, same))
    (λ k below. let more = up (suc k) (omega (arith, below)) in omega (arith, more))
    (λ k below. let fits = within (suc k) (omega (arith, below)) in omega (arith, fits, same))
    ∙ at-swap_first order i s (omega (arith, room)) inside
    ∙ own 0 (omega arith)
exchanged-rising i (s ∷ rest) order (suc k) short rising room up within own =
    let high : i + 0 ≤ s = up 0 (omega arith) in
    let inside : s < length order = within 0 (omega arith) in
    let same : length (swap order i s) ≡ length order = length-swap order i s in
    let place : i + suc k ≡ suc i + k = omega arith in
    ap (slice_index (exchanged (suc i) rest (swap order i s))) place
    ∙ exchanged-rising (suc i) rest (swap order i s) k (omega (arith, short))
    (λ a b before below. rising (suc a) (suc b) (omega (arith, before)) (omega (arith, below)))
    (omega (arith, room, same))
    (λ k below. let more = up (suc k) (omega (arith, below)) in omega (arith, more))
    (λ k below. let fits = within (suc k) (omega (arith, below)) in omega (arith, fits, same))
    (λ k below.
    let rises : s < slice_index rest k = rising 0 (suc k) (omega arith) (omega (arith, below)) in
    at-swap_other order i s (slice_index rest k) (omega (arith, room)) inside
    (λ here. absurd (omega (arith, here, rises, high))) (λ here. absurd (omega (arith, here, rises)))
    ∙ own (suc k) (omega (arith, below)))

-- the k-th number of a rising list is at least k
pub rising-at_least : (s : List ℕ) (k : ℕ) → IsRising s → k < length s → k ≤ slice_index s k
rising-at_least s zero rising within = omega arith
rising-at_least s (suc k) rising within =
    let before = rising-at_least s k rising (omega (arith, within)) in
    let rises = rising k (suc k) (omega arith) within in
    omega (arith, before, rises)

-- a rising list of numbers below n has at most n of them
pub rising_room : (s : List ℕ) (n : ℕ) → IsRising s → ((k : ℕ) → k < length s → slice_index s k < n) → length s ≤ n
rising_room s n rising within = ⊎_elim
    (λ (more : n < length s). let least = rising-at_least s n rising more in let less = within n more in absurd (omega arith))
    (λ (fits : length s ≤ n). fits)
    (cases_lt n (length s))

-- in the order of a rising list's exchanges its k-th number comes k-th
pub swaps-rising : (n : ℕ) (s : List ℕ) (k : ℕ) → IsRising s → length s ≤ n → ((k : ℕ) → k < length s → slice_index s k < n) → k < length s
    → slice_index (swaps n s) k ≡ slice_index s k
swaps-rising n s k rising room within short =
    let count : length (range_with_len 0 n) ≡ n = length-range_with_len 0 n in
    let place : 0 + k ≡ k = omega arith in
    ap (slice_index (swaps n s)) (sym place)
    ∙ exchanged-rising 0 s (range_with_len 0 n) k short rising (omega (arith, room, count))
    (λ k below. let least = rising-at_least s k rising below in omega (arith, least))
    (λ k below. let fits = within k below in omega (arith, fits, count))
    (λ k below. let e = get_or-range_with_len 0 n (slice_index s k) 0 (within k below) in omega (arith, e))
