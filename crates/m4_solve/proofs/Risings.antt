-- Rising lists of numbers below n: all of them, or one is missing.
use Rattle.std.proofs.Common.{◌≡◌, ◌≢◌, ℕ, zero, suc, ◌+◌, ◌-◌, ◌<◌, ◌≤◌, ◌⊎◌, inl, inr, ⊎_elim, arith, List, length, slice_index}
use Rattle.std.proofs.lemmas.Bool.{cases_lt, cases_eq, cases_order}
use Rattle.m4_model.specs.Rank.{IsRising}
use Rattle.m4_model.proofs.ExchangeLemmas.{rising-at_least}

-- the first k numbers stand at their own places, or one of them is missing
pub first_missing : (k : ℕ) (q : List ℕ) → IsRising q
    → ((k ≤ length q) × ((s : ℕ) → s < k → slice_index q s ≡ s)) ⊎ ((j : ℕ) × (j < k) × ((s : ℕ) → s < length q → slice_index q s ≢ j))
first_missing zero q rising = inl (omega arith, λ s below. absurd (omega (arith, below)))
first_missing (suc k) q rising = ⊎_elim
    (λ (so_far : (k ≤ length q) × ((s : ℕ) → s < k → slice_index q s ≡ s)). ⊎_elim
    (λ (inside : k < length q). ⊎_elim
    (λ (here : slice_index q k ≡ k). inl (
      let e : suc k ≤ length q = omega (arith, inside) in e,
      λ s below. ⊎_elim
          (λ (earlier : s < k). so_far.1 s earlier)
          (λ (last : k ≤ s). let same : s ≡ k = omega (arith, below, last) in rw same here)
          (cases_lt s k),
    ))
    (λ (away : slice_index q k ≢ k). inr (
      k,
      let e : k < suc k = omega arith in e,
      λ s within same.
          ⊎_elim
          (λ (at_k : s ≡ k). away (rw at_k at same))
          (⊎_elim
          (λ (earlier : s < k). let own = so_far.1 s earlier in absurd (omega (arith, own, same, earlier)))
          (λ (later : k < s). let rises = rising k s later within in let least = rising-at_least q k rising inside in absurd (omega (arith, rises, least, same))))
          (cases_order s k),
    ))
    (cases_eq (slice_index q k) k))
    (λ (short : length q ≤ k). inr (
      k,
      let e : k < suc k = omega arith in e,
      λ s within same.
          let own = so_far.1 s (omega (arith, within, short)) in absurd (omega (arith, own, same, within, short)),
    ))
    (cases_lt k (length q)))
    (λ (missing : (j : ℕ) × (j < k) × ((s : ℕ) → s < length q → slice_index q s ≢ j)).
    inr (missing.0, let low = missing.1 in (let e : missing.0 < suc k = omega (arith, low) in e), missing.2))
    (first_missing k q rising)

-- the places of a rising list grow at least as fast
rising-grows : (d : ℕ) (q : List ℕ) (i : ℕ) → IsRising q → i + d < length q → slice_index q i + d ≤ slice_index q (i + d)
rising-grows zero q i rising within = let here : i + 0 ≡ i = omega arith in rw here (let e : slice_index q i + 0 ≤ slice_index q i = omega arith in e)
rising-grows (suc d) q i rising within =
    let so_far = rising-grows d q i rising (omega (arith, within)) in
    let rises = rising (i + d) (i + suc d) (omega arith) within in
    omega (arith, so_far, rises)

-- n rising numbers below n are all of them
pub too_few : (n : ℕ) (q : List ℕ) → IsRising q → ((s : ℕ) → s < length q → slice_index q s < n) → (j : ℕ) → j < n
    → ((s : ℕ) → s < length q → slice_index q s ≢ j) → length q ≡ n → ⊥
too_few n q rising below j within none long =
    let inside : j < length q = omega (arith, within, long) in
    let least = rising-at_least q j rising inside in
    let last : j + (length q - suc j) < length q = omega (arith, inside) in
    let grows = rising-grows (length q - suc j) q j rising last in
    let small = below (j + (length q - suc j)) last in
    none j inside (omega (arith, least, grows, small, inside, long))
