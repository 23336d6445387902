use Rattle.std.proofs.Common.{◌≡◌, ◌≢◌, ℕ, ◌/◌, ◌<◌, true, nat_eq, ◌==◌, ◌||◌, IsTrue, refl, sym, subst, arith, eqb-true}
use Rattle.m4_mzed.specs.Words.{element}
use Rattle.m4_mzed.proofs.WordLemmas.{all_below, from_all}
use Rattle.m4_mzed.proofs.word.ones.Goals as goal

tried : (w n word : ℕ) → all_below n (λ k. nat_eq (element w k word) 1) ≡ true → (k : ℕ) → k < n → element w k word ≡ 1
tried w n word all k below = eqb-true (element w k word) 1 (from_all n (λ k. nat_eq (element w k word) 1) all k below)

pub returns-then-width_bits-eq1-clause-ones : goal.returns-then-width_bits-eq1-clause-ones
returns-then-width_bits-eq1-clause-ones c = let P : ℕ → Type 0 = λ w. (k : ℕ) → k < 64 / w → element w k 0xffffffffffffffff ≡ 1 in subst P (sym c.if-width_bits-eq1.true) (tried 1 64 0xffffffffffffffff refl)

pub returns-then-width_bits-eq2-clause-ones : goal.returns-then-width_bits-eq2-clause-ones
returns-then-width_bits-eq2-clause-ones c = let P : ℕ → Type 0 = λ w. (k : ℕ) → k < 64 / w → element w k 0x5555555555555555 ≡ 1 in subst P (sym c.if-width_bits-eq2.true) (tried 2 32 0x5555555555555555 refl)

pub returns-then-width_bits-eq4-clause-ones : goal.returns-then-width_bits-eq4-clause-ones
returns-then-width_bits-eq4-clause-ones c = let P : ℕ → Type 0 = λ w. (k : ℕ) → k < 64 / w → element w k 0x1111111111111111 ≡ 1 in subst P (sym c.if-width_bits-eq4.true) (tried 4 16 0x1111111111111111 refl)

pub returns-then-width_bits-eq8-clause-ones : goal.returns-then-width_bits-eq8-clause-ones
returns-then-width_bits-eq8-clause-ones c = let P : ℕ → Type 0 = λ w. (k : ℕ) → k < 64 / w → element w k 0x0101010101010101 ≡ 1 in subst P (sym c.if-width_bits-eq8.true) (tried 8 8 0x0101010101010101 refl)

last : (w : ℕ) → IsTrue (w == 1 || w == 2 || w == 4 || w == 8 || w == 16) → w ≢ 1 → w ≢ 2 → w ≢ 4 → w ≢ 8 → w ≡ 16
last w one z a b d = grind arith

pub returns-else-width_bits-eq8-clause-ones : goal.returns-else-width_bits-eq8-clause-ones
returns-else-width_bits-eq8-clause-ones c =
    let P : ℕ → Type 0 = λ w. (k : ℕ) → k < 64 / w → element w k 0x0001000100010001 ≡ 1 in
    subst P (sym (last c.args.width_bits c.requires c.if-width_bits-eq1.false c.if-width_bits-eq2.false c.if-width_bits-eq4.false c.if-width_bits-eq8.false)) (tried 16 4 0x0001000100010001 refl)
