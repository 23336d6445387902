-- The word of the bits that elements use, for each degree.
use Rattle.std.proofs.Common.{◌≡◌, ℕ, ◌-◌, ◌*◌, ◌/◌, ◌%◌, ◌^◌, ◌<◌, ◌≤◌, nat_eq, nat_lt, if◌then◌else◌, refl, ◌∙◌, ap₂, arith, eqb-true}
use Rattle.std.specs.Int.{bit_at}
use Rattle.m4_model.specs.Field.{width_of}
use Rattle.m4_mzed.proofs.WordLemmas.{all_below, from_all}

-- the low e bits of each place of w bits
abbrev pub low_bits : ℕ → ℕ → ℕ
low_bits w e = 18446744073709551615 / (1 * 2 ^ w % 18446744073709551616 - 1) * (1 * 2 ^ e % 18446744073709551616 - 1)

abbrev wanted : ℕ → ℕ → ℕ
wanted e q = if nat_lt (q % width_of e) e then 1 else 0

tried : (e q : ℕ) → e < 17 → q < 64 → bit_at (low_bits (width_of e) e) q ≡ wanted e q
tried e q small below =
    eqb-true _ _ (from_all 64 (λ p. nat_eq (bit_at (low_bits (width_of e) e) p) (wanted e p))
    (from_all 17 (λ d. all_below 64 (λ p. nat_eq (bit_at (low_bits (width_of d) d) p) (wanted d p))) refl e small) q below)

pub low_bits_are : (e w d q : ℕ) → w ≡ width_of e → d ≡ e → e ≤ 16 → q < 64 → bit_at (low_bits w d) q ≡ if nat_lt (q % width_of e) e then 1 else 0
low_bits_are e w d q wide is small below = ap₂ (λ k n. bit_at (low_bits k n) q) wide is ∙ tried e q (omega arith) below
