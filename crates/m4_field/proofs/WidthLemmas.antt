-- The width of a field's elements.
use Rattle.std.proofs.Common.{◌≡◌, ℕ, ◌*◌, ◌/◌, ◌^◌, ◌≤◌, true, false, cond, nat_le, leb-true, refl, arith}
use Rattle.m4_model.specs.Field.{Field, IsCarried, width_of, width}

-- The place has room for an element, is no wider than 16 bits, and fills a word.
pub record IsWidth (e w : ℕ) : Type 0 where
  pub room : e ≤ w
  pub some : 1 ≤ w
  pub few : w ≤ 16
  pub whole : 64 / w * w ≡ 64

pub width_is : (e : ℕ) → e ≤ 16 → IsWidth e (width_of e)
width_is e small =
    elim (nat_le e 1) as (λ b. nat_le e 1 ≡ b → IsWidth e (cond b 1 (cond (nat_le e 2) 2 (cond (nat_le e 4) 4 (cond (nat_le e 8) 8 16))))) [
      | true ↦ λ is. record { room = leb-true e 1 is; some = omega arith; few = omega arith; whole = refl }
      | false ↦ λ _. elim (nat_le e 2) as (λ b. nat_le e 2 ≡ b → IsWidth e (cond b 2 (cond (nat_le e 4) 4 (cond (nat_le e 8) 8 16)))) [
        | true ↦ λ is. record { room = leb-true e 2 is; some = omega arith; few = omega arith; whole = refl }
        | false ↦ λ _. elim (nat_le e 4) as (λ b. nat_le e 4 ≡ b → IsWidth e (cond b 4 (cond (nat_le e 8) 8 16))) [
          | true ↦ λ is. record { room = leb-true e 4 is; some = omega arith; few = omega arith; whole = refl }
          | false ↦ λ _. elim (nat_le e 8) as (λ b. nat_le e 8 ≡ b → IsWidth e (cond b 8 16)) [
            | true ↦ λ is. record { room = leb-true e 8 is; some = omega arith; few = omega arith; whole = refl }
            | false ↦ λ _. record { room = small; some = omega arith; few = omega arith; whole = refl }
          ] refl
        ] refl
      ] refl
    ] refl

-- the width of a field that code carries
pub width_facts : (F : Field) → IsCarried F → IsWidth F.degree (width F)
width_facts F is = width_is F.degree is.degree_high

-- columns of at most 2^20 elements have at most 2^24 bits
pub few_bits : (F : Field) → IsCarried F → (n : ℕ) → n ≤ 2 ^ 20 → n * width F ≤ 2 ^ 24
few_bits F is n few = times (width F) (width_facts F is).few
  where
    times : (w : ℕ) → w ≤ 16 → n * w ≤ 2 ^ 24
    times w small = let a : n * w ≤ n * 16 = grind arith in omega (arith, a, few)
