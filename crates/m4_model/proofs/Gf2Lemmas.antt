-- GF(2): an element is 0 or 1, a product is `and`, and a product of matrices adds the rows that the bits name.
use Rattle.std.proofs.Common.{◌≡◌, ◌≢◌, ℕ, zero, suc, ◌⊎◌, inl, inr, ⊎_elim, refl, arith}
use Rattle.m4_model.specs.Field.{IsElement, gf2}
use Rattle.m4_model.proofs.FieldLaws.{FieldLaws}
use Rattle.m4_model.proofs.FieldLemmas.{gf2_field}
use Rattle.m4_model.proofs.FieldProofs.{field_laws}

-- the laws of GF(2)
pub gf2_laws : FieldLaws gf2
gf2_laws = field_laws gf2 gf2_field

-- an element is 0 or 1
pub bit_cases : (a : ℕ) → IsElement gf2 a → (a ≡ 0) ⊎ (a ≡ 1)
bit_cases zero element = inl refl
bit_cases (suc zero) element = inr refl
bit_cases (suc (suc a)) element = absurd (omega (arith, element))

-- one that isn't 0 is 1
pub bit_one : (a : ℕ) → IsElement gf2 a → a ≢ 0 → a ≡ 1
bit_one a element some = ⊎_elim (λ (none : a ≡ 0). absurd (some none)) (λ (one : a ≡ 1). one) (bit_cases a element)
