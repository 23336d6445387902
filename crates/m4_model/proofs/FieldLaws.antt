-- What a proof about matrices needs of the field at hand.
use Rattle.std.proofs.Common.{◌≡◌, ◌≢◌, ℕ, bit_xor}
use Rattle.m4_model.specs.Field.{Field, IsElement, mul}

-- The laws of the product of elements. Those that need no bound hold of all numbers.
pub record FieldLaws (F : Field) : Type 0 where
  pub comm : (a b : ℕ) → mul F a b ≡ mul F b a
  pub assoc : (a b c : ℕ) → mul F (mul F a b) c ≡ mul F a (mul F b c)
  pub distrib : (a b c : ℕ) → mul F a (bit_xor b c) ≡ bit_xor (mul F a b) (mul F a c)
  pub annihilates : (a : ℕ) → mul F a 0 ≡ 0
  pub closed : (a b : ℕ) → IsElement F a → IsElement F b → IsElement F (mul F a b)
  pub unit : (a : ℕ) → IsElement F a → mul F 1 a ≡ a
  pub inverse : (a : ℕ) → IsElement F a → a ≢ 0 → (b : ℕ) × IsElement F b × (mul F a b ≡ 1)
