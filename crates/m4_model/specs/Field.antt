-- Polynomials over GF(2) as numbers, the fields GF(2^e), and the sum and product of their elements.
use Rattle.std.specs.Prelude.{◌≡◌, ℕ, zero, suc, ◌+◌, ◌-◌, ◌*◌, ◌/◌, ◌^◌, ◌<◌, ◌≤◌, ◌⊎◌, bit_xor, nat_lt, nat_le, cond, if◌then◌else◌}
use Rattle.std.specs.Int.{bit_at}

-- The sum of g 0, g 1 and so on to g (n - 1). A sum of elements is the xor of their bits, and an empty sum is 0.
unfoldable pub sum_below : ℕ → (ℕ → ℕ) → ℕ
sum_below zero g = 0
sum_below (suc n) g = bit_xor (sum_below n g) (g n)

-- How many bits n has, with no more than `most` of them counted.
unfoldable pub bits_within : ℕ → ℕ → ℕ
bits_within zero n = 0
bits_within (suc most) zero = 0
bits_within (suc most) (suc n) = bits_within most (suc n / 2) + 1

-- The number of bits of n: one more than the degree of the polynomial, and 0 for 0.
abbrev pub bit_length : ℕ → ℕ
bit_length n = bits_within n n

-- The product of polynomials over GF(2): the sum of a times 2^i over the set bits i of b.
unfoldable pub clmul : ℕ → ℕ → ℕ
clmul a b = sum_below (bit_length b) (λ i. bit_at b i * (a * 2 ^ i))

-- A field GF(2^e): its degree e, and the polynomial whose bits are its coefficients.
pub record Field : Type 0 where
  pub degree : ℕ
  pub poly : ℕ

-- GF(2) has the polynomial x.
abbrev pub gf2 : Field
gf2 = record { degree = 1; poly = 2 }

-- Its elements are the numbers below 2^e.
abbrev pub IsElement : Field → ℕ → Type 0
IsElement F a = a < 2 ^ F.degree

-- The polynomial isn't a product of two of lower degree.
abbrev pub IsIrreducible : Field → Type 0
IsIrreducible F = (a b : ℕ) → 2 ≤ a → IsElement F a → 2 ≤ b → IsElement F b → clmul a b ≡ F.poly → ⊥

-- An extension field: a degree from 2 to 16, and an irreducible polynomial of that degree.
pub record IsExtension (F : Field) : Type 0 where
  pub degree_low : 2 ≤ F.degree
  pub degree_high : F.degree ≤ 16
  pub poly_low : 2 ^ F.degree ≤ F.poly
  pub poly_high : F.poly < 2 ^ (F.degree + 1)
  pub irreducible : IsIrreducible F

-- GF(2), or an extension field.
abbrev pub IsField : Field → Type 0
IsField F = (F ≡ gf2) ⊎ IsExtension F

-- The fields that code carries, in one record: a degree from 1 to 16, an irreducible polynomial of that degree, and x for degree 1.
pub record IsCarried (F : Field) : Type 0 where
  pub degree_low : 1 ≤ F.degree
  pub degree_high : F.degree ≤ 16
  pub poly_low : 2 ^ F.degree ≤ F.poly
  pub poly_high : F.poly < 2 ^ (F.degree + 1)
  pub irreducible : IsIrreducible F
  pub first : F.degree ≡ 1 → F.poly ≡ 2

-- The bits of the place of an element: the least of 1, 2, 4, 8 and 16 that holds the degree.
abbrev pub width_of : ℕ → ℕ
width_of e = if nat_le e 1 then 1 else if nat_le e 2 then 2 else if nat_le e 4 then 4 else if nat_le e 8 then 8 else 16

abbrev pub width : Field → ℕ
width F = width_of F.degree

-- c without its highest bit: the multiple of the field's polynomial with that highest bit is added.
abbrev pub without_highest : Field → ℕ → ℕ
without_highest F c = bit_xor c (F.poly * 2 ^ (bit_length c - 1 - F.degree))

-- The remainder of c, after at most this many steps.
unfoldable pub rem_within : ℕ → Field → ℕ → ℕ
rem_within zero F c = c
rem_within (suc steps) F c = cond (nat_lt c (2 ^ F.degree)) c (rem_within steps F (without_highest F c))

-- The remainder of c on division by the field's polynomial. Each step takes one bit off.
abbrev pub rem : Field → ℕ → ℕ
rem F c = rem_within (bit_length c) F c

-- The product of elements.
unfoldable pub mul : Field → ℕ → ℕ → ℕ
mul F a b = rem F (clmul a b)
