-- The product of an element, bit by bit of one factor.
use Rattle.std.proofs.Common.{◌≡◌, ℕ, zero, suc, ◌+◌, ◌-◌, ◌*◌, ◌/◌, ◌%◌, ◌^◌, ◌<◌, sym, ◌∙◌, ap, ap₂, subst, arith, bit_xor, bit_and, mod-eq_of_lt}
use Rattle.std.specs.Int.{bit_at}
use Rattle.std.specs.Int.Bits.{xor_comm, xor_shifted}
use Rattle.std.proofs.Math.Nat.{pow-suc}
use Rattle.std.proofs.Math.Pow.{pow_pos, pow_mono}
use Rattle.std.proofs.lemmas.Nat.{mod-pow-add, and_le_l, and_le_r, and_comm, and_mask}
use Rattle.std.proofs.lemmas.Nat.Bits.{bit_at-lt}
use Rattle.m4_model.specs.Field.{Field, mul}
use Rattle.m4_model.specs.Field.{IsCarried}
use Rattle.m4_model.proofs.SumLemmas.{mul-xor_left, mul-zero_left}
use Rattle.m4_mzed.specs.Words.{element}
use Rattle.m4_bits.specs.Products.{filled}
use Rattle.m4_mzed.proofs.WordLemmas.{times, element-bit, element-and, element-xor}
use Rattle.m4_field.proofs.ProductSteps.{carried_laws, times_x-low}

-- one more bit of a number
pub more_bits : (n i : ℕ) → n % 2 ^ (i + 1) ≡ bit_xor (n % 2 ^ i) (bit_at n i * 2 ^ i)
more_bits n i =
    let e : i + 1 ≡ 1 + i = omega arith in
    ap (λ k. n % 2 ^ k) e ∙ mod-pow-add n 1 i
    ∙ sym (xor_shifted (bit_at n i) i (n % 2 ^ i) (let p = pow_pos i in omega arith))
    ∙ xor_comm (bit_at n i * 2 ^ i) (n % 2 ^ i)

bit_of_product : (F : Field) → IsCarried F → (b p x : ℕ) → b < 2 → mul F (b * p) x ≡ b * mul F p x
bit_of_product F carried zero p x small =
    let e : 0 * p ≡ 0 = omega arith in let f : 0 * mul F p x ≡ 0 = omega arith in
    ap (λ y. mul F y x) e ∙ mul-zero_left F (carried_laws F carried) x ∙ sym f
bit_of_product F carried (suc zero) p x small =
    let e : 1 * p ≡ p = omega arith in let f : 1 * mul F p x ≡ mul F p x = omega arith in
    ap (λ y. mul F y x) e ∙ sym f
bit_of_product F carried (suc (suc b)) p x small = absurd (omega arith)

-- one more bit of the factor
pub more_product : (F : Field) → IsCarried F → (n i x : ℕ) → mul F (n % 2 ^ (i + 1)) x ≡ bit_xor (mul F (n % 2 ^ i) x) (bit_at n i * mul F (2 ^ i) x)
more_product F carried n i x =
    ap (λ y. mul F y x) (more_bits n i)
    ∙ mul-xor_left F (carried_laws F carried) (n % 2 ^ i) (bit_at n i * 2 ^ i) x
    ∙ ap (bit_xor (mul F (n % 2 ^ i) x)) (bit_of_product F carried (bit_at n i) (2 ^ i) x (bit_at-lt n i))

-- the next power of x as a factor
pub next_power : (F : Field) → IsCarried F → (i x : ℕ) → i + 1 < F.degree → mul F 2 (mul F (2 ^ i) x) ≡ mul F (2 ^ (i + 1)) x
next_power F carried i x below =
    let e : i + 1 ≡ suc i = omega arith in
    let p : 2 ^ i * 2 ≡ 2 ^ (i + 1) = sym (ap (λ k. 2 ^ k) e ∙ pow-suc 2 i) in
    let small : 2 ^ i * 2 < 2 ^ F.degree = let q = pow_mono {i = suc (i + 1)} {j = F.degree} below in let r = pow-suc 2 (i + 1) in let s = pow_pos (i + 1) in omega (arith, p, q, r, s) in
    sym ((carried_laws F carried).assoc 2 (2 ^ i) x)
    ∙ ap (λ y. mul F y x) (times_x-low F carried (2 ^ i) small ∙ p)

-- a number, or none of it
filled_place : (w b factor : ℕ) → b < 2 → factor < 2 ^ w → bit_and (b * (2 ^ w - 1)) factor ≡ b * factor
filled_place w zero factor small below =
    let e : 0 * (2 ^ w - 1) ≡ 0 = omega arith in
    let f : 0 * factor ≡ 0 = omega arith in
    ap (λ x. bit_and x factor) e ∙ and_zero factor ∙ sym f
  where
    and_zero : (n : ℕ) → bit_and 0 n ≡ 0
    and_zero n = let a = and_le_l 0 n in omega (arith, a)
filled_place w (suc zero) factor small below =
    let e : 1 * (2 ^ w - 1) ≡ 2 ^ w - 1 = omega arith in
    let f : 1 * factor ≡ factor = omega arith in
    ap (λ x. bit_and x factor) e ∙ and_comm (2 ^ w - 1) factor ∙ and_mask factor w ∙ mod-eq_of_lt below ∙ sym f
filled_place w (suc (suc b)) factor small below = absurd (omega arith)

-- the factor in each element whose bit i is 1, and zero in the others
pub term_element : (w i word low factor k : ℕ) → i < w → 64 / w * w ≡ 64 → low < 2 ^ 64 → factor < 2 ^ w → ((k : ℕ) → k < 64 / w → element w k low ≡ 1) → k < 64 / w
    → element w k (bit_and (filled w (bit_and (word / 2 ^ i) low)) (low * factor % 2 ^ 64)) ≡ bit_at (element w k word) i * factor
term_element w i word low factor k within whole small below ones k_below =
    let digits = bit_and (word / 2 ^ i) low in
    let b = bit_at (element w k word) i in
    let full = times w (64 / w) digits (2 ^ w - 1) digits_small (in_word digits (let a = and_le_r (word / 2 ^ i) low in omega (arith, a, small))) (let p = pow_pos w in omega (arith, p)) in
    let spread = times w (64 / w) low factor (λ j j_below. let o = ones j j_below in omega (arith, o)) (in_word low small) below in
    let unit : 1 * factor ≡ factor = omega arith in
    element-and w k (filled w digits) (low * factor % 2 ^ 64)
    ∙ ap₂ bit_and
    (ap (element w k) (mod-eq_of_lt (out_of_word (digits * (2 ^ w - 1)) full.fits)) ∙ full.elements k k_below ∙ ap (λ x. x * (2 ^ w - 1)) (element-bit w k word i low within (ones k k_below)))
    (ap (element w k) (mod-eq_of_lt (out_of_word (low * factor) spread.fits)) ∙ spread.elements k k_below ∙ ap (λ x. x * factor) (ones k k_below) ∙ unit)
    ∙ filled_place w b factor (bit_at-lt (element w k word) i) below
  where
    in_word : (n : ℕ) → n < 2 ^ 64 → n < 2 ^ (64 / w * w)
    in_word n less = let P : ℕ → Type 0 = λ m. n < 2 ^ m in subst P (sym whole) less

    out_of_word : (n : ℕ) → n < 2 ^ (64 / w * w) → n < 2 ^ 64
    out_of_word n less = let P : ℕ → Type 0 = λ m. n < 2 ^ m in subst P whole less

    digits_small : (j : ℕ) → j < 64 / w → element w j (bit_and (word / 2 ^ i) low) < 2
    digits_small j j_below = let l = bit_at-lt (element w j word) i in let e = element-bit w j word i low within (ones j j_below) in omega (arith, l, e)

-- one more bit of each element
pub sum_step : (F : Field) → IsCarried F → (w i word x factor sum term k : ℕ) → element w k term ≡ bit_at (element w k word) i * factor
    → factor ≡ mul F (2 ^ i) x → element w k sum ≡ mul F (element w k word % 2 ^ i) x
    → element w k (bit_xor sum term) ≡ mul F (element w k word % 2 ^ (i + 1)) x
sum_step F carried w i word x factor sum term k told is so_far =
    element-xor w k sum term
    ∙ ap₂ bit_xor so_far (told ∙ ap (λ a. bit_at (element w k word) i * a) is)
    ∙ sym (more_product F carried (element w k word) i x)
