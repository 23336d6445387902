-- Where a triangle over any field is cut: at half of the words that its rows take.
use Rattle.std.proofs.Common.{◌≡◌, ◌≢◌, ℕ, ◌+◌, ◌*◌, ◌/◌, ◌%◌, ◌<◌, ◌≤◌, ⊎_elim, ◌∙◌, ap, arith}
use Rattle.std.proofs.lemmas.Bool.{cases_eq}
use Rattle.std.proofs.Math.Nat.{mul_assoc, lt_of_mul-lt-mul_right, mul-le-mul_right, mul-zero}

-- k is a half of the rows, of w bits each
pub record IsHalf (rows w k : ℕ) : Type 0 where
  pub some : 0 < k
  pub less : k < rows
  pub whole_words : k * w % 64 ≡ 0
  pub not_before_half : rows * w ≤ 2 * (k * w) + 64
  pub not_behind_half : 2 * (k * w) < rows * w + 64

pub half_is : (rows w v words k : ℕ) → v ≡ w → words ≡ (rows * v + 63) / 64 → k ≡ words / 2 * (64 / v) → 64 / w * w ≡ 64 → 64 < rows * w → IsHalf rows w k
half_is rows w v words k same count made whole more =
    let h = words / 2 in
    let bits : k * w ≡ h * 64
    = ap (λ n. n * w) (made ∙ ap (λ n. h * (64 / n)) same) ∙ mul_assoc h (64 / w) w ∙ ap (λ n. h * n) whole in
    let words_are : words ≡ (rows * w + 63) / 64 = count ∙ ap (λ n. (rows * n + 63) / 64) same in
    let some_bits : 0 * w < k * w = omega (arith, bits, words_are, more) in
    record {
      some = lt_of_mul-lt-mul_right w some_bits;
      less = lt_of_mul-lt-mul_right w (omega (arith, bits, words_are, more));
      whole_words = omega (arith, bits);
      not_before_half = omega (arith, bits, words_are);
      not_behind_half = omega (arith, bits, words_are);
    }

-- rows past those that take a word take more
pub more_than_word : (rows m w : ℕ) → 64 ≤ m * w → m < rows → 64 < rows * w
more_than_word rows m w enough past =
    let next : (m + 1) * w ≤ rows * w = mul-le-mul_right w (omega (arith, past)) in
    let split : (m + 1) * w ≡ m * w + w = grind arith in
    ⊎_elim
    (λ (none : w ≡ 0). let nothing : m * w ≡ 0 = ap (λ n. m * n) none ∙ mul-zero m in absurd (omega (arith, nothing, enough)))
    (λ (some : w ≢ 0). omega (arith, next, split, enough, some))
    (cases_eq w 0)
