-- Fours of bits as one number, the lowest first, and the steps that give each a byte of its own.
use Rattle.std.proofs.Common.{◌≡◌, ℕ, zero, suc, ◌+◌, ◌-◌, ◌*◌, ◌/◌, ◌%◌, ◌^◌, ◌<◌, ◌≤◌, ◌≢◌, ◌==◌, ◌||◌, IsTrue, inl, inr, false, List, [], ◌∷◌, ◌++◌, take, length-take, refl, sym, ◌∙◌, ap, ap₂, subst, rules, arith, bit_and, get_or, length}
use Rattle.std.specs.Fmt.{digit_glyph}
use Rattle.std.specs.Int.{from_le_bytes, to_le_bytes, w64}
use Rattle.std.specs.Int.Bits.{and_block, and_mask}
use Rattle.std.proofs.lemmas.Nat.{and_comm, field_of, le_bytes_8, pow-add}
use Rattle.std.proofs.Math.Pow.{mod-mod-pow}
use Rattle.std.proofs.Math.Nat.{div-div-eq-div-mul}
use Rattle.std.proofs.lemmas.Bool.{cases_lt}
use Rattle.std.proofs.lemmas.List.{get_or-append_right, get_or_append_left, get_or_past}
use Rattle.std.proofs.lemmas.List.FromFn.{get_or-map-range_with_len}
use Rattle.m4_etext.specs.Digits.{digit_of_elements, fours_of}
use Rattle.m4_etext.proofs.BitRows.{pow_four}

abbrev pub number : List ℕ → ℕ
number [] = 0
number (x ∷ xs) = number xs * 2 ^ 4 + x

abbrev pub bytes : List ℕ → ℕ
bytes [] = 0
bytes (x ∷ xs) = bytes xs * 2 ^ 8 + x

abbrev pub AreFours : List ℕ → Type 0
AreFours [] = Unit {0}
AreFours (x ∷ xs) = (x < 16) × AreFours xs

-- each four of bits where the other list has ones, and 0 where it has zeros
abbrev masked : List ℕ → List ℕ → List ℕ
masked [] ms = []
masked (x ∷ xs) [] = []
masked (x ∷ xs) (m ∷ ms) = x * m ∷ masked xs ms

-- a mask that has these fours of bits whole
abbrev mask : List ℕ → List ℕ
mask [] = []
mask (m ∷ ms) = 15 * m ∷ mask ms

AreBits : List ℕ → Type 0
AreBits [] = Unit {0}
AreBits (m ∷ ms) = (m < 2) × AreBits ms

four_masked : (x m : ℕ) → x < 16 → m < 2 → bit_and x (15 * m) ≡ x * m
four_masked x m small bit =
    elim (cases_lt m 1) [
      | inl none ↦ let z : m ≡ 0 = omega (arith, none) in rw z (and_comm x 0 ∙ omega arith)
      | inr some ↦ let o : m ≡ 1 = omega (arith, some, bit) in rw o (and_mask x 4 ∙ omega (arith, small))
    ]

number-masked : (xs ms : List ℕ) → AreFours xs → AreBits ms → bit_and (number xs) (number (mask ms)) ≡ number (masked xs ms)
unfolding AreBits
number-masked [] ms a b = refl
number-masked (x ∷ xs) [] a b = and_comm (number (x ∷ xs)) 0
number-masked (x ∷ xs) (m ∷ ms) a b =
    and_block 4 (number xs) (number (mask ms)) x (15 * m) a.0 (omega (arith, b.0))
    ∙ ap₂ (λ n y. n * 2 ^ 4 + y) (number-masked xs ms a.1 b.1) (four_masked x m a.0 b.0)

abbrev halves : ℕ → ℕ
halves n = bit_and n 0xFFFF + n / 2 ^ 16 * 2 ^ 32 % 2 ^ 64

abbrev pairs : ℕ → ℕ
pairs n = bit_and n 0x000000FF000000FF + bit_and n 0x0000FF000000FF00 * 2 ^ 8 % 2 ^ 64

abbrev eighths : ℕ → ℕ
eighths n = bit_and n 0x000F000F000F000F + bit_and n 0x00F000F000F000F0 * 2 ^ 4 % 2 ^ 64

abbrev pub values : ℕ → ℕ
values n = eighths (pairs (halves n))

abbrev pub letters : ℕ → ℕ
letters n = bit_and ((n + 0x0606060606060606) / 2 ^ 4) 0x0F0F0F0F0F0F0F0F

abbrev pub spelled : ℕ → ℕ
spelled n = values n + 0x3030303030303030 + letters (values n) * 39

-- the bytes of a number that is given by its bytes
bytes_of_number : (x0 x1 x2 x3 x4 x5 x6 x7 : ℕ) → x0 < 256 → x1 < 256 → x2 < 256 → x3 < 256 → x4 < 256 → x5 < 256 → x6 < 256 → x7 < 256
    → to_le_bytes w64 (bytes (x0 ∷ x1 ∷ x2 ∷ x3 ∷ x4 ∷ x5 ∷ x6 ∷ x7 ∷ [])) ≡ x0 ∷ x1 ∷ x2 ∷ x3 ∷ x4 ∷ x5 ∷ x6 ∷ x7 ∷ []
bytes_of_number x0 x1 x2 x3 x4 x5 x6 x7 b0 b1 b2 b3 b4 b5 b6 b7 =
    let n = bytes (x0 ∷ x1 ∷ x2 ∷ x3 ∷ x4 ∷ x5 ∷ x6 ∷ x7 ∷ []) in
    let byte_0 : n % 256 ≡ x0 = omega arith in
    let byte_1 : n / 256 ^ 1 % 256 ≡ x1 = omega arith in
    let byte_2 : n / 256 ^ 2 % 256 ≡ x2 = omega arith in
    let byte_3 : n / 256 ^ 3 % 256 ≡ x3 = omega arith in
    let byte_4 : n / 256 ^ 4 % 256 ≡ x4 = omega arith in
    let byte_5 : n / 256 ^ 5 % 256 ≡ x5 = omega arith in
    let byte_6 : n / 256 ^ 6 % 256 ≡ x6 = omega arith in
    let byte_7 : n / 256 ^ 7 % 256 ≡ x7 = omega arith in
    cc

module _ (a b c d e f g h : ℕ) (fours : AreFours (a ∷ b ∷ c ∷ d ∷ e ∷ f ∷ g ∷ h ∷ [])) where
  in_halves : halves (number (a ∷ b ∷ c ∷ d ∷ e ∷ f ∷ g ∷ h ∷ [])) ≡ number (a ∷ b ∷ c ∷ d ∷ 0 ∷ 0 ∷ 0 ∷ 0 ∷ e ∷ f ∷ g ∷ h ∷ [])
  in_halves = let low = and_mask (number (a ∷ b ∷ c ∷ d ∷ e ∷ f ∷ g ∷ h ∷ [])) 16 in omega (arith, low)

  in_pairs : pairs (number (a ∷ b ∷ c ∷ d ∷ 0 ∷ 0 ∷ 0 ∷ 0 ∷ e ∷ f ∷ g ∷ h ∷ [])) ≡ number (a ∷ b ∷ 0 ∷ 0 ∷ c ∷ d ∷ 0 ∷ 0 ∷ e ∷ f ∷ 0 ∷ 0 ∷ g ∷ h ∷ [])
  unfolding AreBits
  in_pairs =
      let all = a ∷ b ∷ c ∷ d ∷ 0 ∷ 0 ∷ 0 ∷ 0 ∷ e ∷ f ∷ g ∷ h ∷ [] in
      let are : AreFours all = (omega arith, (omega arith, (omega arith, (omega arith, (omega arith, (omega arith, (omega arith, (omega arith, (omega arith, (omega arith, (omega arith, (omega arith, tt)))))))))))) in
      let low = number-masked all (1 ∷ 1 ∷ 0 ∷ 0 ∷ 0 ∷ 0 ∷ 0 ∷ 0 ∷ 1 ∷ 1 ∷ []) are (search rules) in
      let high = number-masked all (0 ∷ 0 ∷ 1 ∷ 1 ∷ 0 ∷ 0 ∷ 0 ∷ 0 ∷ 0 ∷ 0 ∷ 1 ∷ 1 ∷ []) are (search rules) in
      omega (arith, low, high)

  in_eighths : eighths (number (a ∷ b ∷ 0 ∷ 0 ∷ c ∷ d ∷ 0 ∷ 0 ∷ e ∷ f ∷ 0 ∷ 0 ∷ g ∷ h ∷ []))
      ≡ number (a ∷ 0 ∷ b ∷ 0 ∷ c ∷ 0 ∷ d ∷ 0 ∷ e ∷ 0 ∷ f ∷ 0 ∷ g ∷ 0 ∷ h ∷ [])
  unfolding AreBits
  in_eighths =
      let all = a ∷ b ∷ 0 ∷ 0 ∷ c ∷ d ∷ 0 ∷ 0 ∷ e ∷ f ∷ 0 ∷ 0 ∷ g ∷ h ∷ [] in
      let are : AreFours all = (omega arith, (omega arith, (omega arith, (omega arith, (omega arith, (omega arith, (omega arith, (omega arith, (omega arith, (omega arith, (omega arith, (omega arith, (omega arith, (omega arith, tt)))))))))))))) in
      let low = number-masked all (1 ∷ 0 ∷ 0 ∷ 0 ∷ 1 ∷ 0 ∷ 0 ∷ 0 ∷ 1 ∷ 0 ∷ 0 ∷ 0 ∷ 1 ∷ []) are (search rules) in
      let high = number-masked all (0 ∷ 1 ∷ 0 ∷ 0 ∷ 0 ∷ 1 ∷ 0 ∷ 0 ∷ 0 ∷ 1 ∷ 0 ∷ 0 ∷ 0 ∷ 1 ∷ []) are (search rules) in
      omega (arith, low, high)

  pub spread_is : values (number (a ∷ b ∷ c ∷ d ∷ e ∷ f ∷ g ∷ h ∷ []))
      ≡ number (a ∷ 0 ∷ b ∷ 0 ∷ c ∷ 0 ∷ d ∷ 0 ∷ e ∷ 0 ∷ f ∷ 0 ∷ g ∷ 0 ∷ h ∷ [])
  spread_is = ap (λ n. eighths (pairs n)) in_halves ∙ ap eighths in_pairs ∙ in_eighths

  -- for each of them, whether it is spelled by a letter
  in_letters : letters (number (a ∷ 0 ∷ b ∷ 0 ∷ c ∷ 0 ∷ d ∷ 0 ∷ e ∷ 0 ∷ f ∷ 0 ∷ g ∷ 0 ∷ h ∷ []))
      ≡ number ((a + 6) / 16 ∷ 0 ∷ (b + 6) / 16 ∷ 0 ∷ (c + 6) / 16 ∷ 0 ∷ (d + 6) / 16 ∷ 0 ∷ (e + 6) / 16 ∷ 0 ∷ (f + 6) / 16 ∷ 0 ∷ (g + 6) / 16 ∷ 0 ∷ (h + 6) / 16 ∷ [])
  unfolding AreBits
  in_letters =
      let all = (a + 6) / 16 ∷ (b + 6) % 16 ∷ (b + 6) / 16 ∷ (c + 6) % 16 ∷ (c + 6) / 16 ∷ (d + 6) % 16 ∷ (d + 6) / 16 ∷ (e + 6) % 16 ∷ (e + 6) / 16 ∷ (f + 6) % 16 ∷ (f + 6) / 16 ∷ (g + 6) % 16 ∷ (g + 6) / 16 ∷ (h + 6) % 16 ∷ (h + 6) / 16 ∷ [] in
      let are : AreFours all = (omega arith, (omega arith, (omega arith, (omega arith, (omega arith, (omega arith, (omega arith, (omega arith, (omega arith, (omega arith, (omega arith, (omega arith, (omega arith, (omega arith, (omega arith, tt))))))))))))))) in
      let shifted : (number (a ∷ 0 ∷ b ∷ 0 ∷ c ∷ 0 ∷ d ∷ 0 ∷ e ∷ 0 ∷ f ∷ 0 ∷ g ∷ 0 ∷ h ∷ []) + 0x0606060606060606) / 2 ^ 4 ≡ number all = omega arith in
      let kept = number-masked all (1 ∷ 0 ∷ 1 ∷ 0 ∷ 1 ∷ 0 ∷ 1 ∷ 0 ∷ 1 ∷ 0 ∷ 1 ∷ 0 ∷ 1 ∷ 0 ∷ 1 ∷ []) are (search rules) in
      ap (λ n. bit_and n 0x0F0F0F0F0F0F0F0F) shifted ∙ omega (arith, kept)

  letters_are : letters (values (number (a ∷ b ∷ c ∷ d ∷ e ∷ f ∷ g ∷ h ∷ []))) ≡ number ((a + 6) / 16 ∷ 0 ∷ (b + 6) / 16 ∷ 0 ∷ (c + 6) / 16 ∷ 0 ∷ (d + 6) / 16 ∷ 0 ∷ (e + 6) / 16 ∷ 0 ∷ (f + 6) / 16 ∷ 0 ∷ (g + 6) / 16 ∷ 0 ∷ (h + 6) / 16 ∷ [])
  letters_are = ap letters spread_is ∙ in_letters

  pub letters_few : letters (values (number (a ∷ b ∷ c ∷ d ∷ e ∷ f ∷ g ∷ h ∷ []))) ≤ 0x0101010101010101
  letters_few = omega (arith, letters_are)

  pub values_few : values (number (a ∷ b ∷ c ∷ d ∷ e ∷ f ∷ g ∷ h ∷ [])) ≤ 0x0F0F0F0F0F0F0F0F
  values_few = omega (arith, spread_is)

  spelled_is : spelled (number (a ∷ b ∷ c ∷ d ∷ e ∷ f ∷ g ∷ h ∷ [])) ≡ bytes ((48 + a + (a + 6) / 16 * 39) ∷ (48 + b + (b + 6) / 16 * 39) ∷ (48 + c + (c + 6) / 16 * 39) ∷ (48 + d + (d + 6) / 16 * 39) ∷ (48 + e + (e + 6) / 16 * 39) ∷ (48 + f + (f + 6) / 16 * 39) ∷ (48 + g + (g + 6) / 16 * 39) ∷ (48 + h + (h + 6) / 16 * 39) ∷ [])
  spelled_is = let v = spread_is in let l = letters_are in omega (arith, v, l)

  pub spelled_bytes : to_le_bytes w64 (spelled (number (a ∷ b ∷ c ∷ d ∷ e ∷ f ∷ g ∷ h ∷ []))) ≡ (48 + a + (a + 6) / 16 * 39) ∷ (48 + b + (b + 6) / 16 * 39) ∷ (48 + c + (c + 6) / 16 * 39) ∷ (48 + d + (d + 6) / 16 * 39) ∷ (48 + e + (e + 6) / 16 * 39) ∷ (48 + f + (f + 6) / 16 * 39) ∷ (48 + g + (g + 6) / 16 * 39) ∷ (48 + h + (h + 6) / 16 * 39) ∷ []
  spelled_bytes =
      ap (to_le_bytes w64) spelled_is
      ∙ bytes_of_number (48 + a + (a + 6) / 16 * 39) (48 + b + (b + 6) / 16 * 39) (48 + c + (c + 6) / 16 * 39) (48 + d + (d + 6) / 16 * 39) (48 + e + (e + 6) / 16 * 39) (48 + f + (f + 6) / 16 * 39) (48 + g + (g + 6) / 16 * 39) (48 + h + (h + 6) / 16 * 39)
      (omega arith) (omega arith) (omega arith) (omega arith) (omega arith) (omega arith) (omega arith) (omega arith)

-- a digit by its value
glyph_is : (x : ℕ) → x < 16 → digit_glyph false x ≡ 48 + x + (x + 6) / 16 * 39
glyph_is x small = search rules

module _ (n : ℕ) (small : n < 2 ^ 32) where
  n_is : n ≡ number (n / 16 ^ 0 % 16 ∷ n / 16 ^ 1 % 16 ∷ n / 16 ^ 2 % 16 ∷ n / 16 ^ 3 % 16 ∷ n / 16 ^ 4 % 16 ∷ n / 16 ^ 5 % 16 ∷ n / 16 ^ 6 % 16 ∷ n / 16 ^ 7 % 16 ∷ [])
  n_is = omega arith

  each : AreFours (n / 16 ^ 0 % 16 ∷ n / 16 ^ 1 % 16 ∷ n / 16 ^ 2 % 16 ∷ n / 16 ^ 3 % 16 ∷ n / 16 ^ 4 % 16 ∷ n / 16 ^ 5 % 16 ∷ n / 16 ^ 6 % 16 ∷ n / 16 ^ 7 % 16 ∷ [])
  each = (omega arith, (omega arith, (omega arith, (omega arith, (omega arith, (omega arith, (omega arith, (omega arith, tt))))))))

  pub letters_bound : letters (values n) ≤ 0x0101010101010101
  letters_bound = subst (λ m. letters (values m) ≤ 0x0101010101010101) (sym n_is)
      (letters_few (n / 16 ^ 0 % 16) (n / 16 ^ 1 % 16) (n / 16 ^ 2 % 16) (n / 16 ^ 3 % 16) (n / 16 ^ 4 % 16) (n / 16 ^ 5 % 16) (n / 16 ^ 6 % 16) (n / 16 ^ 7 % 16) each)

  pub values_bound : values n ≤ 0x0F0F0F0F0F0F0F0F
  values_bound = subst (λ m. values m ≤ 0x0F0F0F0F0F0F0F0F) (sym n_is)
      (values_few (n / 16 ^ 0 % 16) (n / 16 ^ 1 % 16) (n / 16 ^ 2 % 16) (n / 16 ^ 3 % 16) (n / 16 ^ 4 % 16) (n / 16 ^ 5 % 16) (n / 16 ^ 6 % 16) (n / 16 ^ 7 % 16) each)

  pub digits_spelled : to_le_bytes w64 (spelled n) ≡ fours_of n 8
  digits_spelled =
      let g0 = glyph_is (n / 16 ^ 0 % 16) (omega arith) in
      let g1 = glyph_is (n / 16 ^ 1 % 16) (omega arith) in
      let g2 = glyph_is (n / 16 ^ 2 % 16) (omega arith) in
      let g3 = glyph_is (n / 16 ^ 3 % 16) (omega arith) in
      let g4 = glyph_is (n / 16 ^ 4 % 16) (omega arith) in
      let g5 = glyph_is (n / 16 ^ 5 % 16) (omega arith) in
      let g6 = glyph_is (n / 16 ^ 6 % 16) (omega arith) in
      let g7 = glyph_is (n / 16 ^ 7 % 16) (omega arith) in
      ap (λ m. to_le_bytes w64 (spelled m)) n_is ∙ spelled_bytes (n / 16 ^ 0 % 16) (n / 16 ^ 1 % 16) (n / 16 ^ 2 % 16) (n / 16 ^ 3 % 16) (n / 16 ^ 4 % 16) (n / 16 ^ 5 % 16) (n / 16 ^ 6 % 16) (n / 16 ^ 7 % 16) each ∙ cc

-- ---- fours of bits by their places
pub below_16 : (P : ℕ → Type 0) → P 0 → P 1 → P 2 → P 3 → P 4 → P 5 → P 6 → P 7 → P 8 → P 9 → P 10 → P 11 → P 12 → P 13 → P 14 → P 15 → (p : ℕ) → p < 16 → P p
below_16 P p0 p1 p2 p3 p4 p5 p6 p7 p8 p9 p10 p11 p12 p13 p14 p15 zero below = p0
below_16 P p0 p1 p2 p3 p4 p5 p6 p7 p8 p9 p10 p11 p12 p13 p14 p15 (suc zero) below = p1
below_16 P p0 p1 p2 p3 p4 p5 p6 p7 p8 p9 p10 p11 p12 p13 p14 p15 (suc (suc zero)) below = p2
below_16 P p0 p1 p2 p3 p4 p5 p6 p7 p8 p9 p10 p11 p12 p13 p14 p15 (suc (suc (suc zero))) below = p3
below_16 P p0 p1 p2 p3 p4 p5 p6 p7 p8 p9 p10 p11 p12 p13 p14 p15 (suc (suc (suc (suc zero)))) below = p4
below_16 P p0 p1 p2 p3 p4 p5 p6 p7 p8 p9 p10 p11 p12 p13 p14 p15 (suc (suc (suc (suc (suc zero))))) below = p5
below_16 P p0 p1 p2 p3 p4 p5 p6 p7 p8 p9 p10 p11 p12 p13 p14 p15 (suc (suc (suc (suc (suc (suc zero)))))) below = p6
below_16 P p0 p1 p2 p3 p4 p5 p6 p7 p8 p9 p10 p11 p12 p13 p14 p15 (suc (suc (suc (suc (suc (suc (suc zero))))))) below = p7
below_16 P p0 p1 p2 p3 p4 p5 p6 p7 p8 p9 p10 p11 p12 p13 p14 p15 (suc (suc (suc (suc (suc (suc (suc (suc zero)))))))) below = p8
below_16 P p0 p1 p2 p3 p4 p5 p6 p7 p8 p9 p10 p11 p12 p13 p14 p15 (suc (suc (suc (suc (suc (suc (suc (suc (suc zero))))))))) below = p9
below_16 P p0 p1 p2 p3 p4 p5 p6 p7 p8 p9 p10 p11 p12 p13 p14 p15 (suc (suc (suc (suc (suc (suc (suc (suc (suc (suc zero)))))))))) below = p10
below_16 P p0 p1 p2 p3 p4 p5 p6 p7 p8 p9 p10 p11 p12 p13 p14 p15 (suc (suc (suc (suc (suc (suc (suc (suc (suc (suc (suc zero))))))))))) below = p11
below_16 P p0 p1 p2 p3 p4 p5 p6 p7 p8 p9 p10 p11 p12 p13 p14 p15 (suc (suc (suc (suc (suc (suc (suc (suc (suc (suc (suc (suc zero)))))))))))) below = p12
below_16 P p0 p1 p2 p3 p4 p5 p6 p7 p8 p9 p10 p11 p12 p13 p14 p15 (suc (suc (suc (suc (suc (suc (suc (suc (suc (suc (suc (suc (suc zero))))))))))))) below = p13
below_16 P p0 p1 p2 p3 p4 p5 p6 p7 p8 p9 p10 p11 p12 p13 p14 p15 (suc (suc (suc (suc (suc (suc (suc (suc (suc (suc (suc (suc (suc (suc zero)))))))))))))) below = p14
below_16 P p0 p1 p2 p3 p4 p5 p6 p7 p8 p9 p10 p11 p12 p13 p14 p15 (suc (suc (suc (suc (suc (suc (suc (suc (suc (suc (suc (suc (suc (suc (suc zero))))))))))))))) below = p15
below_16 P p0 p1 p2 p3 p4 p5 p6 p7 p8 p9 p10 p11 p12 p13 p14 p15 (suc (suc (suc (suc (suc (suc (suc (suc (suc (suc (suc (suc (suc (suc (suc (suc n)))))))))))))))) below = absurd (omega arith)

pub number-at : (xs : List ℕ) → AreFours xs → (p : ℕ) → p < length xs → number xs / 16 ^ p % 16 ≡ get_or xs p 0
number-at [] fours p below = absurd (omega arith)
number-at (x ∷ xs) fours zero below = omega (arith, fours.0)
number-at (x ∷ xs) fours (suc p) below =
    let next : suc p ≡ 1 + p = omega arith in
    let power : 16 ^ suc p ≡ 16 * 16 ^ p = ap (λ e. 16 ^ e) next ∙ pow-add 16 1 p in
    let cut : (number xs * 2 ^ 4 + x) / 16 ≡ number xs = omega (arith, fours.0) in
    ap (λ z. z % 16) (ap (λ y. (number xs * 2 ^ 4 + x) / y) power ∙ sym (div-div-eq-div-mul (number xs * 2 ^ 4 + x) 16 (16 ^ p)) ∙ ap (λ z. z / 16 ^ p) cut) ∙ number-at xs fours.1 p (omega (arith, below))

abbrev pub pairs_turned : ℕ → ℕ
pairs_turned n = bit_and (n / 2 ^ 4) 0x0F0F0F0F0F0F0F0F + bit_and n 0x0F0F0F0F0F0F0F0F * 2 ^ 4 % 2 ^ 64

abbrev pub bytes_turned : ℕ → ℕ
bytes_turned n = bit_and (n / 2 ^ 8) 0x00FF00FF00FF00FF + bit_and n 0x00FF00FF00FF00FF * 2 ^ 8 % 2 ^ 64

module _ (a0 a1 a2 a3 a4 a5 a6 a7 a8 a9 a10 a11 a12 a13 a14 a15 : ℕ) (fours : AreFours (a0 ∷ a1 ∷ a2 ∷ a3 ∷ a4 ∷ a5 ∷ a6 ∷ a7 ∷ a8 ∷ a9 ∷ a10 ∷ a11 ∷ a12 ∷ a13 ∷ a14 ∷ a15 ∷ [])) where
  pairs_exchanged : pairs_turned (number (a0 ∷ a1 ∷ a2 ∷ a3 ∷ a4 ∷ a5 ∷ a6 ∷ a7 ∷ a8 ∷ a9 ∷ a10 ∷ a11 ∷ a12 ∷ a13 ∷ a14 ∷ a15 ∷ [])) ≡ number (a1 ∷ a0 ∷ a3 ∷ a2 ∷ a5 ∷ a4 ∷ a7 ∷ a6 ∷ a9 ∷ a8 ∷ a11 ∷ a10 ∷ a13 ∷ a12 ∷ a15 ∷ a14 ∷ [])
  unfolding AreBits
  pairs_exchanged =
      let all = a0 ∷ a1 ∷ a2 ∷ a3 ∷ a4 ∷ a5 ∷ a6 ∷ a7 ∷ a8 ∷ a9 ∷ a10 ∷ a11 ∷ a12 ∷ a13 ∷ a14 ∷ a15 ∷ [] in
      let shifted : number all / 2 ^ 4 ≡ number (a1 ∷ a2 ∷ a3 ∷ a4 ∷ a5 ∷ a6 ∷ a7 ∷ a8 ∷ a9 ∷ a10 ∷ a11 ∷ a12 ∷ a13 ∷ a14 ∷ a15 ∷ []) = omega arith in
      let low = number-masked (a1 ∷ a2 ∷ a3 ∷ a4 ∷ a5 ∷ a6 ∷ a7 ∷ a8 ∷ a9 ∷ a10 ∷ a11 ∷ a12 ∷ a13 ∷ a14 ∷ a15 ∷ []) (1 ∷ 0 ∷ 1 ∷ 0 ∷ 1 ∷ 0 ∷ 1 ∷ 0 ∷ 1 ∷ 0 ∷ 1 ∷ 0 ∷ 1 ∷ 0 ∷ 1 ∷ []) (fours.1) (search rules) in
      let high = number-masked all (1 ∷ 0 ∷ 1 ∷ 0 ∷ 1 ∷ 0 ∷ 1 ∷ 0 ∷ 1 ∷ 0 ∷ 1 ∷ 0 ∷ 1 ∷ 0 ∷ 1 ∷ 0 ∷ []) fours (search rules) in
      ap (λ x. bit_and x 0x0F0F0F0F0F0F0F0F + bit_and (number all) 0x0F0F0F0F0F0F0F0F * 2 ^ 4 % 2 ^ 64) shifted ∙ omega (arith, low, high)

  bytes_exchanged : bytes_turned (number (a0 ∷ a1 ∷ a2 ∷ a3 ∷ a4 ∷ a5 ∷ a6 ∷ a7 ∷ a8 ∷ a9 ∷ a10 ∷ a11 ∷ a12 ∷ a13 ∷ a14 ∷ a15 ∷ [])) ≡ number (a2 ∷ a3 ∷ a0 ∷ a1 ∷ a6 ∷ a7 ∷ a4 ∷ a5 ∷ a10 ∷ a11 ∷ a8 ∷ a9 ∷ a14 ∷ a15 ∷ a12 ∷ a13 ∷ [])
  unfolding AreBits
  bytes_exchanged =
      let all = a0 ∷ a1 ∷ a2 ∷ a3 ∷ a4 ∷ a5 ∷ a6 ∷ a7 ∷ a8 ∷ a9 ∷ a10 ∷ a11 ∷ a12 ∷ a13 ∷ a14 ∷ a15 ∷ [] in
      let shifted : number all / 2 ^ 8 ≡ number (a2 ∷ a3 ∷ a4 ∷ a5 ∷ a6 ∷ a7 ∷ a8 ∷ a9 ∷ a10 ∷ a11 ∷ a12 ∷ a13 ∷ a14 ∷ a15 ∷ []) = omega arith in
      let low = number-masked (a2 ∷ a3 ∷ a4 ∷ a5 ∷ a6 ∷ a7 ∷ a8 ∷ a9 ∷ a10 ∷ a11 ∷ a12 ∷ a13 ∷ a14 ∷ a15 ∷ []) (1 ∷ 1 ∷ 0 ∷ 0 ∷ 1 ∷ 1 ∷ 0 ∷ 0 ∷ 1 ∷ 1 ∷ 0 ∷ 0 ∷ 1 ∷ 1 ∷ []) (fours.1.1) (search rules) in
      let high = number-masked all (1 ∷ 1 ∷ 0 ∷ 0 ∷ 1 ∷ 1 ∷ 0 ∷ 0 ∷ 1 ∷ 1 ∷ 0 ∷ 0 ∷ 1 ∷ 1 ∷ 0 ∷ 0 ∷ []) fours (search rules) in
      ap (λ x. bit_and x 0x00FF00FF00FF00FF + bit_and (number all) 0x00FF00FF00FF00FF * 2 ^ 8 % 2 ^ 64) shifted ∙ omega (arith, low, high)

  pairs_fours : AreFours (a1 ∷ a0 ∷ a3 ∷ a2 ∷ a5 ∷ a4 ∷ a7 ∷ a6 ∷ a9 ∷ a8 ∷ a11 ∷ a10 ∷ a13 ∷ a12 ∷ a15 ∷ a14 ∷ [])
  pairs_fours = (omega arith, (omega arith, (omega arith, (omega arith, (omega arith, (omega arith, (omega arith, (omega arith, (omega arith, (omega arith, (omega arith, (omega arith, (omega arith, (omega arith, (omega arith, (omega arith, tt))))))))))))))))

  quads_fours : AreFours (a3 ∷ a2 ∷ a1 ∷ a0 ∷ a7 ∷ a6 ∷ a5 ∷ a4 ∷ a11 ∷ a10 ∷ a9 ∷ a8 ∷ a15 ∷ a14 ∷ a13 ∷ a12 ∷ [])
  quads_fours = (omega arith, (omega arith, (omega arith, (omega arith, (omega arith, (omega arith, (omega arith, (omega arith, (omega arith, (omega arith, (omega arith, (omega arith, (omega arith, (omega arith, (omega arith, (omega arith, tt))))))))))))))))

  pair_at : (p : ℕ) → p < 16 → pairs_turned (number (a0 ∷ a1 ∷ a2 ∷ a3 ∷ a4 ∷ a5 ∷ a6 ∷ a7 ∷ a8 ∷ a9 ∷ a10 ∷ a11 ∷ a12 ∷ a13 ∷ a14 ∷ a15 ∷ [])) / 16 ^ p % 16 ≡ number (a0 ∷ a1 ∷ a2 ∷ a3 ∷ a4 ∷ a5 ∷ a6 ∷ a7 ∷ a8 ∷ a9 ∷ a10 ∷ a11 ∷ a12 ∷ a13 ∷ a14 ∷ a15 ∷ []) / 16 ^ (p / 2 * 2 + (1 - p % 2)) % 16
  pair_at p below =
      ap (λ n. n / 16 ^ p % 16) pairs_exchanged ∙ number-at (a1 ∷ a0 ∷ a3 ∷ a2 ∷ a5 ∷ a4 ∷ a7 ∷ a6 ∷ a9 ∷ a8 ∷ a11 ∷ a10 ∷ a13 ∷ a12 ∷ a15 ∷ a14 ∷ []) pairs_fours p below
      ∙ below_16 (λ p. get_or (a1 ∷ a0 ∷ a3 ∷ a2 ∷ a5 ∷ a4 ∷ a7 ∷ a6 ∷ a9 ∷ a8 ∷ a11 ∷ a10 ∷ a13 ∷ a12 ∷ a15 ∷ a14 ∷ []) p 0 ≡ get_or (a0 ∷ a1 ∷ a2 ∷ a3 ∷ a4 ∷ a5 ∷ a6 ∷ a7 ∷ a8 ∷ a9 ∷ a10 ∷ a11 ∷ a12 ∷ a13 ∷ a14 ∷ a15 ∷ []) (p / 2 * 2 + (1 - p % 2)) 0) refl refl refl refl refl refl refl refl refl refl refl refl refl refl refl refl p below
      ∙ sym (number-at (a0 ∷ a1 ∷ a2 ∷ a3 ∷ a4 ∷ a5 ∷ a6 ∷ a7 ∷ a8 ∷ a9 ∷ a10 ∷ a11 ∷ a12 ∷ a13 ∷ a14 ∷ a15 ∷ []) fours (p / 2 * 2 + (1 - p % 2)) (omega (arith, below)))

module _ (a0 a1 a2 a3 a4 a5 a6 a7 a8 a9 a10 a11 a12 a13 a14 a15 : ℕ) (fours : AreFours (a0 ∷ a1 ∷ a2 ∷ a3 ∷ a4 ∷ a5 ∷ a6 ∷ a7 ∷ a8 ∷ a9 ∷ a10 ∷ a11 ∷ a12 ∷ a13 ∷ a14 ∷ a15 ∷ [])) where
  quads_exchanged : bytes_turned (pairs_turned (number (a0 ∷ a1 ∷ a2 ∷ a3 ∷ a4 ∷ a5 ∷ a6 ∷ a7 ∷ a8 ∷ a9 ∷ a10 ∷ a11 ∷ a12 ∷ a13 ∷ a14 ∷ a15 ∷ []))) ≡ number (a3 ∷ a2 ∷ a1 ∷ a0 ∷ a7 ∷ a6 ∷ a5 ∷ a4 ∷ a11 ∷ a10 ∷ a9 ∷ a8 ∷ a15 ∷ a14 ∷ a13 ∷ a12 ∷ [])
  quads_exchanged = ap bytes_turned (pairs_exchanged a0 a1 a2 a3 a4 a5 a6 a7 a8 a9 a10 a11 a12 a13 a14 a15 fours) ∙ bytes_exchanged a1 a0 a3 a2 a5 a4 a7 a6 a9 a8 a11 a10 a13 a12 a15 a14 (pairs_fours a0 a1 a2 a3 a4 a5 a6 a7 a8 a9 a10 a11 a12 a13 a14 a15 fours)

  quad_at : (p : ℕ) → p < 16 → bytes_turned (pairs_turned (number (a0 ∷ a1 ∷ a2 ∷ a3 ∷ a4 ∷ a5 ∷ a6 ∷ a7 ∷ a8 ∷ a9 ∷ a10 ∷ a11 ∷ a12 ∷ a13 ∷ a14 ∷ a15 ∷ []))) / 16 ^ p % 16 ≡ number (a0 ∷ a1 ∷ a2 ∷ a3 ∷ a4 ∷ a5 ∷ a6 ∷ a7 ∷ a8 ∷ a9 ∷ a10 ∷ a11 ∷ a12 ∷ a13 ∷ a14 ∷ a15 ∷ []) / 16 ^ (p / 4 * 4 + (3 - p % 4)) % 16
  quad_at p below =
      ap (λ n. n / 16 ^ p % 16) quads_exchanged ∙ number-at (a3 ∷ a2 ∷ a1 ∷ a0 ∷ a7 ∷ a6 ∷ a5 ∷ a4 ∷ a11 ∷ a10 ∷ a9 ∷ a8 ∷ a15 ∷ a14 ∷ a13 ∷ a12 ∷ []) (quads_fours a0 a1 a2 a3 a4 a5 a6 a7 a8 a9 a10 a11 a12 a13 a14 a15 fours) p below
      ∙ below_16 (λ p. get_or (a3 ∷ a2 ∷ a1 ∷ a0 ∷ a7 ∷ a6 ∷ a5 ∷ a4 ∷ a11 ∷ a10 ∷ a9 ∷ a8 ∷ a15 ∷ a14 ∷ a13 ∷ a12 ∷ []) p 0 ≡ get_or (a0 ∷ a1 ∷ a2 ∷ a3 ∷ a4 ∷ a5 ∷ a6 ∷ a7 ∷ a8 ∷ a9 ∷ a10 ∷ a11 ∷ a12 ∷ a13 ∷ a14 ∷ a15 ∷ []) (p / 4 * 4 + (3 - p % 4)) 0) refl refl refl refl refl refl refl refl refl refl refl refl refl refl refl refl p below
      ∙ sym (number-at (a0 ∷ a1 ∷ a2 ∷ a3 ∷ a4 ∷ a5 ∷ a6 ∷ a7 ∷ a8 ∷ a9 ∷ a10 ∷ a11 ∷ a12 ∷ a13 ∷ a14 ∷ a15 ∷ []) fours (p / 4 * 4 + (3 - p % 4)) (omega (arith, below)))

module _ (n : ℕ) (small : n < 2 ^ 64) where
  whole : n ≡ number (n / 16 ^ 0 % 16 ∷ n / 16 ^ 1 % 16 ∷ n / 16 ^ 2 % 16 ∷ n / 16 ^ 3 % 16 ∷ n / 16 ^ 4 % 16 ∷ n / 16 ^ 5 % 16 ∷ n / 16 ^ 6 % 16 ∷ n / 16 ^ 7 % 16 ∷ n / 16 ^ 8 % 16 ∷ n / 16 ^ 9 % 16 ∷ n / 16 ^ 10 % 16 ∷ n / 16 ^ 11 % 16 ∷ n / 16 ^ 12 % 16 ∷ n / 16 ^ 13 % 16 ∷ n / 16 ^ 14 % 16 ∷ n / 16 ^ 15 % 16 ∷ [])
  whole = omega arith

  all_fours : AreFours (n / 16 ^ 0 % 16 ∷ n / 16 ^ 1 % 16 ∷ n / 16 ^ 2 % 16 ∷ n / 16 ^ 3 % 16 ∷ n / 16 ^ 4 % 16 ∷ n / 16 ^ 5 % 16 ∷ n / 16 ^ 6 % 16 ∷ n / 16 ^ 7 % 16 ∷ n / 16 ^ 8 % 16 ∷ n / 16 ^ 9 % 16 ∷ n / 16 ^ 10 % 16 ∷ n / 16 ^ 11 % 16 ∷ n / 16 ^ 12 % 16 ∷ n / 16 ^ 13 % 16 ∷ n / 16 ^ 14 % 16 ∷ n / 16 ^ 15 % 16 ∷ [])
  all_fours = (omega arith, (omega arith, (omega arith, (omega arith, (omega arith, (omega arith, (omega arith, (omega arith, (omega arith, (omega arith, (omega arith, (omega arith, (omega arith, (omega arith, (omega arith, (omega arith, tt))))))))))))))))

  pub pairs_at : (p : ℕ) → p < 16 → pairs_turned n / 16 ^ p % 16 ≡ n / 16 ^ (p / 2 * 2 + (1 - p % 2)) % 16
  pairs_at p below =
      subst (λ m. pairs_turned m / 16 ^ p % 16 ≡ m / 16 ^ (p / 2 * 2 + (1 - p % 2)) % 16) (sym whole)
      (pair_at (n / 16 ^ 0 % 16) (n / 16 ^ 1 % 16) (n / 16 ^ 2 % 16) (n / 16 ^ 3 % 16) (n / 16 ^ 4 % 16) (n / 16 ^ 5 % 16) (n / 16 ^ 6 % 16) (n / 16 ^ 7 % 16) (n / 16 ^ 8 % 16) (n / 16 ^ 9 % 16) (n / 16 ^ 10 % 16) (n / 16 ^ 11 % 16) (n / 16 ^ 12 % 16) (n / 16 ^ 13 % 16) (n / 16 ^ 14 % 16) (n / 16 ^ 15 % 16) all_fours p below)

  pub quads_at : (p : ℕ) → p < 16 → bytes_turned (pairs_turned n) / 16 ^ p % 16 ≡ n / 16 ^ (p / 4 * 4 + (3 - p % 4)) % 16
  quads_at p below =
      subst (λ m. bytes_turned (pairs_turned m) / 16 ^ p % 16 ≡ m / 16 ^ (p / 4 * 4 + (3 - p % 4)) % 16) (sym whole)
      (quad_at (n / 16 ^ 0 % 16) (n / 16 ^ 1 % 16) (n / 16 ^ 2 % 16) (n / 16 ^ 3 % 16) (n / 16 ^ 4 % 16) (n / 16 ^ 5 % 16) (n / 16 ^ 6 % 16) (n / 16 ^ 7 % 16) (n / 16 ^ 8 % 16) (n / 16 ^ 9 % 16) (n / 16 ^ 10 % 16) (n / 16 ^ 11 % 16) (n / 16 ^ 12 % 16) (n / 16 ^ 13 % 16) (n / 16 ^ 14 % 16) (n / 16 ^ 15 % 16) all_fours p below)

-- a digit of an element of c fours of bits, as a four of bits of its word
pub digit_place : (c p word : ℕ) → 0 < c → digit_of_elements (4 * c) c word p ≡ word / 16 ^ (p / c * c + (c - 1 - p % c)) % 16
digit_place c p word some =
    let low : p % c < c = omega (arith, some) in
    let first = p / c * c in
    let after = c - 1 - p % c in
    let start : p / c * (4 * c) ≡ 4 * first = grind arith in
    let wide : 4 * c ≡ 4 * (p % c) + 4 + 4 * after = omega (arith, low) in
    let n = word / 2 ^ (p / c * (4 * c)) in
    let moved : n ≡ word / 16 ^ first = ap (λ e. word / 2 ^ e) start ∙ ap (λ x. word / x) (pow_four first) in
    let cut : n % 2 ^ (4 * c) / 16 ^ after ≡ n / 16 ^ after % 2 ^ (4 * (p % c) + 4) =
    ap₂ (λ e x. n % 2 ^ e / x) wide (sym (pow_four after)) ∙ field_of n (4 * (p % c) + 4) (4 * after) ∙ ap (λ x. n / x % 2 ^ (4 * (p % c) + 4)) (pow_four after) in
    ap (λ x. x % 16) cut ∙ mod-mod-pow (n / 16 ^ after) (4 * (p % c)) 4
    ∙ ap (λ x. x % 16) (ap (λ x. x / 16 ^ after) moved ∙ div-div-eq-div-mul word (16 ^ first) (16 ^ after) ∙ ap (λ x. word / x) (sym (pow-add 16 first after)))

-- a word with the fours of bits of each element in the other order
abbrev turned_place : ℕ → ℕ → ℕ
turned_place c p = p / c * c + (c - 1 - p % c)

abbrev pub AreTurned : ℕ → ℕ → ℕ → Type 0
AreTurned c word new = (p : ℕ) → p < 16 → digit_of_elements (4 * c) c word p ≡ new / 16 ^ p % 16

there : (c word new : ℕ) → 0 < c → ((p : ℕ) → p < 16 → new / 16 ^ p % 16 ≡ word / 16 ^ turned_place c p % 16) → AreTurned c word new
there c word new some places p below = digit_place c p word some ∙ sym (places p below)

back : (c word new : ℕ) → 0 < c → ((p : ℕ) → p < 16 → new / 16 ^ p % 16 ≡ word / 16 ^ turned_place c p % 16)
    → ((p : ℕ) → p < 16 → turned_place c p < 16) → ((p : ℕ) → p < 16 → turned_place c (turned_place c p) ≡ p) → AreTurned c new word
back c word new some places inside twice p below =
    digit_place c p new some ∙ places (turned_place c p) (inside p below) ∙ ap (λ q. word / 16 ^ q % 16) (twice p below)

pub one_turned : (c word : ℕ) → c ≡ 1 → AreTurned c word word
one_turned c word is = rw is (there 1 word word (omega arith) (λ p below. ap (λ q. word / 16 ^ q % 16) (let e : p ≡ turned_place 1 p = omega arith in e)))

module _ (c word new : ℕ) (is : c ≡ 2) (places : (p : ℕ) → p < 16 → new / 16 ^ p % 16 ≡ word / 16 ^ (p / 2 * 2 + (1 - p % 2)) % 16) where
  pub pairs_there : AreTurned c word new
  pairs_there = rw is (there 2 word new (omega arith) places)

  pub pairs_back : AreTurned c new word
  pairs_back = rw is (back 2 word new (omega arith) places (λ p below. omega (arith, below)) (λ p below. omega (arith, below)))

module _ (c word new : ℕ) (is : c ≡ 4) (places : (p : ℕ) → p < 16 → new / 16 ^ p % 16 ≡ word / 16 ^ (p / 4 * 4 + (3 - p % 4)) % 16) where
  pub quads_there : AreTurned c word new
  quads_there = rw is (there 4 word new (omega arith) places)

  pub quads_back : AreTurned c new word
  quads_back = rw is (back 4 word new (omega arith) places (λ p below. omega (arith, below)) (λ p below. omega (arith, below)))

pub last_count : (c : ℕ) → IsTrue (c == 1 || c == 2 || c == 4) → c ≢ 1 → c ≢ 2 → c ≡ 4
last_count c is a b = grind arith

-- ---- eight digits in a list
digit_at : (xs : List ℕ) (word k : ℕ) → xs ≡ fours_of word 8 → k < 8 → get_or xs k 0 ≡ digit_glyph false (word / 16 ^ k % 16)
digit_at xs word k is below = ap (λ s. get_or s k 0) is ∙ get_or-map-range_with_len (λ i. digit_glyph false (word / 16 ^ i % 16)) 0 8 k k 0 below (omega arith)

below_8 : (P : ℕ → Type 0) → P 0 → P 1 → P 2 → P 3 → P 4 → P 5 → P 6 → P 7 → (p : ℕ) → p < 8 → P p
below_8 P p0 p1 p2 p3 p4 p5 p6 p7 p below =
    below_16 (λ p. p < 8 → P p) (λ _. p0) (λ _. p1) (λ _. p2) (λ _. p3) (λ _. p4) (λ _. p5) (λ _. p6) (λ _. p7)
    (λ h. absurd (omega (arith, h))) (λ h. absurd (omega (arith, h))) (λ h. absurd (omega (arith, h))) (λ h. absurd (omega (arith, h)))
    (λ h. absurd (omega (arith, h))) (λ h. absurd (omega (arith, h))) (λ h. absurd (omega (arith, h))) (λ h. absurd (omega (arith, h)))
    p (omega (arith, below)) below

lowest_fours : (word k : ℕ) → k < 8 → word % 2 ^ 32 / 16 ^ k % 16 ≡ word / 16 ^ k % 16
lowest_fours word = below_8 (λ k. word % 2 ^ 32 / 16 ^ k % 16 ≡ word / 16 ^ k % 16)
    (omega arith) (omega arith) (omega arith) (omega arith) (omega arith) (omega arith) (omega arith) (omega arith)

pub eight_written : (xs ys zs : List ℕ) (start word k : ℕ) → start ≤ length xs → k < 8 → ys ≡ fours_of (bit_and word 0xFFFFFFFF) 8
    → get_or (take start xs ++ (ys ++ zs)) (start + k) 0 ≡ digit_glyph false (word / 16 ^ k % 16)
eight_written xs ys zs start word k within below is =
    let long : length (take start xs) ≡ start = simp length-take (omega arith) in
    let eight : length ys ≡ 8 = ap (λ s. length s) is in
    let back : start + k - start ≡ k = omega arith in
    get_or-append_right (take start xs) (ys ++ zs) start (start + k) 0 long (omega arith)
    ∙ ap (λ i. get_or (ys ++ zs) i 0) back ∙ get_or_append_left ys zs 0 k (omega arith)
    ∙ digit_at ys (bit_and word 0xFFFFFFFF) k is below
    ∙ ap (λ n. digit_glyph false (n / 16 ^ k % 16)) (and_mask word 32) ∙ ap (digit_glyph false) (lowest_fours word k below)

low_of_two : (low high k : ℕ) → high < 2 ^ 32 → k < 8 → (low + high * 2 ^ 32 % 2 ^ 64) / 16 ^ k % 16 ≡ low / 16 ^ k % 16
low_of_two low high k small below =
    below_8 (λ k. (low + high * 2 ^ 32 % 2 ^ 64) / 16 ^ k % 16 ≡ low / 16 ^ k % 16)
    (omega arith) (omega arith) (omega arith) (omega arith) (omega arith) (omega arith) (omega arith) (omega arith) k below

high_of_two : (low high k : ℕ) → low < 2 ^ 32 → high < 2 ^ 32 → k < 8 → (low + high * 2 ^ 32 % 2 ^ 64) / 16 ^ (8 + k) % 16 ≡ high / 16 ^ k % 16
high_of_two low high k low_small high_small below =
    let whole : (low + high * 2 ^ 32 % 2 ^ 64) / 2 ^ 32 ≡ high = omega arith in
    ap (λ x. (low + high * 2 ^ 32 % 2 ^ 64) / x % 16) (pow-add 16 8 k) ∙ ap (λ x. x % 16) (sym (div-div-eq-div-mul (low + high * 2 ^ 32 % 2 ^ 64) (2 ^ 32) (16 ^ k)) ∙ ap (λ x. x / 16 ^ k) whole)

pub sixteen_read : (digits : List ℕ) (low high : ℕ) → low < 2 ^ 32 → high < 2 ^ 32
    → ((k : ℕ) → k < 8 → get_or digits (0 + k) 0 ≡ digit_glyph false (low / 16 ^ k % 16))
    → ((k : ℕ) → k < 8 → get_or digits (8 + k) 0 ≡ digit_glyph false (high / 16 ^ k % 16))
    → (i : ℕ) → i < 16 → get_or digits i 0 ≡ digit_glyph false ((low + high * 2 ^ 32 % 2 ^ 64) / 16 ^ i % 16)
sixteen_read digits low high low_small high_small first second i below =
    elim (cases_lt i 8) [
      | inl before ↦
          (let e : 0 + i ≡ i = omega arith in ap (λ j. get_or digits j 0) (sym e)) ∙ first i before
          ∙ ap (digit_glyph false) (sym (low_of_two low high i high_small before))
      | inr past ↦
          let k = i - 8 in
          let place : 8 + k ≡ i = omega (arith, past) in
          ap (λ j. get_or digits j 0) (sym place) ∙ second k (omega (arith, past, below))
          ∙ ap (digit_glyph false) (sym (high_of_two low high k low_small high_small (omega (arith, past, below)))
          ∙ ap (λ j. (low + high * 2 ^ 32 % 2 ^ 64) / 16 ^ j % 16) place)
    ]

-- eight digits that are those of fours of bits
abbrev pub eight_at : List ℕ → ℕ → List ℕ
eight_at xs i =
    get_or xs i 0 ∷ get_or xs (i + 1) 0 ∷ get_or xs (i + 2) 0 ∷ get_or xs (i + 3) 0 ∷ get_or xs (i + 4) 0 ∷ get_or xs (i + 5) 0
    ∷ get_or xs (i + 6) 0 ∷ get_or xs (i + 7) 0 ∷ []

eight_place : (xs : List ℕ) (i k : ℕ) → k < 8 → get_or xs (i + k) 0 ≡ get_or (eight_at xs i) k 0
eight_place xs i k below =
    let first : i + 0 ≡ i = omega arith in
    below_8 (λ k. get_or xs (i + k) 0 ≡ get_or (eight_at xs i) k 0) (ap (λ j. get_or xs j 0) first) refl refl refl refl refl refl refl k below

pub eight_read : (xs : List ℕ) (i eight result fours : ℕ) → ((k : ℕ) → get_or xs k 0 < 256) → eight ≡ from_le_bytes w64 (eight_at xs i)
    → result ≡ eight → to_le_bytes w64 result ≡ fours_of fours 8 → (k : ℕ) → k < 8 → get_or xs (i + k) 0 ≡ digit_glyph false (fours / 16 ^ k % 16)
eight_read xs i eight result fours bytes is same spelled k below =
    let few : (j : ℕ) → get_or (eight_at xs i) j 0 < 256 = λ j. elim (cases_lt j 8) [
      | inl inside ↦ subst (λ x. x < 256) (eight_place xs i j inside) (bytes (i + j))
      | inr past ↦ rw (get_or_past (eight_at xs i) j 0 (omega (arith, past))) (omega arith)
    ] in
    let list : eight_at xs i ≡ fours_of fours 8 = sym (le_bytes_8 (eight_at xs i) eight refl few is) ∙ ap (to_le_bytes w64) (sym same) ∙ spelled in
    eight_place xs i k below ∙ digit_at (eight_at xs i) fours k list below
