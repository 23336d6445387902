-- The words of a level's windows.
use Rattle.std.proofs.Common.{◌≡◌, ℕ, ◌+◌, ◌-◌, ◌*◌, ◌%◌, ◌≤◌, ap, ◌∙◌, arith}
use Rattle.std.proofs.Math.Nat.{mul_assoc, mul_comm, add-mul, mul-add, mul-le-mul_left}
use Rattle.m4_model.specs.Text.{words_per_row}
use Rattle.m4_model.specs.Recursion.{level_words}
use Rattle.m4_mzd.specs.Span.{Span, without_first}

-- the words of so many rows
pub words_of_rows : (m n : ℕ) → n % 64 ≡ 0 → m * words_per_row n * 64 ≡ m * n
words_of_rows m n whole =
    let wide : words_per_row n * 64 ≡ n = omega (arith, whole) in
    mul_assoc m (words_per_row n) 64 ∙ ap (λ k. m * k) wide

-- the words of a level are those of its windows
pub level_words-windows : (m l n : ℕ) → l % 64 ≡ 0 → n % 64 ≡ 0
    → m * words_per_row l + l * words_per_row n + m * words_per_row n + m * words_per_row n ≡ level_words m l n
level_words-windows m l n inner cols =
    let first = words_of_rows m l inner in
    let second = words_of_rows l n cols in
    let third = words_of_rows m n cols in
    omega arith

-- four windows that were cut off one after the other
pub four_cut : (a b c d e : Span) (first second third fourth all : ℕ) → b ≡ without_first first a → c ≡ without_first second b
    → d ≡ without_first third c → e ≡ without_first fourth d → first + second + third + fourth ≡ all → e ≡ without_first all a
four_cut a b c d e first second third fourth all one two three four sum =
    let skip : a.skip + first + second + third + fourth ≡ a.skip + all = omega arith in
    let left : a.left - first - second - third - fourth ≡ a.left - all = omega arith in
    four
    ∙ ap (without_first fourth) (three ∙ ap (without_first third) (two ∙ ap (without_first second) one))
    ∙ (λ i. record a { skip = skip i; left = left i })

-- quarters of two sides have a fourth of the entries
pub quarter_sides : (h k m l : ℕ) → h + h ≤ m → k + k ≤ l → 4 * (h * k) ≤ m * l
quarter_sides h k m l rows cols =
    let first : (h + h) * (k + k) ≤ (h + h) * l = mul-le-mul_left (h + h) cols in
    let second : l * (h + h) ≤ l * m = mul-le-mul_left l rows in
    let turned : (h + h) * l ≡ l * (h + h) = mul_comm (h + h) l in
    let back : l * m ≡ m * l = mul_comm l m in
    let parts : (h + h) * (k + k) ≡ h * (k + k) + h * (k + k) = add-mul h h (k + k) in
    let each : h * (k + k) ≡ h * k + h * k = mul-add h k k in
    omega arith
