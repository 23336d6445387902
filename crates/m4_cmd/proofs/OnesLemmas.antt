-- How many entries of a row over GF(2) are ones, word by word.
use Rattle.std.proofs.Common.{◌≡◌, ℕ, zero, suc, ◌+◌, ◌-◌, ◌*◌, ◌/◌, ◌%◌, ◌^◌, ◌<◌, ◌≤◌, List, [], ◌∷◌, ◌++◌, length, take, drop, get_or, refl, sym, ap, ap₂, ◌∙◌, arith, count_by, nat_lt, cond, ltb, take-add}
use Rattle.std.proofs.lemmas.List.{take_all, get_or-drop}
use Rattle.std.proofs.lemmas.List.Sums.{sum_by-cons, sum_by-append, sum_by-take-le, count_by-le-length}
use Rattle.std.specs.Int.{bit_at}
use Rattle.std.specs.Int.RustNames.{count_ones}
use native.Mathlib.Nat.{pow-suc, div-div-eq-div-mul, mul_comm, div-one}
use lib.Count.{ones_step}

-- the bits of the half are those above the lowest
bit_of_half : (word j : ℕ) → bit_at (word / 2) j ≡ bit_at word (suc j)
bit_of_half word j = ap (λ n. n % 2) (div-div-eq-div-mul word 2 (2 ^ j) ∙ ap (λ k. word / k) (mul_comm 2 (2 ^ j) ∙ sym (pow-suc 2 j)))

half_less : (n word : ℕ) → word < 2 ^ suc n → word / 2 < 2 ^ n
half_less n word small = let double = pow-suc 2 n in omega (arith, small, double)

lowest_bit : (word : ℕ) → bit_at word 0 ≡ word % 2
lowest_bit word = ap (λ n. n % 2) (div-one word)

-- a digit that is 0 or 1
one_or_none : (x : ℕ) → x < 2 → cond (ltb 0 x) 1 0 ≡ x
one_or_none zero small = refl
one_or_none (suc zero) small = refl
one_or_none (suc (suc x)) small = absurd (omega (arith, small))

-- no bit is a one
none : (n word : ℕ) → word < 2 ^ n → ((j : ℕ) → j < n → bit_at word j ≡ 0) → count_ones word ≡ 0
unfolding count_ones
none zero word small zeros = let zero_word : word ≡ 0 = omega (arith, small) in rw zero_word refl
none (suc n) word small zeros =
    ones_step word ∙ ap₂ (λ a b. a + b) (sym (lowest_bit word) ∙ zeros 0 (omega arith))
    (none n (word / 2) (half_less n word small) (λ j below. bit_of_half word j ∙ zeros (suc j) (omega (arith, below))))

-- a word's ones are as many as its digits that aren't zero
pub ones_of_digits : (n word : ℕ) (xs : List ℕ) → word < 2 ^ n → ((j : ℕ) → j < n → bit_at word j ≡ get_or xs j 0) → count_by (nat_lt 0) (take n xs) ≡ count_ones word
ones_of_digits zero word xs small are = sym (none 0 word small (λ j below. absurd (omega (arith, below))))
ones_of_digits (suc n) word [] small are = sym (none (suc n) word small are)
ones_of_digits (suc n) word (x ∷ xs) small are =
    let lowest : x ≡ word % 2 = sym (are 0 (omega arith)) ∙ lowest_bit word in
    let rest = ones_of_digits n (word / 2) xs (half_less n word small) (λ j below. bit_of_half word j ∙ are (suc j) (omega (arith, below))) in
    sum_by-cons (λ x. cond (ltb 0 x) 1 0) x (take n xs)
    ∙ ap₂ (λ a b. a + b) (one_or_none x (omega (arith, lowest)) ∙ lowest) rest ∙ sym (ones_step word)

-- one more word of a row
pub ones_of_more : (xs : List ℕ) (w word : ℕ) → word < 2 ^ 64 → ((j : ℕ) → j < 64 → bit_at word j ≡ get_or xs (w * 64 + j) 0)
    → count_by (nat_lt 0) (take ((w + 1) * 64) xs) ≡ count_by (nat_lt 0) (take (w * 64) xs) + count_ones word
ones_of_more xs w word small are =
    let behind = ones_of_digits 64 word (drop (w * 64) xs) small (λ j below. are j below ∙ sym (get_or-drop (w * 64) xs j 0)) in
    let next : (w + 1) * 64 ≡ w * 64 + 64 = omega arith in
    ap (λ n. count_by (nat_lt 0) (take n xs)) next ∙ ap (count_by (nat_lt 0)) (take-add (w * 64) 64 xs)
    ∙ sum_by-append (λ x. cond (ltb 0 x) 1 0) (take (w * 64) xs) (take 64 (drop (w * 64) xs)) ∙ ap (λ n. count_by (nat_lt 0) (take (w * 64) xs) + n) behind

-- all words of a row
pub ones_of_all : (xs : List ℕ) (n words : ℕ) → length xs ≡ n → n ≤ words * 64 → count_by (nat_lt 0) (take (words * 64) xs) ≡ count_by (nat_lt 0) xs
ones_of_all xs n words long all = ap (count_by (nat_lt 0)) (take_all (words * 64) xs (omega (arith, long, all)))

-- the ones of some words are at most as many as the row has entries
pub few_ones : (xs : List ℕ) (n k : ℕ) → length xs ≡ n → count_by (nat_lt 0) (take k xs) ≤ n
few_ones xs n k long =
    let part = sum_by-take-le (λ x. cond (ltb 0 x) 1 0) xs k in
    let all = count_by-le-length (nat_lt 0) xs in
    omega (arith, part, all, long)
