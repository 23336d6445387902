-- The digits of rows: how many there are, and which may stand where.
use Rattle.std.proofs.Common.{◌≡◌, ℕ, zero, suc, ◌+◌, ◌-◌, ◌*◌, ◌/◌, ◌%◌, ◌^◌, ◌<◌, ◌≤◌, List, [], ◌∷◌, ◌++◌, flat_map, length, get_or, refl, sym, ◌∙◌, ap, ap₂, subst, arith, inl, inr, length-append}
use Rattle.std.proofs.lemmas.Bool.{cases_lt}
use Rattle.std.proofs.lemmas.List.{get_or_append_left, get_or-append_right, get_or_past}
use Rattle.std.proofs.lemmas.List.FromFn.{length-map-range_with_len, get_or-map-range_with_len}
use Rattle.std.proofs.Math.Nat.{div-lt_iff_lt-mul, div-mul-le_self, mul-le-mul_right}
use Rattle.std.proofs.lemmas.Nat.{pow_pos, div-add-mod'}
use Rattle.m4_model.specs.Field.{Field}
use Rattle.m4_model.specs.Headed.{Spelling, Bits, Fours, Elements, field_of, row_digits, element_digits, digit_of_four, digits_per_element}
use Rattle.m4_etext.specs.Pieces.{digits_in, MayStand, IsRow}

-- lists of one length, end to end
pub length-flat : (f : ℕ → List ℕ) (k : ℕ) → ((x : ℕ) → length (f x) ≡ k) → (xs : List ℕ) → length (flat_map f xs) ≡ length xs * k
length-flat f k long [] = let e : 0 * k ≡ 0 = omega arith in sym e
length-flat f k long (x ∷ xs) =
    let e : suc (length xs) * k ≡ k + length xs * k = omega arith in
    length-append (f x) (flat_map f xs) ∙ ap₂ (λ a b. a + b) (long x) (length-flat f k long xs) ∙ sym e

pub get_or-flat : (f : ℕ → List ℕ) (k : ℕ) → ((x : ℕ) → length (f x) ≡ k) → (xs : List ℕ) (j i : ℕ) → j < length xs → i < k
    → get_or (flat_map f xs) (j * k + i) 0 ≡ get_or (f (get_or xs j 0)) i 0
get_or-flat f k long [] j i below inside = absurd (omega arith)
get_or-flat f k long (x ∷ xs) zero i below inside =
    let e : 0 * k + i ≡ i = omega arith in
    ap (λ n. get_or (f x ++ flat_map f xs) n 0) e ∙ get_or_append_left (f x) (flat_map f xs) 0 i (let l = long x in omega (arith, l))
get_or-flat f k long (x ∷ xs) (suc j) i below inside =
    let e : suc j * k + i ≡ k + (j * k + i) = omega arith in
    let s : k + (j * k + i) - k ≡ j * k + i = omega arith in
    ap (λ n. get_or (f x ++ flat_map f xs) n 0) e
    ∙ get_or-append_right (f x) (flat_map f xs) k (k + (j * k + i)) 0 (long x) (omega arith)
    ∙ ap (λ n. get_or (flat_map f xs) n 0) s
    ∙ get_or-flat f k long xs j i (omega (arith, below)) inside

pub length-element_digits : (F : Field) (x : ℕ) → length (element_digits F x) ≡ digits_per_element F
length-element_digits F x = length-map-range_with_len (λ i. x / 16 ^ (digits_per_element F - 1 - i) % 16) 0 (digits_per_element F)

pub get_or-element_digits : (F : Field) (x i : ℕ) → i < digits_per_element F
    → get_or (element_digits F x) i 0 ≡ x / 16 ^ (digits_per_element F - 1 - i) % 16
get_or-element_digits F x i below =
    get_or-map-range_with_len (λ i. x / 16 ^ (digits_per_element F - 1 - i) % 16) 0 (digits_per_element F) i i 0 below (omega arith)

-- how many digits a row has
pub length-row_digits : (S : Spelling) (entries : List ℕ) → length (row_digits S entries) ≡ digits_in S (length entries)
length-row_digits Bits entries = refl
length-row_digits Fours entries = length-map-range_with_len (digit_of_four entries) 0 ((length entries + 3) / 4)
length-row_digits (Elements F) entries = length-flat (element_digits F) (digits_per_element F) (length-element_digits F) entries

-- a digit of four entries
pub get_or-fours : (entries : List ℕ) (t : ℕ) → t < digits_in Fours (length entries) → get_or (row_digits Fours entries) t 0 ≡ digit_of_four entries t
get_or-fours entries t below = get_or-map-range_with_len (digit_of_four entries) 0 ((length entries + 3) / 4) t t 0 below (omega arith)

-- an entry past the last column
pub bit_or_none : (n : ℕ) (entries : List ℕ) → IsRow (field_of Bits) n entries → (j : ℕ) → (get_or entries j 0 < 2) × (n ≤ j → get_or entries j 0 ≡ 0)
bit_or_none n entries is j =
    let wide = is.wide in
    elim (cases_lt j n) [
      | inl inside ↦ (is.elements j inside, λ past. absurd (omega arith))
      | inr past ↦
          let none = get_or_past entries j 0 (omega (arith, wide)) in
          (omega (arith, none), λ _. none)
    ]

four_bounded : (n : ℕ) (entries : List ℕ) → IsRow (field_of Bits) n entries → (t : ℕ) → t < (n + 3) / 4
    → (digit_of_four entries t < 16) × (digit_of_four entries t < 2 ^ (n - 4 * t))
four_bounded n entries is t below =
    let a = bit_or_none n entries is (4 * t) in
    let b = bit_or_none n entries is (4 * t + 1) in
    let c = bit_or_none n entries is (4 * t + 2) in
    let d = bit_or_none n entries is (4 * t + 3) in
    let small : digit_of_four entries t < 16 = omega (arith, a.0, b.0, c.0, d.0) in
    (small, at (n - 4 * t) refl small)
  where
    at : (left : ℕ) → n - 4 * t ≡ left → digit_of_four entries t < 16 → digit_of_four entries t < 2 ^ left
    at zero is_left small = absurd (omega arith)
    at (suc zero) is_left small =
        let a = bit_or_none n entries is (4 * t) in
        let b = bit_or_none n entries is (4 * t + 1) in
        let c = bit_or_none n entries is (4 * t + 2) in
        let d = bit_or_none n entries is (4 * t + 3) in
        omega (arith, a.0, b.1 (omega arith), c.1 (omega arith), d.1 (omega arith))
    at (suc (suc zero)) is_left small =
        let a = bit_or_none n entries is (4 * t) in
        let b = bit_or_none n entries is (4 * t + 1) in
        let c = bit_or_none n entries is (4 * t + 2) in
        let d = bit_or_none n entries is (4 * t + 3) in
        omega (arith, a.0, b.0, c.1 (omega arith), d.1 (omega arith))
    at (suc (suc (suc zero))) is_left small =
        let a = bit_or_none n entries is (4 * t) in
        let b = bit_or_none n entries is (4 * t + 1) in
        let c = bit_or_none n entries is (4 * t + 2) in
        let d = bit_or_none n entries is (4 * t + 3) in
        omega (arith, a.0, b.0, c.0, d.1 (omega arith))
    at (suc (suc (suc (suc left)))) is_left small =
        let p = pow_pos left in
        omega (arith, small, p)

-- the digits of elements of a row
pub get_or-elements : (F : Field) (n : ℕ) (entries : List ℕ) → length entries ≡ n → 0 < digits_per_element F → (t : ℕ) → t < n * digits_per_element F
    → get_or (row_digits (Elements F) entries) t 0 ≡ get_or entries (t / digits_per_element F) 0 / 16 ^ (digits_per_element F - 1 - t % digits_per_element F) % 16
get_or-elements F n entries wide some t below =
    let k = digits_per_element F in
    let j = t / k in
    let i = t % k in
    let place : t ≡ j * k + i = sym (div-add-mod' t k) in
    let inside : j < n = (div-lt_iff_lt-mul some).1 below in
    let small : i < k = omega (arith, some) in
    ap (λ p. get_or (row_digits (Elements F) entries) p 0) place
    ∙ get_or-flat (element_digits F) k (length-element_digits F) entries j i (omega (arith, wide, inside)) small
    ∙ get_or-element_digits F (get_or entries j 0) i small

-- digits of a row may stand where they do
pub may_stand : (S : Spelling) (n : ℕ) (entries : List ℕ) → IsRow (field_of S) n entries → (t : ℕ) → t < digits_in S n
    → (get_or (row_digits S entries) t 0 < 16) × MayStand S n t (get_or (row_digits S entries) t 0)
may_stand Bits n entries is t below = let e = is.elements t below in (omega (arith, e), e)
may_stand Fours n entries is t below =
    let wide = is.wide in
    let e = get_or-fours entries t (subst (λ w. t < (w + 3) / 4) (sym wide) below) in
    let f = four_bounded n entries is t below in
    (subst (λ v. v < 16) (sym e) f.0, subst (λ v. v < 2 ^ (n - 4 * t)) (sym e) f.1)
may_stand (Elements F) n entries is t below =
    let k = digits_per_element F in
    let some : 0 < k = positive n k t below in
    let e = get_or-elements F n entries is.wide some t below in
    let x = get_or entries (t / k) 0 in
    let inside : t / k < n = (div-lt_iff_lt-mul some).1 below in
    let element : x < 2 ^ F.degree = is.elements (t / k) inside in (
      subst (λ v. v < 16) (sym e) (omega arith),
      λ first. let z : k - 1 - 0 ≡ k - 1 = omega arith in subst (λ v. v * 16 ^ (k - 1) < 2 ^ F.degree) (sym (e ∙ ap (λ i. x / 16 ^ (k - 1 - i) % 16) first ∙ ap (λ i. x / 16 ^ i % 16) z)) (highest x (16 ^ (k - 1)) (2 ^ F.degree) element),
    )
  where
    positive : (n k t : ℕ) → t < n * k → 0 < k
    positive n zero t below = absurd (omega arith)
    positive n (suc k) t below = omega arith

    highest : (x p q : ℕ) → x < q → x / p % 16 * p < q
    highest x p q small =
        let a : x / p % 16 ≤ x / p = omega arith in
        let b : x / p % 16 * p ≤ x / p * p = mul-le-mul_right p a in
        let c : x / p * p ≤ x = div-mul-le_self x p in
        omega (arith, b, c)
