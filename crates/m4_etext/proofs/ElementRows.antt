-- Elements of an extension field, read digit by digit.
use Rattle.std.proofs.Common.{◌≡◌, ℕ, suc, ◌+◌, ◌-◌, ◌*◌, ◌/◌, ◌%◌, ◌^◌, ◌<◌, ◌≤◌, false, List, [], length, get_or, set, refl, sym, ◌∙◌, ap, ap₂, subst, arith, inl, inr, get_or-set_same, get_or-set_other}
use Rattle.std.specs.Fmt.{digit_glyph}
use Rattle.std.proofs.Math.Nat.{div-div-eq-div-mul, div-lt_iff_lt-mul, mul-div_cancel, mul-le-mul_right}
use Rattle.std.proofs.lemmas.Nat.{pow-add, pow_pos, div-add-mod'}
use Rattle.std.proofs.lemmas.Bool.{cases_eq, cases_lt}
use Rattle.std.proofs.lemmas.List.{length-set}
use Rattle.m4_model.specs.Field.{Field}
use Rattle.m4_model.specs.Matrix.{Matrix, IsMatrix, at, with_entry}
use Rattle.m4_model.specs.Headed.{Elements, row_digits, digits_per_element}
use Rattle.m4_etext.specs.Place.{IsValue}
use Rattle.m4_etext.specs.Pieces.{MayStand, ReadsDigits}
use Rattle.m4_etext.proofs.RowDigits.{get_or-elements}
use Rattle.m4_etext.proofs.Rows.{row_is}
use Rattle.m4_etext.proofs.BitRows.{front_many, pow_four}

some_pow : (x : ℕ) → 0 < 16 ^ x
some_pow x = subst (λ p. 0 < p) (pow_four x) (pow_pos (4 * x))

-- An element with another digit, behind which b zeros stand.
abbrev pub changed : ℕ → ℕ → ℕ → ℕ
changed x v b = (x / 16 ^ (b + 1) * 16 + v) * 16 ^ b

-- that digit, and those before it
digit_here : (x v b : ℕ) → v < 16 → changed x v b / 16 ^ b % 16 ≡ v
digit_here x v b small =
    let e : changed x v b / 16 ^ b ≡ x / 16 ^ (b + 1) * 16 + v = mul-div_cancel (x / 16 ^ (b + 1) * 16 + v) (some_pow b) in
    let m : (x / 16 ^ (b + 1) * 16 + v) % 16 ≡ v = omega arith in
    ap (λ y. y % 16) e ∙ m

digit_before : (x v b d : ℕ) → v < 16 → changed x v b / 16 ^ (b + suc d) % 16 ≡ x / 16 ^ (b + suc d) % 16
digit_before x v b d small =
    let X = x / 16 ^ (b + 1) in
    let e : changed x v b / 16 ^ b ≡ X * 16 + v = mul-div_cancel (X * 16 + v) (some_pow b) in
    let next : suc d ≡ 1 + d = omega arith in
    let one : 16 ^ suc d ≡ 16 * 16 ^ d = ap (λ k. 16 ^ k) next ∙ pow-add 16 1 d in
    let third : (X * 16 + v) / 16 ≡ X = omega arith in
    let whole : b + suc d ≡ (b + 1) + d = omega arith in
    let left : changed x v b / 16 ^ (b + suc d) ≡ X / 16 ^ d =
    ap (λ p. changed x v b / p) (pow-add 16 b (suc d)) ∙ sym (div-div-eq-div-mul (changed x v b) (16 ^ b) (16 ^ suc d))
    ∙ ap₂ (λ y p. y / p) e one ∙ sym (div-div-eq-div-mul (X * 16 + v) 16 (16 ^ d)) ∙ ap (λ y. y / 16 ^ d) third in
    let right : x / 16 ^ (b + suc d) ≡ X / 16 ^ d =
    ap (λ k. x / 16 ^ k) whole ∙ ap (λ p. x / p) (pow-add 16 (b + 1) d) ∙ sym (div-div-eq-div-mul x (16 ^ (b + 1)) (16 ^ d)) in
    ap (λ y. y % 16) (left ∙ sym right)

-- it is an element where it has a digit before
pub changed_small : (e x v b : ℕ) → x < 2 ^ e → v < 16 → 4 * (b + 1) ≤ e → changed x v b < 2 ^ e
changed_small e x v b element small room =
    let P = 16 ^ (b + 1) in
    let Q = 2 ^ (e - 4 * (b + 1)) in
    let split : e ≡ (e - 4 * (b + 1)) + 4 * (b + 1) = omega arith in
    let whole : 2 ^ e ≡ Q * P = ap (λ k. 2 ^ k) split ∙ pow-add 2 (e - 4 * (b + 1)) (4 * (b + 1)) ∙ ap (λ p. Q * p) (pow_four (b + 1)) in
    let X = x / P in
    let below : X < Q = (div-lt_iff_lt-mul (some_pow (b + 1))).1 (subst (λ y. x < y) whole element) in
    let step : P ≡ 16 ^ b * 16 = pow-add 16 b 1 in
    let a : suc X * P ≤ Q * P = mul-le-mul_right P below in
    let c : suc X * P ≡ (X * 16 + 16) * 16 ^ b = ap (λ p. suc X * p) step ∙ arranged X (16 ^ b) in
    let d : suc (X * 16 + v) * 16 ^ b ≤ (X * 16 + 16) * 16 ^ b = mul-le-mul_right (16 ^ b) (omega (arith, small)) in
    let f : suc (X * 16 + v) * 16 ^ b ≡ (X * 16 + v) * 16 ^ b + 16 ^ b = omega arith in
    let z = some_pow b in
    omega (arith, whole, a, c, d, f, z)
  where
    arranged : (x p : ℕ) → suc x * (p * 16) ≡ (x * 16 + 16) * p
    arranged x p = grind arith

-- the first digit alone
first_is : (v b : ℕ) → changed 0 v b ≡ v * 16 ^ b
first_is v b =
    let z : 0 / 16 ^ (b + 1) ≡ 0 = none (16 ^ (b + 1)) (some_pow (b + 1)) in
    let e : 0 * 16 + v ≡ v = omega arith in
    ap (λ y. (y * 16 + v) * 16 ^ b) z ∙ ap (λ y. y * 16 ^ b) e
  where
    none : (p : ℕ) → 0 < p → 0 / p ≡ 0
    none p some = let l : 0 / p < 1 = (div-lt_iff_lt-mul some).1 (omega (arith, some)) in omega (arith, l)

-- what is known where a digit is read
pub record IsReading (F : Field) (A : Matrix) (r t k x v : ℕ) (bytes : List ℕ) : Type 0 where
  pub matrix : IsMatrix A
  pub over : A.field ≡ F
  pub in_rows : r < A.rows
  pub in_line : t < A.cols * k
  pub some : 0 < length bytes
  pub is : IsValue (get_or bytes 0 0) v
  pub digits : k ≡ digits_per_element F
  pub positive : 0 < k
  pub none_yet : t % k ≡ 0 → x ≡ 0
  pub so_far : 0 < t % k → x ≡ at A r (t / k)
  pub element : x < 2 ^ F.degree

-- a digit that may stand there makes an element
pub digit_fits : (F : Field) (A : Matrix) (r t k x v w : ℕ) (bytes : List ℕ) → IsReading F A r t k x v bytes → IsValue (get_or bytes 0 0) w → v ≡ w → MayStand (Elements F) A.cols t w
    → changed x v (k - 1 - t % k) < 2 ^ F.degree
digit_fits F A r t k x v w bytes g is same stands =
    let digits = g.digits in
    let small = g.is.small in
    let positive = g.positive in
    elim (cases_lt 0 (t % k)) [
      | inl some ↦ changed_small F.degree x v (k - 1 - t % k) g.element small (omega (arith, digits, some, positive))
      | inr none ↦
          let start : t % k ≡ 0 = omega arith in
          let fits = stands (subst (λ d. t % d ≡ 0) digits start) in
          let last : k - 1 - t % k ≡ digits_per_element F - 1 = omega (arith, start, digits) in
          subst (λ y. y < 2 ^ F.degree) (sym (ap (λ y. changed y v (k - 1 - t % k)) (g.none_yet start) ∙ first_is v (k - 1 - t % k) ∙ ap₂ (λ a b. a * 16 ^ b) same last)) fits
    ]

pub digit_taken : (F : Field) (A : Matrix) (r t k x v : ℕ) (bytes : List ℕ) → IsReading F A r t k x v bytes → changed x v (k - 1 - t % k) < 2 ^ F.degree
    → ReadsDigits (Elements F) bytes A (with_entry A r (t / k) (changed x v (k - 1 - t % k))) r t 1
digit_taken F A r t k x v bytes g fits =
    let old = get_or A.entries r [] in
    let j = t / k in
    let b = k - 1 - t % k in
    let new = changed x v (k - 1 - t % k) in
    let es = set old j new in
    let old_is = row_is A r g.matrix g.in_rows in
    let old_wide : length old ≡ A.cols = old_is.wide in
    let wide : length es ≡ A.cols = length-set old j new ∙ old_wide in
    let inside : j < A.cols = (div-lt_iff_lt-mul g.positive).1 g.in_line in
    let some : 0 < digits_per_element F = let p = g.positive in let d = g.digits in omega (arith, p, d) in
    let in_line : t + 1 ≤ A.cols * digits_per_element F = let l = subst (λ d. t < A.cols * d) g.digits g.in_line in omega (arith, l) in
    let small = g.is.small in
    let here : get_or es j 0 ≡ new = get_or-set_same old j new 0 (omega (arith, old_wide, inside)) in
    let before_is : (i : ℕ) → i < t → get_or (row_digits (Elements F) es) i 0 ≡ get_or (row_digits (Elements F) old) i 0 = λ i below.
    get_or-elements F A.cols es wide some i (omega (arith, below, in_line))
    ∙ (subst (λ d. get_or es (i / d) 0 / 16 ^ (d - 1 - i % d) % 16 ≡ get_or old (i / d) 0 / 16 ^ (d - 1 - i % d) % 16) g.digits (elim (cases_eq (i / k) j) [
      | inr away ↦ ap (λ y. y / 16 ^ (k - 1 - i % k) % 16) (get_or-set_other old j (i / k) new 0 away)
      | inl same ↦
          let p = div-add-mod' i k in
          let q = div-add-mod' t k in
          let s = ap (λ y. y * k) same in
          let front : i % k < t % k = omega (arith, p, q, s, below) in
          let d = t % k - i % k - 1 in
          let positive = g.positive in
          let small_t : t % k < k = omega (arith, positive) in
          let place : k - 1 - i % k ≡ (k - 1 - t % k) + suc d = omega (arith, front, small_t) in
          let x_is : x ≡ get_or old j 0 = g.so_far (omega (arith, front)) in
          ap (λ y. y / 16 ^ (k - 1 - i % k) % 16) (ap (λ y. get_or es y 0) same ∙ here) ∙ ap (λ y. new / 16 ^ y % 16) place
          ∙ digit_before x v (k - 1 - t % k) d small ∙ ap (λ y. x / 16 ^ y % 16) (sym place)
          ∙ ap (λ y. y / 16 ^ (k - 1 - i % k) % 16) (x_is ∙ ap (λ y. get_or old y 0) (sym same))
    ]))
    ∙ sym (get_or-elements F A.cols old old_wide some i (omega (arith, below, in_line))) in
    let here_is : get_or (row_digits (Elements F) es) t 0 ≡ v =
    get_or-elements F A.cols es wide some t (omega (arith, in_line))
    ∙ subst (λ d. get_or es (t / d) 0 / 16 ^ (d - 1 - t % d) % 16 ≡ v) g.digits (ap (λ y. y / 16 ^ (k - 1 - t % k) % 16) here ∙ digit_here x v (k - 1 - t % k) small) in
    record {
      within = let s = g.some in omega (arith, s);
      in_line = in_line;
      entries = es;
      is = record {
        wide = wide;
        elements = λ i below. elim (cases_eq i j) [
          | inl same ↦ subst (λ F. get_or es i 0 < 2 ^ F.degree) (sym g.over) (subst (λ y. y < 2 ^ F.degree) (sym (ap (λ y. get_or es y 0) same ∙ here)) fits)
          | inr other ↦ subst (λ y. y < 2 ^ A.field.degree) (sym (get_or-set_other old j i new 0 other)) (old_is.elements i below)
        ];
      };
      changed = refl;
      front = front_many (Elements F) A.cols t 1 old es bytes old_wide wide in_line (let s = g.some in omega (arith, s)) before_is (λ i below.
          let none : i ≡ 0 = omega arith in
          let place : t + i ≡ t = omega (arith, none) in
          ap (λ y. digit_glyph false (get_or (row_digits (Elements F) es) y 0)) place ∙ ap (digit_glyph false) here_is
          ∙ sym (ap (λ y. get_or bytes y 0) none ∙ g.is.glyph));
    }
