-- Numbers in decimal and in hexadecimal: their digits, one by one.
use Rattle.std.proofs.Common.{◌≡◌, ℕ, zero, suc, ◌+◌, ◌-◌, ◌*◌, ◌/◌, ◌%◌, ◌^◌, ◌<◌, ◌≤◌, false, cond, List, [], ◌∷◌, ◌++◌, length, get_or, refl, sym, ◌∙◌, ap, ap₂, subst, arith, inl, inr, append_assoc, length-append, mod-eq_of_lt, lit≤}
use Rattle.std.specs.Fmt.{digits, digits_onto, digit_glyph}
use Rattle.std.specs.List.{AllByRecursion}
use Rattle.std.proofs.lemmas.Bool.{cases_lt, cond-true, cond-false, eq-eqb, ne_eqb, lt-ltb, le-ltb}
use Rattle.std.proofs.lemmas.Nat.{pow-add}
use Rattle.std.proofs.Math.Nat.{one-le-pow, le-mul_of_pos_right}
use Rattle.std.proofs.lemmas.List.{get_or_append_left}
use Rattle.std.proofs.lemmas.Fmt.{digits_is_IsNumeral}
use Rattle.std.specs.Str.Parse.{digits_value}
use Rattle.m4_etext.specs.Place.{IsDigitIn}

-- What is used of a base: what its digits leave of a number.
pub record IsBase (b : ℕ) : Type 0 where
  pub low : 2 ≤ b
  pub high : b ≤ 16
  pub last : (n : ℕ) → n < b → n / b ≡ 0
  pub more : (n : ℕ) → b ≤ n → n / b ≡ 0 → ⊥
  pub fewer : (n k : ℕ) → n < b ^ suc k → n / b < b ^ k
  pub digit : (n : ℕ) → n % b < b
  pub joined : (n d : ℕ) → d < b → ((b * n + d) / b ≡ n) × ((b * n + d) % b ≡ d)
  pub grown : (n d k : ℕ) → n < b ^ k → d < b → b * n + d < b ^ (k + 1)
  pub one : b ^ 1 ≡ b
  pub none : b ^ 0 ≡ 1

pub ten : IsBase 10
ten = record {
  low = lit≤ tt;
  high = lit≤ tt;
  last = λ n below. omega arith;
  more = λ n above none. omega arith;
  fewer = λ n k below. omega arith;
  digit = λ n. omega arith;
  joined = λ n d below. (omega arith, omega arith);
  grown = λ n d k small below. rw (pow-add 10 k 1) (omega arith);
  one = refl;
  none = refl;
}

pub sixteen : IsBase 16
sixteen = record {
  low = lit≤ tt;
  high = lit≤ tt;
  last = λ n below. omega arith;
  more = λ n above none. omega arith;
  fewer = λ n k below. omega arith;
  digit = λ n. omega arith;
  joined = λ n d below. (omega arith, omega arith);
  grown = λ n d k small below. rw (pow-add 16 k 1) (omega arith);
  one = refl;
  none = refl;
}

-- the bytes of digits
pub glyph_low : (v : ℕ) → v < 10 → digit_glyph false v ≡ 48 + v
glyph_low v low = cond-true _ _ _ (lt-ltb v 10 low)

pub glyph_high : (v : ℕ) → 10 ≤ v → digit_glyph false v ≡ 87 + v
glyph_high v high = cond-false _ _ _ (le-ltb v 10 high)

pub glyph_injective : (u v : ℕ) → u < 16 → v < 16 → digit_glyph false u ≡ digit_glyph false v → u ≡ v
glyph_injective u v few fewer e =
    elim (cases_lt u 10) [
      | inl low ↦ elim (cases_lt v 10) [
        | inl low' ↦ omega (arith, e, glyph_low u low, glyph_low v low')
        | inr high' ↦ omega (arith, e, glyph_low u low, glyph_high v high')
      ]
      | inr high ↦ elim (cases_lt v 10) [
        | inl low' ↦ omega (arith, e, glyph_high u high, glyph_low v low')
        | inr high' ↦ omega (arith, e, glyph_high u high, glyph_high v high')
      ]
    ]

pub glyph_above : (v : ℕ) → 0 < v → 48 < digit_glyph false v
glyph_above v some = elim (cases_lt v 10) [
  | inl low ↦ omega (arith, glyph_low v low)
  | inr high ↦ omega (arith, glyph_high v high)
]

-- a number of few digits has at most more of them
pub widen : (b n len most : ℕ) → 1 ≤ b → len ≤ most → n < b ^ len → n < b ^ most
widen b n len most some few small =
    let e : most ≡ len + (most - len) = omega arith in
    let whole : b ^ most ≡ b ^ len * b ^ (most - len) = ap (λ k. b ^ k) e ∙ pow-add b len (most - len) in
    let one : 1 ≤ b ^ (most - len) = one-le-pow (most - len) b some in
    let grows : b ^ len ≤ b ^ len * b ^ (most - len) = grind (arith, le-mul_of_pos_right) in
    omega arith

abbrev pub AreDigits : ℕ → List ℕ → Type 0
AreDigits b = AllByRecursion (IsDigitIn b)

module _ (b : ℕ) (is : IsBase b) where
  abbrev spell : ℕ → ℕ → List ℕ → List ℕ
  spell k n acc = digits_onto k b false n acc

  abbrev last_glyph : ℕ → ℕ
  last_glyph n = digit_glyph false (n % b)

  spell_last : (k n : ℕ) (acc : List ℕ) → n < b → spell (suc k) n acc ≡ last_glyph n ∷ acc
  spell_last k n acc h = ap (λ t. cond t (last_glyph n ∷ acc) (spell k (n / b) (last_glyph n ∷ acc))) (eq-eqb (n / b) 0 (is.last n h))

  spell_next : (k n : ℕ) (acc : List ℕ) → b ≤ n → spell (suc k) n acc ≡ spell k (n / b) (last_glyph n ∷ acc)
  spell_next k n acc h = ap (λ t. cond t (last_glyph n ∷ acc) (spell k (n / b) (last_glyph n ∷ acc))) (ne_eqb (n / b) 0 (is.more n h))

  spell-append : (k n : ℕ) (acc : List ℕ) → spell k n acc ≡ spell k n [] ++ acc
  spell-append zero n acc = refl
  spell-append (suc k) n acc = elim (cases_lt n b) [
    | inl l ↦ spell_last k n acc l ∙ ap (λ x. x ++ acc) (sym (spell_last k n [] l))
    | inr l ↦
        spell_next k n acc l ∙ spell-append k (n / b) (last_glyph n ∷ acc) ∙ sym (append_assoc (spell k (n / b) []) (last_glyph n ∷ []) acc)
        ∙ ap (λ x. x ++ acc) (sym (spell_next k n [] l ∙ spell-append k (n / b) (last_glyph n ∷ [])))
  ]

  -- the digit limit does not matter once it is large enough
  spell_enough : (j k n : ℕ) (acc : List ℕ) → n < b ^ suc j → n < b ^ suc k → spell (suc j) n acc ≡ spell (suc k) n acc
  spell_enough zero k n acc p q =
      let small : n < b = let P : ℕ → Type 0 = λ x. n < x in subst P is.one p in
      spell_last zero n acc small ∙ sym (spell_last k n acc small)
  spell_enough (suc j) zero n acc p q =
      let small : n < b = let P : ℕ → Type 0 = λ x. n < x in subst P is.one q in
      spell_last (suc j) n acc small ∙ sym (spell_last zero n acc small)
  spell_enough (suc j) (suc k) n acc p q = elim (cases_lt n b) [
    | inl l ↦ spell_last (suc j) n acc l ∙ sym (spell_last (suc k) n acc l)
    | inr l ↦
        spell_next (suc j) n acc l ∙ spell_enough j k (n / b) (last_glyph n ∷ acc) (is.fewer n (suc j) p) (is.fewer n (suc k) q)
        ∙ sym (spell_next (suc k) n acc l)
  ]

  -- one digit
  pub numeral_digit : (n : ℕ) → n < b → digits b false n ≡ digit_glyph false n ∷ []
  unfolding digits
  numeral_digit n small = spell_last 63 n [] small ∙ ap (λ d. digit_glyph false d ∷ []) (mod-eq_of_lt small)

  -- the last digit of more
  pub numeral_step : (n : ℕ) → b ≤ n → n < b ^ 64 → digits b false n ≡ digits b false (n / b) ++ digit_glyph false (n % b) ∷ []
  unfolding digits
  numeral_step n above small =
      spell_next 63 n [] above
      ∙ (let fits = is.fewer n 63 small in let l = is.low in spell_enough 62 63 (n / b) (last_glyph n ∷ []) fits (widen b (n / b) 63 64 (omega (arith, l)) (lit≤ tt) fits))
      ∙ spell-append 64 (n / b) (last_glyph n ∷ [])

  -- what holds of one digit, and of a digit more
  pub by_digits : (P : ℕ → List ℕ → Type 0) → ((n : ℕ) → n < b → P n (digit_glyph false n ∷ []))
      → ((n : ℕ) (ds : List ℕ) → b ≤ n → P (n / b) ds → P n (ds ++ digit_glyph false (n % b) ∷ []))
      → (k n : ℕ) → k ≤ 64 → n < b ^ k → P n (digits b false n)
  by_digits P one more zero n few small =
      let l = is.low in
      let z = is.none in
      let below : n < b = omega (arith, l, small, z) in
      subst (P n) (sym (numeral_digit n below)) (one n below)
  by_digits P one more (suc k) n few small = elim (cases_lt n b) [
    | inl below ↦ subst (P n) (sym (numeral_digit n below)) (one n below)
    | inr above ↦
        let l = is.low in
        let wide : n < b ^ 64 = widen b n (suc k) 64 (omega (arith, l)) few small in
        subst (P n) (sym (numeral_step n above wide))
        (more n (digits b false (n / b)) above (by_digits P one more k (n / b) (omega arith) (is.fewer n k small)))
  ]

  value_in : (v : ℕ) → v < b → IsDigitIn b (digit_glyph false v)
  value_in v below = let h = is.high in (v, record { small = omega (arith, h); glyph = refl }, below)

  push : (ds : List ℕ) (d : ℕ) → AreDigits b ds → IsDigitIn b d → AreDigits b (ds ++ d ∷ [])
  push [] d all digit = (digit, tt)
  push (c ∷ ds) d all digit = (all.0, push ds d all.1 digit)

  module _ (most : ℕ) (few : most ≤ 64) (n : ℕ) (small : n < b ^ most) where
    pub AreDigits-numeral : AreDigits b (digits b false n)
    AreDigits-numeral =
        by_digits (λ n ds. AreDigits b ds) (λ n below. (value_in n below, tt))
        (λ n ds above all. push ds (digit_glyph false (n % b)) all (value_in (n % b) (is.digit n))) most n few small

    pub numeral_some : 0 < length (digits b false n)
    numeral_some = (digits_is_IsNumeral b false is.low is.high n (let l = is.low in widen b n most 64 (omega (arith, l)) few small)).0.0

    first_of : (0 < length (digits b false n)) × (0 < n → 48 < get_or (digits b false n) 0 0)
    first_of = by_digits (λ m ds. (0 < length ds) × (0 < m → 48 < get_or ds 0 0)) (λ m below. (omega arith, λ some. glyph_above m some))
        (λ m ds above h. (
          omega (arith, length-append ds (digit_glyph false (m % b) ∷ [])),
          λ some. let q = is.more m above in omega (arith, get_or_append_left ds (digit_glyph false (m % b) ∷ []) 0 0 h.0, h.1 (positive (m / b) q)),
        )) most n few small
      where
        positive : (q : ℕ) → (q ≡ 0 → ⊥) → 0 < q
        positive zero none = absurd (none refl)
        positive (suc q) none = omega arith

    pub first_numeral : 0 < n → 48 < get_or (digits b false n) 0 0
    first_numeral = first_of.1

  -- how many digits
  pub length-numeral : (k n : ℕ) → 0 < k → k ≤ 64 → n < b ^ k → length (digits b false n) ≤ k
  length-numeral zero n some few small = absurd (omega arith)
  length-numeral (suc k) n some few small = elim (cases_lt n b) [
    | inl below ↦ omega (arith, ap length (numeral_digit n below))
    | inr above ↦
        let l = is.low in
        let q = is.more n above in
        let fewer = is.fewer n k small in
        let wide : n < b ^ 64 = widen b n (suc k) 64 (omega (arith, l)) few small in
        let left : 0 < k = nonzero k (n / b) q fewer in
        omega (arith, ap length (numeral_step n above wide), length-append (digits b false (n / b)) (digit_glyph false (n % b) ∷ []), length-numeral k (n / b) left (omega arith) fewer)
  ]
    where
      nonzero : (k q : ℕ) → (q ≡ 0 → ⊥) → q < b ^ k → 0 < k
      nonzero zero q none below = let z = is.none in absurd (none (omega (arith, below, z)))
      nonzero (suc k) q none below = omega arith

  -- digits tell the number
  pub numeral_injective : (most m n : ℕ) → most ≤ 64 → m < b ^ most → n < b ^ most → digits b false m ≡ digits b false n → m ≡ n
  numeral_injective most m n few small small' e =
      let l = is.low in
      sym (digits_is_IsNumeral b false is.low is.high m (widen b m most 64 (omega (arith, l)) few small)).1 ∙ ap (digits_value b) e
      ∙ (digits_is_IsNumeral b false is.low is.high n (widen b n most 64 (omega (arith, l)) few small')).1

  -- a digit more
  pub numeral_more : (n d : ℕ) → 0 < n → d < b → b * n + d < b ^ 64 → digits b false (b * n + d) ≡ digits b false n ++ digit_glyph false d ∷ []
  numeral_more n d some below small =
      let l = is.low in
      let above : b ≤ b * n + d = let m : b ≤ b * n = grind arith in omega (arith, m) in
      let j = is.joined n d below in
      numeral_step (b * n + d) above small ∙ ap₂ (λ x y. digits b false x ++ digit_glyph false y ∷ []) j.0 j.1
