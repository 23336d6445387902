-- What a product by halves takes: one level, and no less for greater sides.
use Rattle.std.proofs.Common.{◌≡◌, ℕ, zero, suc, ◌+◌, ◌*◌, ◌<◌, ◌≤◌, true, false, nat_lt, nat_le, ◌&&◌, refl, sym, ap, arith, ⊎_elim, ltb-true, leb-true, lt-ltb}
use Rattle.std.proofs.Math.Nat.{mul-le-mul_left, mul_comm}
use Rattle.std.proofs.lemmas.Bool.{and_parts, cases_Bool, le-leb}
use Rattle.m4_model.specs.Recursion.{is_cut, half, within_levels, by_halves, level_words, need, products}

-- what a cut product's sides are
pub record SidesCut (m l n cutoff : ℕ) : Type 0 where
  pub some : 0 < cutoff
  pub rows : 2 * cutoff ≤ m
  pub inner : 2 * cutoff ≤ l
  pub cols : 2 * cutoff ≤ n

pub sides_cut : (m l n cutoff : ℕ) → is_cut m l n cutoff ≡ true → SidesCut m l n cutoff
sides_cut m l n cutoff cut =
    let first = and_parts (nat_lt 0 cutoff) (nat_le (2 * cutoff) m && (nat_le (2 * cutoff) l && nat_le (2 * cutoff) n)) cut in
    let second = and_parts (nat_le (2 * cutoff) m) (nat_le (2 * cutoff) l && nat_le (2 * cutoff) n) first.1 in
    let third = and_parts (nat_le (2 * cutoff) l) (nat_le (2 * cutoff) n) second.1 in
    record {
      some = ltb-true 0 cutoff first.0;
      rows = leb-true (2 * cutoff) m second.0;
      inner = leb-true (2 * cutoff) l third.0;
      cols = leb-true (2 * cutoff) n third.1;
    }

pub cut_from : (m l n cutoff : ℕ) → SidesCut m l n cutoff → is_cut m l n cutoff ≡ true
cut_from m l n cutoff sides =
    rw (lt-ltb 0 cutoff sides.some, le-leb (2 * cutoff) m sides.rows, le-leb (2 * cutoff) l sides.inner, le-leb (2 * cutoff) n sides.cols) refl

module _ (level : ℕ → ℕ → ℕ → ℕ → ℕ) (base : ℕ) where
  -- as many levels as the first side suffice
  within_enough : (s t m l n cutoff : ℕ) → m ≤ s → m ≤ t → within_levels s level base m l n cutoff ≡ within_levels t level base m l n cutoff
  unfolding within_levels
  within_enough zero zero m l n cutoff low enough = refl
  within_enough zero (suc t) m l n cutoff low enough = ⊎_elim
      (λ (cut : is_cut m l n cutoff ≡ true). let sides = sides_cut m l n cutoff cut in let some = sides.some in let rows = sides.rows in absurd (omega arith))
      (λ (whole : is_cut m l n cutoff ≡ false). rw whole refl)
      (cases_Bool (is_cut m l n cutoff))
  within_enough (suc s) zero m l n cutoff low enough = ⊎_elim
      (λ (cut : is_cut m l n cutoff ≡ true). let sides = sides_cut m l n cutoff cut in let some = sides.some in let rows = sides.rows in absurd (omega arith))
      (λ (whole : is_cut m l n cutoff ≡ false). rw whole refl)
      (cases_Bool (is_cut m l n cutoff))
  within_enough (suc s) (suc t) m l n cutoff low enough = ⊎_elim
      (λ (cut : is_cut m l n cutoff ≡ true).
      let sides = sides_cut m l n cutoff cut in
      let some = sides.some in
      let rows = sides.rows in
      rw cut (ap (level (half m) (half l) (half n)) (within_enough s t (half m) (half l) (half n) cutoff (omega arith) (omega arith))))
      (λ (whole : is_cut m l n cutoff ≡ false). rw whole refl)
      (cases_Bool (is_cut m l n cutoff))

  -- one level of a product that is cut
  pub one_level : (m l n cutoff : ℕ) → is_cut m l n cutoff ≡ true
      → by_halves level base m l n cutoff ≡ level (half m) (half l) (half n) (by_halves level base (half m) (half l) (half n) cutoff)
  unfolding within_levels
  one_level m l n cutoff cut = of m (sides_cut m l n cutoff cut).rows (sides_cut m l n cutoff cut).some cut
    where
      of : (m : ℕ) → 2 * cutoff ≤ m → 0 < cutoff → is_cut m l n cutoff ≡ true
          → by_halves level base m l n cutoff ≡ level (half m) (half l) (half n) (by_halves level base (half m) (half l) (half n) cutoff)
      of zero rows some cut = absurd (omega (arith, rows, some))
      of (suc m) rows some cut =
          rw cut (ap (level (half (suc m)) (half l) (half n)) (within_enough m (half (suc m)) (half (suc m)) (half l) (half n) cutoff (omega arith) (omega arith)))

  -- a product that isn't cut
  pub no_level : (m l n cutoff : ℕ) → is_cut m l n cutoff ≡ false → by_halves level base m l n cutoff ≡ base
  unfolding within_levels
  no_level zero l n cutoff whole = refl
  no_level (suc m) l n cutoff whole = rw whole refl

  module _ (rises : (m l n rest p q r more : ℕ) → m ≤ p → l ≤ q → n ≤ r → rest ≤ more → level m l n rest ≤ level p q r more)
      (least : (m l n rest : ℕ) → base ≤ rest → base ≤ level m l n rest) where
    -- nothing takes less than the base
    at_least : (s m l n cutoff : ℕ) → base ≤ within_levels s level base m l n cutoff
    unfolding within_levels
    at_least zero m l n cutoff = omega arith
    at_least (suc s) m l n cutoff = ⊎_elim
        (λ (cut : is_cut m l n cutoff ≡ true). rw cut (least (half m) (half l) (half n) _ (at_least s (half m) (half l) (half n) cutoff)))
        (λ (whole : is_cut m l n cutoff ≡ false). rw whole (omega arith))
        (cases_Bool (is_cut m l n cutoff))

    within_rises : (s m l n p q r cutoff : ℕ) → m ≤ p → l ≤ q → n ≤ r
        → within_levels s level base m l n cutoff ≤ within_levels s level base p q r cutoff
    unfolding within_levels
    within_rises zero m l n p q r cutoff rows inner cols = omega arith
    within_rises (suc s) m l n p q r cutoff rows inner cols = ⊎_elim
        (λ (cut : is_cut m l n cutoff ≡ true).
        let sides = sides_cut m l n cutoff cut in
        let low = sides.rows in
        let deep = sides.inner in
        let wide = sides.cols in
        let greater : is_cut p q r cutoff ≡ true
        = cut_from p q r cutoff (record { some = sides.some; rows = omega arith; inner = omega arith; cols = omega arith }) in
        rw (cut, greater) (rises (half m) (half l) (half n) _ (half p) (half q) (half r) _ (omega arith) (omega arith) (omega arith)
        (within_rises s (half m) (half l) (half n) (half p) (half q) (half r) cutoff (omega arith) (omega arith) (omega arith))))
        (λ (whole : is_cut m l n cutoff ≡ false). rw whole (at_least (suc s) p q r cutoff))
        (cases_Bool (is_cut m l n cutoff))

    -- greater sides take no less
    pub by_halves-rises : (m l n p q r cutoff : ℕ) → m ≤ p → l ≤ q → n ≤ r → by_halves level base m l n cutoff ≤ by_halves level base p q r cutoff
    by_halves-rises m l n p q r cutoff rows inner cols =
        let enough = within_enough m p m l n cutoff (omega arith) rows in
        rw enough (within_rises p m l n p q r cutoff rows inner cols)

-- a product of sides no greater
mul_rises : (m l p q : ℕ) → m ≤ p → l ≤ q → m * l ≤ p * q
mul_rises m l p q rows inner =
    let first : m * l ≤ m * q = mul-le-mul_left m inner in
    let second : q * m ≤ q * p = mul-le-mul_left q rows in
    let turned : m * q ≡ q * m = mul_comm m q in
    let back : q * p ≡ p * q = mul_comm q p in
    omega arith

level_words-rises : (m l n p q r : ℕ) → m ≤ p → l ≤ q → n ≤ r → level_words m l n ≤ level_words p q r
level_words-rises m l n p q r rows inner cols =
    let one = mul_rises m l p q rows inner in
    let two = mul_rises l n q r inner cols in
    let three = mul_rises m n p r rows cols in
    omega arith

-- greater sides need no fewer words
pub need-rises : (m l n p q r cutoff : ℕ) → m ≤ p → l ≤ q → n ≤ r → need m l n cutoff ≤ need p q r cutoff
need-rises = by_halves-rises (λ m l n rest. level_words m l n + rest) 0
    (λ m l n rest p q r more rows inner cols least. let words = level_words-rises m l n p q r rows inner cols in omega arith)
    (λ m l n rest low. omega arith)

-- and take no fewer products
pub products-rises : (m l n p q r cutoff : ℕ) → m ≤ p → l ≤ q → n ≤ r → products m l n cutoff ≤ products p q r cutoff
products-rises = by_halves-rises (λ m l n each. 7 * each + 3) 1
    (λ m l n rest p q r more rows inner cols least. omega arith)
    (λ m l n rest low. omega arith)

-- one level's words, and what its quarters need
pub need-level : (m l n cutoff : ℕ) → is_cut m l n cutoff ≡ true
    → level_words (half m) (half l) (half n) + need (half m) (half l) (half n) cutoff ≡ need m l n cutoff
need-level m l n cutoff cut = sym (one_level (λ m l n rest. level_words m l n + rest) 0 m l n cutoff cut)

-- one level's products
pub products-level : (m l n cutoff : ℕ) → is_cut m l n cutoff ≡ true
    → 7 * products (half m) (half l) (half n) cutoff + 3 ≡ products m l n cutoff
products-level m l n cutoff cut = sym (one_level (λ m l n each. 7 * each + 3) 1 m l n cutoff cut)

-- a product that isn't cut needs nothing, and is one
pub products-whole : (m l n cutoff : ℕ) → is_cut m l n cutoff ≡ false → products m l n cutoff ≡ 1
products-whole m l n cutoff whole = no_level (λ m l n each. 7 * each + 3) 1 m l n cutoff whole
