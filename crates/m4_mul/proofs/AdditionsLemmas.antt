-- How many additions whole slots take, one slot more, and the columns that are left over.
use Rattle.std.proofs.Common.{◌≡◌, ◌≢◌, ℕ, ◌+◌, ◌-◌, ◌*◌, ◌/◌, ◌%◌, ◌^◌, ◌<◌, ◌≤◌, min, inl, inr, cond, eqb, sym, ◌∙◌, ap, arith}
use Rattle.std.proofs.Math.Nat.{add-mul-div_right, add-mul-mod_self_left, add-mul-mod_self_right, mul-div_left, mul-mod_left, div-eq_of_lt, mod-eq_of_lt}
use Rattle.std.proofs.lemmas.Nat.{div-add-mod'}
use Rattle.std.proofs.lemmas.Bool.{cases_lt, cond-false, ne_eqb}
use Rattle.m4_model.specs.Additions.{additions}

-- the additions for so many columns left over
abbrev rest : ℕ → ℕ → ℕ
rest m s = cond (eqb s 0) 0 (2 ^ s - 1 + m)

-- ---- whole slots more
pub additions-blocks : (m w q k : ℕ) → 0 < k → additions m (w + q * k) k ≡ additions m w k + q * (2 ^ k - 1 + m)
additions-blocks m w q k some =
    let x = 2 ^ k - 1 + m in
    let quotient : (w + q * k) / k ≡ w / k + q = add-mul-div_right w q some in
    let remainder : (w + q * k) % k ≡ w % k = add-mul-mod_self_right w q k in
    (λ i. quotient i * x + rest m (remainder i)) ∙ (let sum : (w / k + q) * x + rest m (w % k) ≡ w / k * x + rest m (w % k) + q * x = omega arith in sum)

pub additions-whole : (m q k : ℕ) → 0 < k → additions m (q * k) k ≡ q * (2 ^ k - 1 + m)
additions-whole m q k some =
    let x = 2 ^ k - 1 + m in
    let quotient : q * k / k ≡ q = mul-div_left q some in
    let remainder : q * k % k ≡ 0 = mul-mod_left q k in
    (λ i. quotient i * x + rest m (remainder i)) ∙ (let sum : q * x + 0 ≡ q * x = omega arith in sum)

pub additions-small : (m s k : ℕ) → 0 < s → s < k → additions m s k ≡ 2 ^ s - 1 + m
additions-small m s k some below =
    let x = 2 ^ k - 1 + m in
    let quotient : s / k ≡ 0 = div-eq_of_lt below in
    let remainder : s % k ≡ s = mod-eq_of_lt below in
    let positive : s ≢ 0 = λ none. omega (arith, none, some) in
    (λ i. quotient i * x + rest m (remainder i))
    ∙ ap (λ r. 0 * x + r) (cond-false (eqb s 0) 0 (2 ^ s - 1 + m) (ne_eqb s 0 positive))
    ∙ (let sum : 0 * x + (2 ^ s - 1 + m) ≡ 2 ^ s - 1 + m = omega arith in sum)

-- ---- one slot more, whole or not
pub additions-slot : (m width k slot : ℕ) → 0 < k → slot * k < width
    → additions m (min ((slot + 1) * k) width) k ≡ additions m (slot * k) k + (2 ^ min k (width - slot * k) - 1 + m)
additions-slot m width k slot some before =
    elim (cases_lt width ((slot + 1) * k)) [
      | inl short ↦
          let s = width - slot * k in
          let last : min ((slot + 1) * k) width ≡ s + slot * k = omega (arith, short, before) in
          let bits : min k s ≡ s = omega (arith, short, before) in
          let left : 0 < s = omega (arith, before) in
          let few : s < k = omega (arith, short, before) in
          ap (λ l. additions m l k) last ∙ additions-blocks m s slot k some
          ∙ (let total : additions m s k + slot * (2 ^ k - 1 + m) ≡ additions m (slot * k) k + (2 ^ s - 1 + m) =
          omega (arith, additions-small m s k left few, additions-whole m slot k some) in total)
          ∙ ap (λ b. additions m (slot * k) k + (2 ^ b - 1 + m)) (sym bits)
      | inr whole ↦
          let last : min ((slot + 1) * k) width ≡ (slot + 1) * k = omega (arith, whole) in
          let bits : min k (width - slot * k) ≡ k = omega (arith, whole) in
          ap (λ l. additions m l k) last ∙ additions-whole m (slot + 1) k some
          ∙ (let total : (slot + 1) * (2 ^ k - 1 + m) ≡ additions m (slot * k) k + (2 ^ k - 1 + m) = omega (arith, additions-whole m slot k some) in total)
          ∙ ap (λ b. additions m (slot * k) k + (2 ^ b - 1 + m)) (sym bits)
    ]

-- ---- each row takes one addition a slot
pub additions-rows : (m width k slots : ℕ) → 0 < k → 0 < width → width ≤ slots * k → slots * k < width + k
    → additions m width k ≡ additions 0 width k + m * slots
additions-rows m width k slots some wide enough no_more =
    let p = slots - 1 in
    let positive : 0 < slots = elim (cases_lt 0 slots) [ inl there ↦ there | inr none_there ↦ absurd (let none : slots ≡ 0 = omega (arith, none_there) in let empty : slots * k ≡ 0 * k = ap (λ s. s * k) none in omega (arith, empty, enough, wide)) ] in
    let is : slots ≡ p + 1 = omega (arith, positive) in
    let product : slots * k ≡ (p + 1) * k = ap (λ s. s * k) is in
    let before : p * k < width = omega (arith, product, no_more) in
    let last : min ((p + 1) * k) width ≡ width = omega (arith, product, enough) in
    let mine = additions-slot m width k p some before in
    let none = additions-slot 0 width k p some before in
    let all : additions m width k ≡ additions m (p * k) k + (2 ^ min k (width - p * k) - 1 + m) = ap (λ l. additions m l k) (sym last) ∙ mine in
    let fills : additions 0 width k ≡ additions 0 (p * k) k + (2 ^ min k (width - p * k) - 1 + 0) = ap (λ l. additions 0 l k) (sym last) ∙ none in
    let times : m * slots ≡ m * (p + 1) = ap (λ s. m * s) is in
    omega (arith, all, fills, times, additions-whole m p k some, additions-whole 0 p k some)

-- ---- a group of columns after whole slots
pub additions-group : (m first width k : ℕ) → 0 < k → first % k ≡ 0 → additions m (first + width) k ≡ additions m first k + additions m width k
additions-group m first width k some whole =
    let q = first / k in
    let is : first ≡ q * k = let parts = div-add-mod' first k in omega (arith, whole, parts) in
    let all : first + width ≡ width + q * k = omega (arith, is) in
    ap (λ l. additions m l k) all ∙ additions-blocks m width q k some
    ∙ (let total : additions m width k + q * (2 ^ k - 1 + m) ≡ additions m first k + additions m width k =
    omega (arith, additions-whole m q k some, ap (λ l. additions m l k) is) in total)

-- ---- no column at all
pub additions-none : (m k : ℕ) → 0 < k → additions m 0 k ≡ 0
additions-none m k some =
    let empty : 0 ≡ 0 * k = omega arith in
    ap (λ l. additions m l k) empty ∙ additions-whole m 0 k some ∙ (let nothing : 0 * (2 ^ k - 1 + m) ≡ 0 = omega arith in nothing)

-- ---- the columns of all slots are whole slots
pub whole-next : (first k count : ℕ) → first % k ≡ 0 → (first + k * count) % k ≡ 0
whole-next first k count whole = add-mul-mod_self_left first k count ∙ whole
