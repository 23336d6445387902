-- Coefficient i of stripe t stands at place t k + i.
use Rattle.std.proofs.Common.{◌≡◌, ◌≢◌, ℕ, ◌+◌, ◌*◌, ◌/◌, ◌%◌, ◌<◌, ◌≤◌, List, length, get_or, set, ⊎_elim, refl, sym, ◌∙◌, ap, arith, bit_xor}
use Rattle.std.proofs.Math.Nat.{mul-le-mul_right, mod-lt}
use Rattle.std.proofs.lemmas.List.{get_or-set_same, get_or-set_other, length-set}
use Rattle.std.proofs.lemmas.Bool.{cases_lt, cases_eq}
use Rattle.m4_model.specs.Field.{mul}
use Rattle.m4_model.specs.Matrix.{Matrix, at}
use Rattle.m4_erasure.specs.Shards.{gf256}
use Rattle.m4_erasure.specs.Sums.{IsAddedAt, IsAddedBy}

-- the place of a coefficient, taken apart
pub place_mod : (k t i : ℕ) → i < k → (t * k + i) % k ≡ i
place_mod k t i within = grind arith

pub place_div : (k t i : ℕ) → i < k → (t * k + i) / k ≡ t
place_div k t i within = grind arith

-- a place put together again
pub place_whole : (k p : ℕ) → p / k * k + p % k ≡ p
place_whole k p = grind arith

pub place_inside : (k t i n : ℕ) → i < k → t < n → t * k + i < n * k
place_inside k t i n within below = let h = mul-le-mul_right {m = t + 1} {n = n} k (omega (arith, below)) in omega (arith, h, within)

-- the first so many stripes are done
pub record IsAddedTo (t k i factor : ℕ) (body old new : List ℕ) : Type 0 where
  pub long : length new ≡ length old
  pub own : (p : ℕ) → p < length old → p % k ≡ i → p / k < t → get_or new p 0 ≡ bit_xor (get_or old p 0) (mul gf256 factor (get_or body (p / k) 0))
  pub later : (p : ℕ) → t ≤ p / k → get_or new p 0 ≡ get_or old p 0
  pub others : (p : ℕ) → p % k ≢ i → get_or new p 0 ≡ get_or old p 0

pub added_none : (k i factor : ℕ) (body old : List ℕ) → IsAddedTo 0 k i factor body old old
added_none k i factor body old = record {
  long = refl;
  own = λ p inside here before. absurd (omega (arith, before));
  later = λ p after. refl;
  others = λ p other. refl;
}

pub added_more : (t k i factor product : ℕ) (body old now : List ℕ) → IsAddedTo t k i factor body old now → i < k → t < length body
    → length old ≡ length body * k → product ≡ mul gf256 factor (get_or body t 0)
    → IsAddedTo (t + 1) k i factor body old (set now (t * k + i) (bit_xor (get_or now (t * k + i) 0) product))
added_more t k i factor product body old now so_far within below long is =
    let q : ℕ = t * k + i in
    let x : ℕ = bit_xor (get_or now q 0) product in
    let inside : q < length now = let h = place_inside k t i (length body) within below in let l = so_far.long in omega (arith, h, l, long) in
    let quotient : q / k ≡ t = place_div k t i within in
    let rest : q % k ≡ i = place_mod k t i within in
    record {
      long = length-set now q x ∙ so_far.long;
      own = λ p in_old here before. ⊎_elim
          (λ (same : p ≡ q).
          let at_p : p / k ≡ t = ap (λ (r : ℕ). r / k) same ∙ quotient in
          ap (λ (r : ℕ). get_or (set now q x) r 0) same ∙ get_or-set_same now q x 0 inside
          ∙ ap (λ (v : ℕ). bit_xor v product) (ap (λ (r : ℕ). get_or now r 0) (sym same) ∙ so_far.later p (omega (arith, at_p)))
          ∙ ap (bit_xor (get_or old p 0)) (is ∙ ap (λ (s : ℕ). mul gf256 factor (get_or body s 0)) (sym at_p)))
          (λ (other : p ≢ q).
          let earlier : p / k < t = ⊎_elim (λ (less : p / k < t). less)
          (λ (more : t ≤ p / k).
          let at_t : p / k ≡ t = omega (arith, more, before) in
          absurd (other (sym (place_whole k p) ∙ ap (λ (s : ℕ). s * k + p % k) at_t ∙ ap (λ (r : ℕ). t * k + r) here)))
          (cases_lt (p / k) t) in
          get_or-set_other now q p x 0 other ∙ so_far.own p in_old here earlier)
          (cases_eq p q);
      later = λ p after.
          let other : p ≢ q = λ same. let at_p : p / k ≡ t = ap (λ (r : ℕ). r / k) same ∙ quotient in absurd (omega (arith, at_p, after)) in
          get_or-set_other now q p x 0 other ∙ so_far.later p (omega (arith, after));
      others = λ p apart.
          let other : p ≢ q = λ same. apart (ap (λ (r : ℕ). r % k) same ∙ rest) in
          get_or-set_other now q p x 0 other ∙ so_far.others p apart;
    }

pub added_all : (t k i factor : ℕ) (body old new : List ℕ) → IsAddedTo t k i factor body old new → 0 < k → length body ≤ t
    → length old ≡ length body * k → IsAddedAt k i factor body old new
added_all t k i factor body old new done some all long = record {
  long = done.long;
  own = λ p inside here. done.own p inside here (let h : p / k < length body = quotient p (length body) (omega (arith, inside, long)) in omega (arith, h, all));
  others = done.others;
}
  where
    quotient : (p n : ℕ) → p < n * k → p / k < n
    quotient p n inside = grind arith

-- the first so many coefficients of each stripe are done
pub record IsAddedBelow (i : ℕ) (W : Matrix) (j : ℕ) (body old new : List ℕ) : Type 0 where
  pub long : length new ≡ length old
  pub sums : (p : ℕ) → p < length old → p % W.rows < i → get_or new p 0 ≡ bit_xor (get_or old p 0) (mul gf256 (at W (p % W.rows) j) (get_or body (p / W.rows) 0))
  pub others : (p : ℕ) → i ≤ p % W.rows → get_or new p 0 ≡ get_or old p 0

pub below_none : (W : Matrix) (j : ℕ) (body old : List ℕ) → IsAddedBelow 0 W j body old old
below_none W j body old = record {
  long = refl;
  sums = λ p inside before. absurd (omega (arith, before));
  others = λ p after. refl;
}

pub below_more : (i : ℕ) (W : Matrix) (j factor : ℕ) (body old now next : List ℕ) → IsAddedBelow i W j body old now
    → IsAddedAt W.rows i factor body now next → factor ≡ at W i j → IsAddedBelow (i + 1) W j body old next
below_more i W j factor body old now next so_far step is = record {
  long = step.long ∙ so_far.long;
  sums = λ p inside before. ⊎_elim
      (λ (here : p % W.rows ≡ i).
      step.own p (let l = so_far.long in omega (arith, l, inside)) here
      ∙ ap (λ (v : ℕ). bit_xor v (mul gf256 factor (get_or body (p / W.rows) 0))) (so_far.others p (omega (arith, here)))
      ∙ ap (λ (f : ℕ). bit_xor (get_or old p 0) (mul gf256 f (get_or body (p / W.rows) 0))) (is ∙ ap (λ (r : ℕ). at W r j) (sym here)))
      (λ (other : p % W.rows ≢ i). step.others p other ∙ so_far.sums p inside (omega (arith, before, other)))
      (cases_eq (p % W.rows) i);
  others = λ p after. step.others p (λ same. absurd (omega (arith, same, after))) ∙ so_far.others p (omega (arith, after));
}

pub below_all : (i : ℕ) (W : Matrix) (j : ℕ) (body old new : List ℕ) → IsAddedBelow i W j body old new → W.rows ≤ i → 0 < W.rows
    → IsAddedBy W j body old new
below_all i W j body old new done all some = record {
  long = done.long;
  sums = λ p inside. done.sums p inside (let h = mod-lt p some in omega (arith, h, all));
}
