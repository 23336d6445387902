-- Lists of the numbers below n in some order: built up, exchanged and inverted.
use Rattle.std.proofs.Common.{◌≡◌, ℕ, zero, suc, ◌+◌, ◌-◌, ◌^◌, ◌<◌, ◌≤◌, ◌⊎◌, inl, inr, List, [], ◌∷◌, ◌++◌, length, get_or, take, drop, set, refl, sym, ◌∙◌, ap, subst, arith, Bool, true, false, eqb, ◌||◌, eq-eqb, length-append, length-take, length-drop, get_or-take, get_or-drop, add-one}
use Rattle.std.specs.List.{range_with_len, swap, list_any}
use Rattle.std.proofs.lemmas.List.{drop_more, drop_all, get_or-set_same, get_or-set_other, get_or_append_left, get_or-append_right}
use Rattle.std.proofs.lemmas.Bool.{cases_eq, cases_lt}
use Rattle.std.proofs.lemmas.Map.Steps.{le-length_from_below}
use Rattle.m4_model.specs.Shapes.{exchanged}
use Rattle.m4_model.specs.Factors.{IsOrder}
use Rattle.m4_perm.specs.Perm.{IsInverseOrder, IsPermutation}

-- one number more
pub range_more : (a n : ℕ) → range_with_len a (n + 1) ≡ range_with_len a n ++ (a + n) ∷ []
range_more a zero = let e : a + 0 ≡ a = omega arith in rw e refl
range_more a (suc n) =
    let e : suc n + 1 ≡ suc (n + 1) = omega arith in
    let f : a + suc n ≡ (a + 1) + n = omega arith in
    rw (e, f) (ap (λ xs. a ∷ xs) (range_more (a + 1) n))

-- one exchange more
pub exchange_step : (i : ℕ) (exchanges order : List ℕ) → i < length exchanges
    → exchanged i (drop i exchanges) order ≡ exchanged (i + 1) (drop (i + 1) exchanges) (swap order i (get_or exchanges i 0))
unfolding exchanged
exchange_step i exchanges order within = rw (drop_more exchanges i 0 within, add-one) refl

-- no exchange is left
pub exchange_done : (i : ℕ) (exchanges order : List ℕ) → length exchanges ≤ i → exchanged i (drop i exchanges) order ≡ order
unfolding exchanged
exchange_done i exchanges order past = rw (drop_all i exchanges past) refl

-- a number that stands at some place is in the list
in_list : (xs : List ℕ) (i q : ℕ) → i < length xs → get_or xs i 0 ≡ q → list_any (eqb q) xs ≡ true
in_list [] i q within is = absurd (omega arith)
in_list (x ∷ xs) zero q within is = let e = eq-eqb q x (sym is) in rw e refl
in_list (x ∷ xs) (suc i) q within is = let e = in_list xs i q (omega arith) is in rw (e, or-true (eqb q x)) refl
  where
    or-true : (b : Bool) → (b || true) ≡ true
    or-true true = refl
    or-true false = refl

-- the list with the entry at k left out
without : ℕ → List ℕ → List ℕ
without k p = take k p ++ drop (k + 1) p

length-without : (k : ℕ) (p : List ℕ) → k < length p → length (without k p) + 1 ≡ length p
unfolding without
length-without k p within =
    let a = length-append (take k p) (drop (k + 1) p) in
    let b = length-take k p in
    let c = length-drop (k + 1) p in
    omega (arith, a, b, c)

in_without_before : (k i q : ℕ) (p : List ℕ) → i < k → k < length p → get_or p i 0 ≡ q → list_any (eqb q) (without k p) ≡ true
unfolding without
in_without_before k i q p before within is =
    let b = length-take k p in
    let l = length-without k p within in
    let short : i < length (take k p) = omega (arith, b) in
    in_list (take k p ++ drop (k + 1) p) i q (let a = length-append (take k p) (drop (k + 1) p) in omega (arith, a))
    (get_or_append_left (take k p) (drop (k + 1) p) 0 i short ∙ get_or-take k p i 0 before ∙ is)

in_without_after : (k i q : ℕ) (p : List ℕ) → k ≤ i → i + 1 < length p → get_or p (i + 1) 0 ≡ q → list_any (eqb q) (without k p) ≡ true
unfolding without
in_without_after k i q p after within is =
    let b = length-take k p in
    let a = length-append (take k p) (drop (k + 1) p) in
    let c = length-drop (k + 1) p in
    let long : length (take k p) ≡ k = omega (arith, b) in
    let place : k + 1 + (i - k) ≡ i + 1 = omega arith in
    in_list (take k p ++ drop (k + 1) p) i q (omega (arith, a, c))
    (get_or-append_right (take k p) (drop (k + 1) p) k i 0 long after ∙ get_or-drop (k + 1) p (i - k) 0 ∙ ap (λ j. get_or p j 0) place ∙ is)

-- each number stands at one place only
pub order_injective : (n : ℕ) (p : List ℕ) (i k : ℕ) → IsOrder n p → i < k → k < n → get_or p i 0 ≡ get_or p k 0 → ⊥
order_injective n p i k order before within same =
    let all = le-length_from_below (without k p) n (λ q below. found q (order.onto q below)) in
    let count = order.count in
    let short = length-without k p (omega arith) in
    omega (arith, all, short)
  where
    place : (j q : ℕ) → j < n → get_or p j 0 ≡ q → (j < k) ⊎ (k ≤ j) → list_any (eqb q) (without k p) ≡ true
    place j q below is (inl first) = let count = order.count in in_without_before k j q p first (omega arith) is
    place zero q below is (inr later) = absurd (omega arith)
    place (suc j) q below is (inr later) = elim (cases_eq k (suc j)) [
      | inl here ↦ (let count = order.count in in_without_before k i q p before (omega arith) (same ∙ ap (λ x. get_or p x 0) here ∙ is))
      | inr there ↦ (let count = order.count in let e : j + 1 ≡ suc j = omega arith in in_without_after k j q p (omega arith) (omega arith) (ap (λ x. get_or p x 0) e ∙ is))
    ]

    found : (q : ℕ) → (j : ℕ) × (j < n) × (get_or p j 0 ≡ q) → list_any (eqb q) (without k p) ≡ true
    found q (j, below, is) = place j q below is (cases_lt j k)

-- one place more is put
pub put_more : (n : ℕ) (p places : List ℕ) (place : ℕ) → IsOrder n p → length places ≡ n → place < n
    → ((k : ℕ) → k < place → get_or places (get_or p k 0) 0 ≡ k)
    → (k : ℕ) → k < place + 1 → get_or (set places (get_or p place 0) place) (get_or p k 0) 0 ≡ k
put_more n p places place order room within so_far k below = elim (cases_eq k place) [
  | inl here ↦ (let small = order.below place within in
      ap (λ x. get_or (set places (get_or p place 0) place) (get_or p x 0) 0) here
      ∙ get_or-set_same places (get_or p place 0) place 0 (omega arith) ∙ sym here)
  | inr there ↦ (let earlier : k < place = omega arith in
      get_or-set_other places (get_or p place 0) (get_or p k 0) place 0 (λ same. order_injective n p k place order earlier within same)
      ∙ so_far k earlier)
]

-- the places of the numbers are an order too
pub inverse_order : (n : ℕ) (p q : List ℕ) → IsOrder n p → IsInverseOrder p q → IsOrder n q
inverse_order n p q order inverse = record {
  count = inverse.count ∙ order.count;
  below = λ v small. let at = order.onto v small in let e = inverse.places at.0 (let c = order.count in let b = at.1 in omega arith) in
      let f : get_or q v 0 ≡ at.0 = ap (λ x. get_or q x 0) (sym at.2) ∙ e in let b = at.1 in omega arith;
  onto = λ i small. (get_or p i 0, order.below i small, inverse.places i (let c = order.count in omega arith));
}

-- an order of few numbers is a permutation
pub permutation_of : (n : ℕ) (p : List ℕ) → IsOrder n p → n < 2 ^ 32 → IsPermutation p
permutation_of n p order short =
    let P : ℕ → Type 0 = λ m. IsOrder m p in
    record { order = subst P (sym order.count) order; short = let count = order.count in omega arith }
