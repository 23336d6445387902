-- Fronts of lists.
use Rattle.std.proofs.Common.{◌≡◌, ◌≤◌, ℕ, zero, suc, List, [], ◌∷◌, refl, ◌∙◌, ap, take, length, ◌++◌, arith}
use Rattle.std.proofs.lemmas.List.{take-append-le}

-- the front of a front
take_front : (r n : ℕ) (xs : List ℕ) → r ≤ n → take r (take n xs) ≡ take r xs
take_front zero n xs small = refl
take_front (suc r) zero xs small = absurd (omega (arith, small))
take_front (suc r) (suc n) [] small = refl
take_front (suc r) (suc n) (x ∷ xs) small = ap (λ (rest : List ℕ). x ∷ rest) (take_front r n xs (omega (arith, small)))

-- the front of what is written back to a vector
pub front_back : (r n : ℕ) (q rest : List ℕ) → r ≤ length q → length q ≡ n → take r (take n (q ++ rest)) ≡ take r q
front_back r n q rest within fits = take_front r n (q ++ rest) (omega (arith, within, fits)) ∙ take-append-le r q rest within
