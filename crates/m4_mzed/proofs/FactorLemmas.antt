-- The multiples of x by the powers of an element's bits, one by one.
use Rattle.std.proofs.Common.{◌≡◌, ℕ, ◌+◌, ◌^◌, ◌<◌, ◌≤◌, inl, inr, List, length, get_or, set, replicate, sym, ◌∙◌, ap, subst, arith}
use Rattle.std.proofs.Math.Pow.{pow_pos}
use Rattle.std.proofs.lemmas.Bool.{cases_eq, cases_lt}
use Rattle.std.proofs.lemmas.List.{length-set, length-replicate, get_or-replicate, get_or_past, get_or-set_same, get_or-set_other}
use Rattle.m4_model.specs.Field.{Field, IsCarried, mul}
use Rattle.m4_field.proofs.ProductSteps.{carried_laws}
use Rattle.m4_mzed.proofs.MultipleLemmas.{next_power}

-- the first i of them are written, and zeros follow
pub record AreFirst (F : Field) (n x i factor : ℕ) (list : List ℕ) : Type 0 where
  pub long : length list ≡ n
  pub element : factor < 2 ^ F.degree
  pub next : i < F.degree → factor ≡ mul F (2 ^ i) x
  pub powers : (j : ℕ) → j < i → get_or list j 0 ≡ mul F (2 ^ j) x
  pub small : (j : ℕ) → get_or list j 0 < 2 ^ F.degree
  pub rest : (j : ℕ) → i ≤ j → get_or list j 0 ≡ 0

pub none_written : (F : Field) → IsCarried F → (n x : ℕ) → x < 2 ^ F.degree → AreFirst F n x 0 x (replicate n 0)
none_written F carried n x small = record {
  long = length-replicate {A = ℕ} n 0;
  element = small;
  next = λ _. sym ((carried_laws F carried).unit x small);
  powers = λ j none. absurd (omega arith);
  small = λ j. let P : ℕ → Type 0 = λ y. y < 2 ^ F.degree in subst P (sym (zero j)) (pow_pos F.degree);
  rest = λ j _. zero j;
}
  where
    zero : (j : ℕ) → get_or (replicate {A = ℕ} n 0) j 0 ≡ 0
    zero j = elim (cases_lt j n) [
      | inl inside ↦ get_or-replicate {A = ℕ} n j 0 0 inside
      | inr past ↦ get_or_past (replicate {A = ℕ} n 0) j 0 (let l = length-replicate {A = ℕ} n 0 in omega (arith, l, past))
    ]

pub more_written : (F : Field) → IsCarried F → (n x i factor next : ℕ) (list : List ℕ) → i < F.degree → F.degree ≤ n → next < 2 ^ F.degree → next ≡ mul F 2 factor
    → AreFirst F n x i factor list → AreFirst F n x (i + 1) next (set list i factor)
more_written F carried n x i factor next list below enough element is so_far = record {
  long = length-set list i factor ∙ so_far.long;
  element = element;
  next = λ more. is ∙ ap (mul F 2) (so_far.next below) ∙ next_power F carried i x more;
  powers = λ j less. elim (cases_eq j i) [
    | inl here ↦ ap (λ k. get_or (set list i factor) k 0) here ∙ here_is ∙ so_far.next below ∙ ap (λ k. mul F (2 ^ k) x) (sym here)
    | inr away ↦ get_or-set_other list i j factor 0 away ∙ so_far.powers j (omega (arith, less, away))
  ];
  small = λ j. let P : ℕ → Type 0 = λ y. y < 2 ^ F.degree in elim (cases_eq j i) [
    | inl here ↦ subst P (sym (ap (λ k. get_or (set list i factor) k 0) here ∙ here_is)) so_far.element
    | inr away ↦ subst P (sym (get_or-set_other list i j factor 0 away)) (so_far.small j)
  ];
  rest = λ j from. get_or-set_other list i j factor 0 (λ here. omega (arith, here, from)) ∙ so_far.rest j (omega (arith, from));
}
  where
    here_is : get_or (set list i factor) i 0 ≡ factor
    here_is = get_or-set_same list i factor 0 (let l = so_far.long in omega (arith, l, below, enough))
