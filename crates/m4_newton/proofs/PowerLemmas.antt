-- The multiples of rows by powers of x, put one after another.
use Rattle.std.proofs.Common.{◌≡◌, ◌≢◌, ℕ, zero, suc, ◌+◌, ◌*◌, ◌%◌, ◌^◌, ◌<◌, ◌≤◌, inl, inr, List, [], ◌∷◌, length, refl, sym, ◌∙◌, ap, ap₂, subst, arith, mod-eq_of_lt}
use Rattle.std.specs.Prelude.{replicate}
use Rattle.std.specs.Int.Bits.{xor_zero_l}
use Rattle.std.proofs.Math.Pow.{pow_mono, pow_pos}
use Rattle.std.proofs.Math.Nat.{pow-suc}
use Rattle.std.proofs.lemmas.Bool.{cases_lt}
use Rattle.std.proofs.lemmas.List.{get_or-set_same, get_or-set_other}
use Rattle.m4_model.specs.Field.{Field, IsCarried, width}
use Rattle.m4_model.specs.Matrix.{Matrix, IsMatrix, row, row_sum, with_row}
use Rattle.m4_field.proofs.WidthLemmas.{width_facts}
use Rattle.m4_mul.proofs.PlainLemmas.{with_row-with_row}
use Rattle.m4_mzed.specs.EWindow.{EWindow, content, showing}
use Rattle.m4_mzed.specs.Rows.{multiples}
use Rattle.m4_newton.specs.Multiples.{HasMultiples}

-- zeros and a row
zeros_and : (n : ℕ) (xs : List ℕ) → length xs ≡ n → row_sum (replicate n 0) xs ≡ xs
zeros_and zero [] long = refl
zeros_and zero (x ∷ xs) long = absurd (omega arith)
zeros_and (suc n) [] long = absurd (omega arith)
zeros_and (suc n) (x ∷ xs) long = ap₂ (λ y ys. y ∷ ys) (xor_zero_l x) (zeros_and n xs (omega (arith, long)))

-- a row that was cleared, and to which another was added
pub cleared_and_added : (w cleared next : EWindow) (r : ℕ) (xs : List ℕ) → IsMatrix (content w) → r < w.rows → length xs ≡ w.cols
    → cleared ≡ showing w (with_row (content w) r (replicate w.cols 0))
    → next ≡ showing cleared (with_row (content cleared) r (row_sum (row (content cleared) r) xs))
    → next ≡ showing w (with_row (content w) r xs)
cleared_and_added w cleared next r xs is below long first second =
    let high : r < length w.entries = omega (arith, is.height, below) in
    second
    ∙ ap (λ (v : EWindow). showing v (with_row (content v) r (row_sum (row (content v) r) xs))) first
    ∙ ap (λ ys. showing w (with_row (with_row (content w) r (replicate w.cols 0)) r (row_sum ys xs))) (get_or-set_same w.entries r (replicate w.cols 0) [] high)
    ∙ ap (λ ys. showing w (with_row (with_row (content w) r (replicate w.cols 0)) r ys)) (zeros_and w.cols xs long)
    ∙ ap (showing w) (with_row-with_row (content w) r (replicate w.cols 0) xs)

-- the multiples of a row so far
pub record ArePut (old now : EWindow) (B : Matrix) (first t count : ℕ) : Type 0 where
  pub kept : now ≡ showing old (content now)
  pub powers : (u : ℕ) → u < count → row (content now) (first + u) ≡ multiples old.field (2 ^ u) (row B t)
  pub before : (i : ℕ) → i < first → row (content now) i ≡ row (content old) i
  pub after : (i : ℕ) → first + count ≤ i → row (content now) i ≡ row (content old) i

pub none_put : (old : EWindow) (B : Matrix) (first t : ℕ) → ArePut old old B first t 0
none_put old B first t = record { kept = refl; powers = λ u none. absurd (omega (arith, none)); before = λ i less. refl; after = λ i more. refl }

pub more_put : (old now next : EWindow) (B : Matrix) (first t u x : ℕ) → first + u < length now.entries → x ≡ 2 ^ u
    → next ≡ showing now (with_row (content now) (first + u) (multiples now.field x (row B t)))
    → ArePut old now B first t u → ArePut old next B first t (u + 1)
more_put old now next B first t u x high power written so_far =
    let xs = multiples now.field x (row B t) in
    let other : (i : ℕ) → i ≢ first + u → row (content next) i ≡ row (content now) i
    = λ i away. ap (λ (v : EWindow). row (content v) i) written ∙ get_or-set_other now.entries (first + u) i xs [] away in
    let same : row (content next) (first + u) ≡ multiples old.field (2 ^ u) (row B t)
    = ap (λ (v : EWindow). row (content v) (first + u)) written ∙ get_or-set_same now.entries (first + u) xs [] high
    ∙ ap₂ (λ (v : EWindow) y. multiples v.field y (row B t)) so_far.kept power in
    record {
      kept = written ∙ ap (λ (v : EWindow). showing v (with_row (content now) (first + u) xs)) so_far.kept ∙ ap (λ (A : Matrix). showing old A) (sym (ap content written));
      powers = λ v less. elim (cases_lt v u) [
        | inl before ↦ other (first + v) (λ is. omega (arith, is, before)) ∙ so_far.powers v before
        | inr past ↦ let here : v ≡ u = omega (arith, less, past) in
            ap (λ k. row (content next) (first + k)) here ∙ same ∙ ap (λ k. multiples old.field (2 ^ k) (row B t)) (sym here)
      ];
      before = λ i less. other i (λ is. omega (arith, is, less)) ∙ so_far.before i less;
      after = λ i more. other i (λ is. omega (arith, is, more)) ∙ so_far.after i (omega (arith, more));
    }

-- a power of x as a number of 32 bits, and as an element
pub power_is : (e u : ℕ) → e ≤ 16 → u < e → 1 * 2 ^ u % 2 ^ 32 ≡ 2 ^ u
power_is e u few below = let m = pow_mono {i = u} {j = 16} (omega (arith, few, below)) in let one : 1 * 2 ^ u ≡ 2 ^ u = omega arith in ap (λ n. n % 2 ^ 32) one ∙ mod-eq_of_lt (omega (arith, m))

pub power_small : (e u x : ℕ) → e ≤ 16 → u < e → x ≡ 1 * 2 ^ u % 2 ^ 32 → x < 2 ^ e
power_small e u x few below is =
    let m = pow_mono {i = suc u} {j = e} below in let p = pow-suc 2 u in let q = pow_pos u in let f = power_is e u few below in omega (arith, m, p, q, f, is)

-- the rows of an element's multiples lie within those of all
pub rows_fit : (t n w e rows : ℕ) → t < n → e ≤ w → rows ≡ n * w → t * w + e ≤ rows
rows_fit t n w e rows below room is = let m : t * w + w ≤ n * w = grind arith in omega (arith, m, room, is)

-- the multiples of one row more
pub more_rows : (old now next : EWindow) (B : Matrix) (t : ℕ) → IsCarried now.field → now ≡ showing old (content now)
    → next ≡ showing now (content next)
    → ((u : ℕ) → u < now.field.degree → row (content next) (t * width now.field + u) ≡ multiples now.field (2 ^ u) (row B t))
    → ((i : ℕ) → i < t * width now.field → row (content next) i ≡ row (content now) i)
    → HasMultiples (content now) B t → (next ≡ showing old (content next)) × HasMultiples (content next) B (t + 1)
more_rows old now next B t carried kept written powers before so_far = (
  written ∙ ap (λ (v : EWindow). showing v (content next)) kept,
  (let P : Field → Type 0 = λ F. (s u : ℕ) → s < t + 1 → u < F.degree → row (content next) (s * width F + u) ≡ multiples F (2 ^ u) (row B s) in
      record { powers = subst P (sym (ap (λ (v : EWindow). v.field) written)) all }),
)
  where
    all : (s u : ℕ) → s < t + 1 → u < now.field.degree → row (content next) (s * width now.field + u) ≡ multiples now.field (2 ^ u) (row B s)
    all s u less u_below = elim (cases_lt s t) [
      | inl earlier ↦
          before (s * width now.field + u) (let f = rows_fit s t (width now.field) (u + 1) (t * width now.field) earlier (let r = (width_facts now.field carried).room in omega (arith, r, u_below)) refl in omega (arith, f))
          ∙ so_far.powers s u earlier u_below
      | inr past ↦ let here : s ≡ t = omega (arith, less, past) in
          ap (λ k. row (content next) (k * width now.field + u)) here ∙ powers u u_below ∙ ap (λ k. multiples now.field (2 ^ u) (row B k)) (sym here)
    ]

pub no_rows : (M B : Matrix) → HasMultiples M B 0
no_rows M B = record { powers = λ t u none. absurd (omega (arith, none)) }
