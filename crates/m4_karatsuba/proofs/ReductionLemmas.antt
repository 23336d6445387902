-- The slices from the degree on, folded into those below them.
use Rattle.std.proofs.Common.{◌≡◌, ◌≢◌, ℕ, bit_and, inl, inr, suc, zero, ◌+◌, ◌-◌, ◌*◌, ◌/◌, ◌^◌, ◌<◌, ◌≤◌, List, [], length, get_or, take, drop, ◌++◌, get_or-take, get_or-drop, refl, sym, ◌∙◌, ap, subst, arith, bit_xor}
use Rattle.std.proofs.Math.Nat.{mul-le-mul_right, pow-suc}
use Rattle.std.proofs.Math.Pow.{pow_mono}
use Rattle.std.proofs.lemmas.List.{get_or_append_left}
use Rattle.std.proofs.lemmas.Nat.{pow-add}
use Rattle.std.proofs.lemmas.Nat.Bits.{bit_at-suc, bit_at-lt, shr_and_one}
use Rattle.std.proofs.lemmas.Bool.{cases_eq}
use Rattle.std.specs.Int.{bit_at}
use Rattle.std.specs.Int.Bits.{xor_zero_l, xor_zero_r, xor_self}
use Rattle.m4_model.specs.Field.{Field, IsElement, gf2, IsCarried, bit_length, sum_below, clmul, rem}
use Rattle.m4_model.specs.Matrix.{Matrix, IsMatrix, at}
use Rattle.m4_model.proofs.FieldLemmas.{sum_below-more, sum_below-same}
use Rattle.m4_model.proofs.Polynomials.{xor_exchange, clmul_comm}
use Rattle.m4_model.proofs.Division.{IsTop, top_of}
use Rattle.m4_model.proofs.Remainder.{rem_same, rem_element}
use Rattle.m4_mzd.specs.Window.{Window, content, showing}
use Rattle.m4_mzd.specs.declared.add_mul.Shape.{Shape}
use Rattle.m4_mzd.proofs.PairLemmas.{upper, lower, stacked}
use Rattle.m4_slice.proofs.JoinedLemmas.{number_small}
use Rattle.m4_karatsuba.specs.Polynomials.{polynomial, added_from}
use Rattle.m4_karatsuba.specs.Factors.{HasSlices, IsAdded}
use Rattle.m4_karatsuba.specs.Reduced.{terms_of}
use Rattle.m4_karatsuba.proofs.PolynomialLemmas.{polynomial-one}
use Rattle.m4_karatsuba.proofs.StepLemmas.{added_once}
use Rattle.m4_karatsuba.proofs.SliceLemmas.{both_added, kept_of, same_added}

-- ---- the highest bit
no_higher : (e m c : ℕ) → 2 ^ e ≤ c → c < 2 ^ suc m → e ≤ m
no_higher e m c low high = elim (e - m) as (λ d. d ≡ e - m → e ≤ m) [
  | zero ↦ λ is. omega arith
  | suc d ↦ λ is. absurd (let mono = pow_mono {i = suc m} {j = e} (omega arith) in omega arith)
] refl

one_top : (j k n : ℕ) → IsTop j n → IsTop k n → j ≡ k
one_top j k n a b = let x = no_higher j k n a.low b.high in let y = no_higher k j n b.low a.high in omega (arith, x, y)

pub carried_top : (F : Field) → IsCarried F → IsTop F.degree F.poly
carried_top F is = record { low = is.poly_low; high = (let e : F.degree + 1 ≡ suc F.degree = omega arith in subst (λ k. F.poly < 2 ^ k) e is.poly_high) }

bits_of_top : (k n : ℕ) → 0 < n → IsTop k n → bit_length n ≡ suc k
bits_of_top k n some top = let t = top_of n some in t.1 ∙ ap suc (one_top t.0 k n t.2 top)

-- ---- a slice stands for the terms below it
whole_terms : (F : Field) (first b v : ℕ) → IsCarried F → v ≡ first + F.degree → bit_at F.poly F.degree ≡ 1
    → bit_xor (terms_of F first b) (b * 2 ^ v) ≡ clmul (b * 2 ^ first) F.poly
unfolding clmul sum_below
whole_terms F first b v is place highest =
    let some : 0 < F.poly = (let p = is.poly_low in let q = pow_some F.degree in omega (arith, p, q)) in
    let top : b * 2 ^ v ≡ bit_at F.poly F.degree * (b * 2 ^ first * 2 ^ F.degree)
    = ap (λ k. b * 2 ^ k) place ∙ (let e : 2 ^ (first + F.degree) ≡ 2 ^ first * 2 ^ F.degree = pow-add 2 first F.degree in rw e (rw highest (grind arith))) in
    ap (bit_xor (terms_of F first b)) top
    ∙ sym (ap (λ n. sum_below n (λ i. bit_at F.poly i * (b * 2 ^ first * 2 ^ i))) (bits_of_top F.degree F.poly some (carried_top F is)))
  where
    pow_some : (k : ℕ) → 0 < 2 ^ k
    pow_some k = pow_mono {i = 0} {j = k} (omega arith)

top_bit : (k n : ℕ) → IsTop k n → bit_at n k ≡ 1
top_bit zero n top = (let e : n ≡ 1 = omega (arith, top.low, top.high) in rw e refl)
top_bit (suc k) n top =
    let p : 2 ^ suc k ≡ 2 * 2 ^ k = pow_next k in
    let q : 2 ^ suc (suc k) ≡ 2 * 2 ^ suc k = pow_next (suc k) in
    bit_at-suc n k ∙ top_bit k (n / 2) (record { low = omega (arith, p, q, top.low, top.high); high = omega (arith, p, q, top.low, top.high) })
  where
    pow_next : (k : ℕ) → 2 ^ suc k ≡ 2 * 2 ^ k
    pow_next k = pow-suc 2 k ∙ (omega arith)

-- up to a multiple of the polynomial
pub folded : (F : Field) (first b v p : ℕ) → IsCarried F → v ≡ first + F.degree → rem F (bit_xor p (terms_of F first b)) ≡ rem F (bit_xor p (b * 2 ^ v))
folded F first b v p is place =
    let x : ℕ = terms_of F first b in
    let y : ℕ = b * 2 ^ v in
    rem_same F (carried_top F is) (bit_xor p x) (bit_xor p y) (record {
      multiple = b * 2 ^ first;
      difference = xor_exchange p x p y ∙ ap (λ z. bit_xor z (bit_xor x y)) (xor_self p) ∙ xor_zero_l (bit_xor x y)
          ∙ whole_terms F first b v is place (top_bit F.degree F.poly (carried_top F is)) ∙ clmul_comm (b * 2 ^ first) F.poly;
    })

-- ---- polynomials of parts
polynomial-next : (v m : ℕ) (A : Matrix) (i j : ℕ) → polynomial (v + 1) m A i j ≡ bit_xor (polynomial v m A i j) (at A (v * m + i) j * 2 ^ v)
unfolding polynomial
polynomial-next v m A i j = sum_below-more v (λ u. at A (u * m + i) j * 2 ^ u)

inside : (v u m i : ℕ) → u < v → i < m → u * m + i < v * m
inside v u m i less below = grind arith

-- of the first rows
pub polynomial-first : (v m : ℕ) (A B : Matrix) (i j : ℕ) → B.entries ≡ take (v * m) A.entries → i < m → polynomial v m B i j ≡ polynomial v m A i j
unfolding polynomial
polynomial-first v m A B i j is below = sum_below-same v _ _ (λ u less.
    ap (λ (l : List ℕ). get_or l j 0 * 2 ^ u)
    (ap (λ (rows : List (List ℕ)). get_or rows (u * m + i) []) is ∙ get_or-take (v * m) A.entries (u * m + i) [] (inside v u m i less below)))

-- of rows with others below them
polynomial-above : (v m : ℕ) (A B : Matrix) (below : List (List ℕ)) (i j : ℕ) → A.entries ≡ B.entries ++ below → length B.entries ≡ v * m → i < m → polynomial v m A i j ≡ polynomial v m B i j
unfolding polynomial
polynomial-above v m A B below i j is long less = sum_below-same v _ _ (λ u within.
    let f = inside v u m i within less in
    ap (λ (l : List ℕ). get_or l j 0 * 2 ^ u)
    (ap (λ (rows : List (List ℕ)). get_or rows (u * m + i) []) is ∙ get_or_append_left B.entries below [] (u * m + i) (omega (arith, f, long))))

-- the slice right above them
slice_entry : (v m i j : ℕ) (A B : Matrix) → B.entries ≡ take m (drop (v * m) A.entries) → i < m → at B i j ≡ at A (v * m + i) j
slice_entry v m i j A B is below =
    ap (λ (l : List ℕ). get_or l j 0)
    (ap (λ (rows : List (List ℕ)). get_or rows i []) is ∙ get_or-take m (drop (v * m) A.entries) i [] below ∙ get_or-drop (v * m) A.entries i [])

-- ---- a slice that was folded
pub fold_remainder : (F : Field) (first v : ℕ) (s : Shape) (w low now high last : Window) (B : Matrix) → IsCarried F → v ≡ first + F.degree → low ≡ upper w (v * s.m) → high ≡ lower w (v * s.m)
    → IsAdded (first + F.degree) s low now (λ i j. terms_of F first (at B i j)) → length now.bits ≡ v * s.m → last ≡ stacked now high
    → B.entries ≡ take s.m high.bits → (i j : ℕ) → i < s.m → j < s.n
    → rem F (polynomial v s.m (content last) i j) ≡ rem F (polynomial (v + 1) s.m (content w) i j)
fold_remainder F first v s w low now high last B is place top bottom sum long joined slice i j below within =
    let b : at B i j ≡ at (content w) (v * s.m + i) j
    = slice_entry v s.m i j (content w) B (slice ∙ ap (λ (x : Window). take s.m x.bits) bottom) below in
    let p : ℕ = polynomial v s.m (content w) i j in
    let new : polynomial v s.m (content last) i j ≡ bit_xor p (terms_of F first (at B i j))
    = polynomial-above v s.m (content last) (content now) high.bits i j (ap (λ (x : Window). x.bits) joined) long below
    ∙ ap (λ k. polynomial k s.m (content now) i j) place ∙ sum.entries i j below within
    ∙ ap (λ q. bit_xor q (terms_of F first (at B i j))) (ap (λ k. polynomial k s.m (content low) i j) (sym place) ∙ polynomial-first v s.m (content w) (content low) i j (ap (λ (x : Window). x.bits) top) below) in
    ap (rem F) new ∙ folded F first (at B i j) v p is place ∙ ap (λ x. rem F (bit_xor p (x * 2 ^ v))) b ∙ ap (rem F) (sym (polynomial-next v s.m (content w) i j))

-- ---- terms
pub no_terms : (n : ℕ) (s : Shape) (w : Window) (g : ℕ → ℕ → ℕ → ℕ) → IsAdded n s w w (λ i j. sum_below 0 (g i j))
unfolding sum_below
no_terms n s w g = record { kept = refl; entries = λ i j below within. sym (xor_zero_r (polynomial n s.m (content w) i j)) }

pub more_terms : (n t : ℕ) (s : Shape) (w now next : Window) (g : ℕ → ℕ → ℕ → ℕ) → IsAdded n s w now (λ i j. sum_below t (g i j)) → IsAdded n s now next (λ i j. g i j t)
    → IsAdded n s w next (λ i j. sum_below (t + 1) (g i j))
more_terms n t s w now next g one two =
    same_added n s w next _ (λ i j. sum_below (t + 1) (g i j)) (both_added n s w now next (λ i j. sum_below t (g i j)) (λ i j. g i j t) one two) (λ i j _ _. sym (sum_below-more t (g i j)))

-- a term that is there
pub one_term : (n first t : ℕ) (s : Shape) (w next : Window) (B : Matrix) (poly : ℕ) → HasSlices n s w → first + t + 1 ≤ n → IsMatrix B → B.rows ≡ s.m → bit_at poly t ≡ 1
    → next ≡ showing w (added_from ((first + t) * s.m) (content w) B) → IsAdded n s w next (λ i j. bit_at poly t * (at B i j * 2 ^ first * 2 ^ t))
one_term n first t s w next B poly slices room matrix rows one is = record {
  kept = kept_of w next (added_from ((first + t) * s.m) (content w) B) is;
  entries = λ i j below within.
      added_once n 1 (first + t) s.m w next B room slices.rows (matrix.height ∙ rows ∙ (omega arith)) is i j below (omega (arith, within, slices.cols))
      ∙ ap (bit_xor (polynomial n s.m (content w) i j))
      (ap (λ x. x * 2 ^ (first + t)) (polynomial-one s.m B i j) ∙ term_is (at B i j) first t ∙ ap (λ x. x * (at B i j * 2 ^ first * 2 ^ t)) (sym one));
}
  where
    term_is : (b f t : ℕ) → b * 2 ^ (f + t) ≡ 1 * (b * 2 ^ f * 2 ^ t)
    term_is b f t = (let e : 2 ^ (f + t) ≡ 2 ^ f * 2 ^ t = pow-add 2 f t in rw e (grind arith))

-- one that isn't
pub no_term : (n first t : ℕ) (s : Shape) (w : Window) (B : Matrix) (poly : ℕ) → bit_at poly t ≡ 0 → IsAdded n s w w (λ i j. bit_at poly t * (at B i j * 2 ^ first * 2 ^ t))
no_term n first t s w B poly none = record {
  kept = refl;
  entries = λ i j below within.
      sym (ap (bit_xor (polynomial n s.m (content w) i j)) (ap (λ x. x * (at B i j * 2 ^ first * 2 ^ t)) none ∙ (omega arith)) ∙ xor_zero_r (polynomial n s.m (content w) i j));
}

-- ---- all of them
pub few_bits : (e m : ℕ) (A : Matrix) → IsMatrix A → A.field ≡ gf2 → e * m ≤ A.rows → (i j : ℕ) → i < m → j < A.cols → polynomial e m A i j < 2 ^ e
unfolding polynomial
few_bits e m A is over rows i j below within = number_small e (λ v. at A (v * m + i) j) (λ v less.
    let f = inside e v m i less below in
    let P : Field → Type 0 = λ H. IsElement H (at A (v * m + i) j) in
    subst P over (is.elements (v * m + i) j (omega (arith, f, rows)) within))

pub all_folded : (F : Field) (v : ℕ) (s : Shape) (first w : Window) → IsCarried F → v ≡ F.degree → HasSlices (2 * F.degree - 1) s first → IsMatrix (content w) → w ≡ showing first (content w)
    → (i j : ℕ) → i < s.m → j < s.n → rem F (polynomial v s.m (content w) i j) ≡ rem F (polynomial (2 * F.degree - 1) s.m (content first) i j)
    → polynomial F.degree s.m (content w) i j ≡ rem F (polynomial (2 * F.degree - 1) s.m (content first) i j)
all_folded F v s first w is all slices matrix kept i j below within so_far =
    let e : ℕ = F.degree in
    let rows : w.rows ≡ (2 * e - 1) * s.m = ap (λ (x : Window). x.rows) kept ∙ slices.rows in
    let cols : w.cols ≡ s.n = ap (λ (x : Window). x.cols) kept ∙ slices.cols in
    let high : e * s.m ≤ (2 * e - 1) * s.m = mul-le-mul_right s.m (omega (arith, is.degree_low)) in
    let small : polynomial e s.m (content w) i j < 2 ^ e = few_bits e s.m (content w) matrix refl (omega (arith, high, rows)) i j below (omega (arith, within, cols)) in
    sym (rem_element F (carried_top F is) (polynomial e s.m (content w) i j) small)
    ∙ ap (λ k. rem F (polynomial k s.m (content w) i j)) (sym all) ∙ so_far

pub no_term_of : (n first t : ℕ) (s : Shape) (w : Window) (B : Matrix) (poly : ℕ) → bit_and (poly / 2 ^ t) 1 ≢ 1 → IsAdded n s w w (λ i j. bit_at poly t * (at B i j * 2 ^ first * 2 ^ t))
no_term_of n first t s w B poly other =
    let bit : bit_at poly t ≡ 0 = let l = bit_at-lt poly t in elim (cases_eq (bit_at poly t) 1) [ inl one ↦ absurd (other (shr_and_one poly t ∙ one)) | inr away ↦ omega (arith, l, away) ] in
    no_term n first t s w B poly bit
