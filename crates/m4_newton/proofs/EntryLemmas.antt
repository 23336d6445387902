-- Multiples of a row as sums of others, put one after another.
use Rattle.std.proofs.Common.{◌≡◌, ◌≢◌, ℕ, suc, ◌+◌, ◌*◌, ◌^◌, ◌<◌, ◌≤◌, inl, inr, List, [], ◌∷◌, length, refl, sym, ◌∙◌, ap, ap₂, subst, arith, bit_xor}
use Rattle.std.specs.Prelude.{replicate}
use Rattle.std.specs.List.{All}
use Rattle.std.specs.Int.Bits.{xor_comm, xor_shifted}
use Rattle.std.proofs.Math.Nat.{pow-suc}
use Rattle.std.proofs.Math.Pow.{pow_mono}
use Rattle.std.proofs.lemmas.Nat.{pow-add}
use Rattle.std.proofs.lemmas.Bool.{cases_lt}
use Rattle.std.proofs.lemmas.List.{get_or-set_same, get_or-set_other}
use Rattle.std.proofs.lemmas.List.Elements.{All-from_get_or, All-head, All-tail}
use Rattle.m4_model.specs.Field.{Field, IsCarried, IsElement}
use Rattle.m4_model.specs.Matrix.{Matrix, IsMatrix, row, row_sum, with_row}
use Rattle.m4_model.proofs.SumLemmas.{mul-xor_left, mul-one_right}
use Rattle.m4_model.proofs.Polynomials.{xor_shift}
use Rattle.m4_field.proofs.ProductSteps.{carried_laws}
use Rattle.m4_mul.proofs.PlainLemmas.{with_row-with_row}
use Rattle.m4_mzd.specs.Rows.{sum_from}
use Rattle.m4_mzed.specs.EWindow.{EWindow, content, showing}
use Rattle.m4_mzed.specs.Rows.{multiples}
use Rattle.m4_newton.specs.Entries.{AreEntries}
use Rattle.m4_newton.proofs.PowerLemmas.{cleared_and_added}

-- the sum of two multiples
pub multiples_sum : (F : Field) → IsCarried F → (a b : ℕ) (xs : List ℕ) → row_sum (multiples F a xs) (multiples F b xs) ≡ multiples F (bit_xor a b) xs
multiples_sum F carried a b [] = refl
multiples_sum F carried a b (x ∷ xs) =
    let laws = carried_laws F carried in
    ap₂ (λ y ys. y ∷ ys)
    (ap₂ bit_xor (laws.comm x a) (laws.comm x b) ∙ sym (mul-xor_left F laws a b x) ∙ laws.comm (bit_xor a b) x)
    (multiples_sum F carried a b xs)

-- a row times 1
pub multiples_one : (F : Field) → IsCarried F → (xs : List ℕ) → All (IsElement F) xs → multiples F 1 xs ≡ xs
multiples_one F carried [] all = refl
multiples_one F carried (x ∷ xs) all =
    ap₂ (λ y ys. y ∷ ys) (mul-one_right F (carried_laws F carried) x (All-head (IsElement F) x xs all)) (multiples_one F carried xs (All-tail (IsElement F) x xs all))

pub row_elements : (A : Matrix) (i : ℕ) → IsMatrix A → i < A.rows → All (IsElement A.field) (row A i)
row_elements A i is below = All-from_get_or (IsElement A.field) (row A i) 0 (λ j inside. is.elements i j below (omega (arith, is.width i below, inside)))

-- a row that was cleared, and to which two others were added
pub summed : (w cleared first next : EWindow) (r s q : ℕ) → IsCarried w.field → IsMatrix (content w) → r < w.rows → s < w.rows → q < w.rows → r ≢ s → r ≢ q
    → cleared ≡ showing w (with_row (content w) r (replicate w.cols 0))
    → first ≡ showing cleared (with_row (content cleared) r (sum_from 0 (row (content cleared) r) (multiples cleared.field 1 (row (content cleared) s))))
    → next ≡ showing first (with_row (content first) r (sum_from 0 (row (content first) r) (multiples first.field 1 (row (content first) q))))
    → next ≡ showing w (with_row (content w) r (row_sum (row (content w) s) (row (content w) q)))
summed w cleared first next r s q carried is r_below s_below q_below not_s not_q c f n =
    let F = w.field in
    let high : r < length w.entries = omega (arith, is.height, r_below) in
    let xs = row (content w) s in
    let ys = row (content w) q in
    let zeros = replicate w.cols 0 in
    let s_kept : row (content cleared) s ≡ xs = ap (λ (v : EWindow). row (content v) s) c ∙ get_or-set_other w.entries r s zeros [] (λ e. not_s (sym e)) in
    let added : first ≡ showing cleared (with_row (content cleared) r (row_sum (row (content cleared) r) xs))
    = f ∙ ap₂ (λ (G : Field) zs. showing cleared (with_row (content cleared) r (row_sum (row (content cleared) r) (multiples G 1 zs)))) (ap (λ (v : EWindow). v.field) c) s_kept
    ∙ ap (λ zs. showing cleared (with_row (content cleared) r (row_sum (row (content cleared) r) zs))) (multiples_one F carried xs (row_elements (content w) s is s_below)) in
    let one : first ≡ showing w (with_row (content w) r xs) = cleared_and_added w cleared first r xs is r_below (is.width s s_below) c added in
    let r_is : row (content first) r ≡ xs = ap (λ (v : EWindow). row (content v) r) one ∙ get_or-set_same w.entries r xs [] high in
    let q_kept : row (content first) q ≡ ys = ap (λ (v : EWindow). row (content v) q) one ∙ get_or-set_other w.entries r q xs [] (λ e. not_q (sym e)) in
    let ones : multiples first.field 1 (row (content first) q) ≡ ys
    = ap₂ (λ (G : Field) zs. multiples G 1 zs) (ap (λ (v : EWindow). v.field) one) q_kept ∙ multiples_one F carried ys (row_elements (content w) q is q_below) in
    n ∙ ap₂ (λ us zs. showing first (with_row (content first) r (row_sum us zs))) r_is ones
    ∙ ap (λ (v : EWindow). showing v (with_row (content v) r (row_sum xs ys))) one
    ∙ ap (showing w) (with_row-with_row (content w) r xs (row_sum xs ys))

-- ---- entries so far
pub more_entries : (first now next : EWindow) (xs new : List ℕ) (base shift count : ℕ) → base + count < length now.entries
    → next ≡ showing now (with_row (content now) (base + count) new) → new ≡ multiples first.field (count * 2 ^ shift) xs
    → AreEntries first now xs base shift count → AreEntries first next xs base shift (count + 1)
more_entries first now next xs new base shift count high written is so_far =
    let other : (i : ℕ) → i ≢ base + count → row (content next) i ≡ row (content now) i
    = λ i away. ap (λ (v : EWindow). row (content v) i) written ∙ get_or-set_other now.entries (base + count) i new [] away in
    let same : row (content next) (base + count) ≡ new
    = ap (λ (v : EWindow). row (content v) (base + count)) written ∙ get_or-set_same now.entries (base + count) new [] high in
    record {
      kept = written ∙ ap (λ (v : EWindow). showing v (with_row (content now) (base + count) new)) so_far.kept ∙ ap (λ (A : Matrix). showing first A) (sym (ap content written));
      entries = λ x less. elim (cases_lt x count) [
        | inl earlier ↦ other (base + x) (λ e. omega (arith, e, earlier)) ∙ so_far.entries x earlier
        | inr past ↦ let here : x ≡ count = omega (arith, less, past) in
            ap (λ k. row (content next) (base + k)) here ∙ same ∙ is ∙ ap (λ k. multiples first.field (k * 2 ^ shift) xs) (sym here)
      ];
      before = λ i less. other i (λ e. omega (arith, e, less)) ∙ so_far.before i less;
    }

pub no_entries : (old : EWindow) (xs : List ℕ) (base shift : ℕ) → AreEntries old old xs base shift 0
no_entries old xs base shift = record { kept = refl; entries = λ x none. absurd (omega (arith, none)); before = λ i less. refl }

-- the first entry
pub first_entry : (old next : EWindow) (xs : List ℕ) (base shift : ℕ) → base < length old.entries
    → next ≡ showing old (with_row (content old) base (multiples old.field 0 xs)) → AreEntries old next xs base shift 1
first_entry old next xs base shift high written =
    let place : base + 0 ≡ base = omega arith in
    let none : 0 ≡ 0 * 2 ^ shift = omega arith in
    let one : 0 + 1 ≡ 1 = omega arith in
    let P : ℕ → Type 0 = AreEntries old next xs base shift in
    subst P one (more_entries old old next xs (multiples old.field 0 xs) base shift 0 (omega (arith, high))
    (written ∙ ap (λ k. showing old (with_row (content old) k (multiples old.field 0 xs))) (sym place)) (ap (λ k. multiples old.field k xs) none) (no_entries old xs base shift))

-- an entry that is a sum
pub sum_entry : (first now next : EWindow) (xs : List ℕ) (base shift u y : ℕ) → IsCarried first.field → base + (2 ^ u + y) < length now.entries → y < 2 ^ u
    → next ≡ showing now (with_row (content now) (base + (2 ^ u + y)) (row_sum (row (content now) (base + y)) (row (content now) (base + 2 ^ u))))
    → 0 < y → AreEntries first now xs base shift (2 ^ u + y) → AreEntries first next xs base shift (2 ^ u + y + 1)
sum_entry first now next xs base shift u y carried high below written some so_far =
    let F = first.field in
    let one : bit_xor y (2 ^ u) ≡ 2 ^ u + y
    = xor_comm y (2 ^ u) ∙ ap (λ k. bit_xor k y) (let e : 2 ^ u ≡ 1 * 2 ^ u = omega arith in e) ∙ xor_shifted 1 u y below ∙ (let e : 1 * 2 ^ u + y ≡ 2 ^ u + y = omega arith in e) in
    more_entries first now next xs (row_sum (row (content now) (base + y)) (row (content now) (base + 2 ^ u))) base shift (2 ^ u + y) high written
    (ap₂ row_sum (so_far.entries y (omega (arith, below))) (so_far.entries (2 ^ u) (omega (arith, some)))
    ∙ multiples_sum F carried (y * 2 ^ shift) (2 ^ u * 2 ^ shift) xs
    ∙ ap (λ k. multiples F k xs) (xor_shift y (2 ^ u) shift ∙ ap (λ k. k * 2 ^ shift) one))
    so_far

-- the entries for the multiples by a power of x more
pub top_entry : (first now next : EWindow) (xs : List ℕ) (base shift u x : ℕ) → base + 2 ^ u < length now.entries → x ≡ 2 ^ (shift + u)
    → next ≡ showing now (with_row (content now) (base + 2 ^ u) (multiples now.field x xs))
    → AreEntries first now xs base shift (2 ^ u) → AreEntries first next xs base shift (2 ^ u + 1)
top_entry first now next xs base shift u x high power written so_far =
    let same : x ≡ 2 ^ u * 2 ^ shift = power ∙ ap (λ k. 2 ^ k) (let e : shift + u ≡ u + shift = omega arith in e) ∙ pow-add 2 u shift in
    more_entries first now next xs (multiples now.field x xs) base shift (2 ^ u) high written
    (ap₂ (λ (v : EWindow) k. multiples v.field k xs) so_far.kept same) so_far

-- twice as many
pub doubled : (u : ℕ) → 2 ^ (u + 1) ≡ 2 ^ u + 2 ^ u
doubled u = let e : u + 1 ≡ suc u = omega arith in ap (λ k. 2 ^ k) e ∙ (let p = pow-suc 2 u in omega (arith, p))

-- 1 is an element
pub one_small : (F : Field) → IsCarried F → 1 < 2 ^ F.degree
one_small F carried = let m = pow_mono {i = 1} {j = F.degree} carried.degree_low in omega (arith, m)

-- a smaller power of 2
pub fewer : (u bits : ℕ) → u < bits → 2 ^ (u + 1) ≤ 2 ^ bits
fewer u bits less = pow_mono {i = u + 1} {j = bits} (omega (arith, less))

-- a window with other entries, twice
pub kept_on : (old now next : EWindow) (A : Matrix) → now ≡ showing old (content now) → next ≡ showing now A → next ≡ showing old (content next)
kept_on old now next A kept written = written ∙ ap (λ (v : EWindow). showing v A) kept ∙ ap (λ (M : Matrix). showing old M) (sym (ap content written))
