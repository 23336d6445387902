-- Products of packed matrices by their slices.
use Rattle.std.proofs.Common.{◌≡◌, ℕ, suc, zero, ◌+◌, ◌-◌, ◌*◌, ◌^◌, ◌<◌, take, sym, ◌∙◌, ap, ap₂, arith, bit_xor}
use Rattle.std.proofs.Math.Pow.{pow_pos}
use Rattle.std.specs.Int.Bits.{xor_lt}
use Rattle.m4_model.specs.Field.{Field, IsCarried, sum_below, clmul, mul, rem}
use Rattle.m4_model.specs.Matrix.{Matrix, IsMatrix, at, product, matrix_of}
use Rattle.m4_model.proofs.FieldLemmas.{sum_below-same}
use Rattle.m4_model.proofs.MatrixLemmas.{at-table}
use Rattle.m4_model.proofs.Remainder.{congruent_sym, congruent_trans, congruent_sum, congruent_small, rem_congruent, rem_small, rem_element}
use Rattle.m4_mzd.specs.Window.{Window, content, showing}
use Rattle.m4_mzd.specs.Seen.{shown}
use Rattle.m4_slice.specs.Sliced.{sliced, joined}
use Rattle.m4_slice.proofs.LoadLemmas.{table_same}
use Rattle.m4_slice.proofs.OwnedLemmas.{joined_sliced}
use Rattle.m4_karatsuba.specs.Polynomials.{polynomial, product_at}
use Rattle.m4_karatsuba.specs.Factors.{product_of}
use Rattle.m4_karatsuba.specs.Rooms.{HoldsProduct}
use Rattle.m4_karatsuba.specs.Engine.{remainders_of}
use Rattle.m4_karatsuba.specs.declared.factors.Factors.{Factors}
use Rattle.m4_karatsuba.proofs.ReductionLemmas.{carried_top, polynomial-first}

-- ---- remainders of sums
rem_xor : (F : Field) → IsCarried F → (a b : ℕ) → rem F (bit_xor a b) ≡ bit_xor (rem F a) (rem F b)
rem_xor F is a b =
    let top = carried_top F is in
    congruent_small F.degree F.poly (rem F (bit_xor a b)) (bit_xor (rem F a) (rem F b)) top (rem_small F top (bit_xor a b)) (xor_lt F.degree (rem F a) (rem F b) (rem_small F top a) (rem_small F top b))
    (congruent_trans F.poly (rem F (bit_xor a b)) (bit_xor a b) (bit_xor (rem F a) (rem F b)) (congruent_sym F.poly (bit_xor a b) (rem F (bit_xor a b)) (rem_congruent F top (bit_xor a b)))
    (congruent_sum F.poly a (rem F a) b (rem F b) (rem_congruent F top a) (rem_congruent F top b)))

rem_sum : (F : Field) → IsCarried F → (n : ℕ) (g : ℕ → ℕ) → rem F (sum_below n g) ≡ sum_below n (λ t. rem F (g t))
unfolding sum_below
rem_sum F is zero g = rem_element F (carried_top F is) 0 (pow_pos F.degree)
rem_sum F is (suc n) g = rem_xor F is (sum_below n g) (g n) ∙ ap (λ x. bit_xor x (rem F (g n))) (rem_sum F is n g)

-- ---- the polynomials of a matrix are its entries
pub polynomial-sliced : (m : ℕ) (A S : Matrix) (w now : Window) → IsMatrix A → A.rows ≡ m → now ≡ showing w (sliced A) → S ≡ content now → (i j : ℕ) → i < m → j < A.cols
    → polynomial A.field.degree m S i j ≡ at A i j
unfolding polynomial
polynomial-sliced m A S w now is rows loaded seen i j below within =
    let e : ℕ = A.field.degree in
    ap (λ (M : Matrix). polynomial e m M i j) (seen ∙ ap content loaded)
    ∙ ap (λ k. polynomial e k (sliced A) i j) (sym rows)
    ∙ sym (at-table A.rows A.cols (λ i j. sum_below e (λ v. at (sliced A) (v * A.rows + i) j * 2 ^ v)) i j (omega (arith, rows, below)) within)
    ∙ ap (λ (M : Matrix). at M i j) (joined_sliced A is)

-- ---- remainders of the product of slices
pub product_remainders : (F : Field) (f : Factors) (A B : Matrix) → IsCarried F → A.field ≡ F → f.shape.m ≡ A.rows → f.shape.l ≡ A.cols → f.shape.n ≡ B.cols
    → ((i t : ℕ) → i < f.shape.m → t < f.shape.l → polynomial f.count f.shape.m (shown f.a) i t ≡ at A i t)
    → ((t j : ℕ) → t < f.shape.l → j < f.shape.n → polynomial f.count f.shape.l (shown f.b) t j ≡ at B t j)
    → remainders_of F f ≡ product A B
unfolding product_at mul
product_remainders F f A B is over m l n first second =
    let s = f.shape in
    (λ q. matrix_of (sym over q) s.m s.n (λ i j. rem F (product_of f i j)))
    ∙ ap {B = Matrix} (λ rows. record (product A B) { rows = s.m; cols = s.n; entries = rows }) (table_same s.m s.n (λ i j. rem F (product_of f i j)) (λ i j. sum_below A.cols (λ t. mul A.field (at A i t) (at B t j))) (λ i j below within.
    rem_sum F is s.l (λ t. clmul (polynomial f.count s.m (shown f.a) i t) (polynomial f.count s.l (shown f.b) t j))
    ∙ sum_below-same s.l _ _ (λ t inside. ap (rem F) (ap₂ clmul (first i t below inside) (second t j inside within)))
    ∙ ap₂ (λ k (H : Field). sum_below k (λ t. mul H (at A i t) (at B t j))) l (sym over)))
    ∙ (λ q. matrix_of A.field (m q) (n q) (λ i j. sum_below A.cols (λ t. mul A.field (at A i t) (at B t j))))

-- ---- slices of the remainders
pub joined_remainders : (F : Field) (f : Factors) (w now : Window) (S : Matrix) (rows : ℕ) → F.degree ≡ f.count → rows ≡ f.shape.m → S.cols ≡ f.shape.n
    → HoldsProduct (2 * f.count - 1) f.shape w (product_of f)
    → ((i j : ℕ) → i < f.shape.m → j < f.shape.n → polynomial F.degree f.shape.m (content now) i j ≡ rem F (polynomial (2 * F.degree - 1) f.shape.m (content w) i j))
    → S.entries ≡ take (f.count * f.shape.m) now.bits → joined F F.degree rows S ≡ remainders_of F f
unfolding polynomial
joined_remainders F f w now S rows degree same cols holds reduced slices =
    let s = f.shape in
    (λ q. joined F F.degree (same q) (record S { cols = cols q }))
    ∙ ap {B = Matrix} (λ e. record { field = F; rows = s.m; cols = s.n; entries = e }) (table_same s.m s.n (λ i j. sum_below F.degree (λ v. at S (v * s.m + i) j * 2 ^ v)) (λ i j. rem F (product_of f i j)) (λ i j below within.
    ap (λ e. polynomial e s.m S i j) degree
    ∙ polynomial-first f.count s.m (content now) S i j slices below
    ∙ ap (λ e. polynomial e s.m (content now) i j) (sym degree)
    ∙ reduced i j below within
    ∙ ap (λ e. rem F (polynomial (2 * e - 1) s.m (content w) i j)) degree
    ∙ ap (rem F) (holds.entries i j below within)))
