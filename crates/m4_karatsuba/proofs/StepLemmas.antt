-- The steps of a product of polynomials, over plain windows.
use Rattle.std.proofs.Common.{◌≡◌, ℕ, ◌+◌, ◌-◌, ◌*◌, ◌^◌, ◌<◌, ◌≤◌, length, sym, ◌∙◌, ap, ap₂, arith, bit_xor}
use Rattle.std.specs.Int.Bits.{xor_zero_l}
use Rattle.m4_model.specs.Field.{gf2}
use Rattle.m4_model.specs.Matrix.{Matrix, IsMatrix, added, product, zero_matrix}
use Rattle.m4_mzd.specs.Window.{Window, content, showing}
use Rattle.m4_karatsuba.specs.Polynomials.{polynomial, product_at, added_from}
use Rattle.m4_karatsuba.proofs.PolynomialLemmas.{polynomial-added, polynomial-zero, one_product}

-- one coefficient: the product of two matrices
pub base_product : (e m l n : ℕ) (w next : Window) (A B : Matrix) → e ≡ 1 → IsMatrix A → IsMatrix B → A.field ≡ gf2 → B.field ≡ gf2 → A.rows ≡ e * m → A.cols ≡ l → B.rows ≡ e * l → B.cols ≡ n
    → w.rows ≡ (2 * e - 1) * m → w.cols ≡ n → next ≡ showing w (added (content w) (product A B))
    → (i j : ℕ) → i < m → j < n → polynomial (2 * e - 1) m (content next) i j ≡ bit_xor (polynomial (2 * e - 1) m (content w) i j) (product_at e m l A B i j)
base_product e m l n w next A B one a b a_over b_over a_rows a_cols b_rows b_cols w_rows w_cols is i j below within =
    let top : 2 * e - 1 ≡ 1 = omega (arith, one) in
    let single : (k : ℕ) → e * k ≡ k = λ k. rw one (omega arith) in
    let whole : (2 * e - 1) * m ≡ m = rw top (omega arith) in
    ap (λ k. polynomial k m (content next) i j) top
    ∙ ap (λ (x : Window). polynomial 1 m (content x) i j) is
    ∙ one_product m l (content w) A B a b a_over b_over (a_rows ∙ single m) a_cols (b_rows ∙ single l) (w_rows ∙ whole) (w_cols ∙ sym b_cols) i j below (omega (arith, within, b_cols))
    ∙ ap₂ (λ k d. bit_xor (polynomial k m (content w) i j) (product_at d m l A B i j)) (sym top) (sym one)

-- a polynomial that is added from some slice on
pub added_once : (n k u m : ℕ) (w next : Window) (B : Matrix) → u + k ≤ n → w.rows ≡ n * m → length B.entries ≡ k * m → next ≡ showing w (added_from (u * m) (content w) B)
    → (i j : ℕ) → i < m → j < w.cols → polynomial n m (content next) i j ≡ bit_xor (polynomial n m (content w) i j) (polynomial k m B i j * 2 ^ u)
added_once n k u m w next B room rows b_rows is i j below within =
    ap (λ (x : Window). polynomial n m (content x) i j) is ∙ polynomial-added n k u m (content w) B room rows b_rows i j below within

-- a product that was added to zeros
pub from_zeros : (k m n value : ℕ) (w cleared next : Window) → w.rows ≡ k * m → w.cols ≡ n → cleared ≡ showing w (zero_matrix gf2 w.rows w.cols)
    → (i j : ℕ) → i < m → j < n → polynomial k m (content next) i j ≡ bit_xor (polynomial k m (content cleared) i j) value → polynomial k m (content next) i j ≡ value
from_zeros k m n value w cleared next rows cols is i j below within sum =
    sum ∙ ap (λ x. bit_xor x value) (ap (λ (x : Window). polynomial k m (content x) i j) is ∙ (λ t. polynomial k m (zero_matrix gf2 (rows t) (cols t)) i j) ∙ polynomial-zero k m n i j below within) ∙ xor_zero_l value

-- a sum of halves
pub sum_of_halves : (h k m : ℕ) (low high : Matrix) → k ≤ h → low.rows ≡ h * m → length high.entries ≡ k * m → (i j : ℕ) → i < m → j < low.cols
    → polynomial h m (added_from 0 low high) i j ≡ bit_xor (polynomial h m low i j) (polynomial k m high i j)
sum_of_halves h k m low high less rows high_rows i j below within =
    let none : 0 ≡ 0 * m = grind arith in
    let one : polynomial k m high i j * 2 ^ 0 ≡ polynomial k m high i j = omega arith in
    ap (λ r. polynomial h m (added_from r low high) i j) none ∙ polynomial-added h k 0 m low high (omega (arith, less)) rows high_rows i j below within ∙ ap (bit_xor (polynomial h m low i j)) one
