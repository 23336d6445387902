-- A sum of products over an extension field, bit by bit: a sum of products over GF(2).
use Rattle.std.proofs.Common.{◌≡◌, ℕ, zero, suc, ◌+◌, ◌*◌, ◌/◌, ◌%◌, ◌^◌, ◌<◌, refl, sym, ◌∙◌, ap, ap₂, arith, bit_xor, mod-eq_of_lt}
use Rattle.std.specs.Int.{bit_at}
use Rattle.std.proofs.Math.Nat.{mul-add-mod_self_right}
use Rattle.std.proofs.Math.Pow.{pow_mono}
use Rattle.std.proofs.lemmas.Nat.{div-mul-add}
use Rattle.std.proofs.lemmas.Nat.Bits.{bit_at-zero, bit_at-lt}
use Rattle.m4_model.specs.Field.{Field, IsCarried, IsElement, gf2, mul, sum_below, width}
use Rattle.m4_model.proofs.FieldLemmas.{sum_below-same}
use Rattle.m4_model.proofs.SumLemmas.{sum_below-split, mul-zero_left}
use Rattle.m4_model.proofs.Gf2Lemmas.{gf2_laws}
use Rattle.m4_bits.proofs.BitsLemmas.{bit_at-xor}
use Rattle.m4_field.proofs.ProductSteps.{carried_laws}
use Rattle.m4_field.proofs.WidthLemmas.{width_facts}
use Rattle.m4_mzed.proofs.MultipleLemmas.{more_product}

-- a bit of a sum is the sum of the bits
bit_of_sum : (n : ℕ) (g : ℕ → ℕ) (v : ℕ) → bit_at (sum_below n g) v ≡ sum_below n (λ k. bit_at (g k) v)
unfolding sum_below
bit_of_sum zero g v = bit_at-zero v
bit_of_sum (suc n) g v = bit_at-xor (sum_below n g) (g n) v ∙ ap (λ y. bit_xor y (bit_at (g n) v)) (bit_of_sum n g v)

-- a product is the sum of the multiples of one factor by powers of x at the bits of the other
product_by_bits : (F : Field) → IsCarried F → (n a b : ℕ) → mul F (a % 2 ^ n) b ≡ sum_below n (λ u. bit_at a u * mul F (2 ^ u) b)
unfolding sum_below
product_by_bits F carried zero a b =
    let e : a % 1 ≡ 0 = omega arith in ap (λ y. mul F y b) e ∙ mul-zero_left F (carried_laws F carried) b
product_by_bits F carried (suc n) a b =
    let e : suc n ≡ n + 1 = omega arith in
    ap (λ k. mul F (a % 2 ^ k) b) e ∙ more_product F carried a n b
    ∙ ap (λ y. bit_xor y (bit_at a n * mul F (2 ^ n) b)) (product_by_bits F carried n a b)

bit_of_multiple : (b y v : ℕ) → b < 2 → bit_at (b * y) v ≡ mul gf2 b (bit_at y v)
bit_of_multiple zero y v small = let e : 0 * y ≡ 0 = omega arith in ap (λ n. bit_at n v) e ∙ bit_at-zero v ∙ sym (mul-zero_left gf2 gf2_laws (bit_at y v))
bit_of_multiple (suc zero) y v small = let e : 1 * y ≡ y = omega arith in ap (λ n. bit_at n v) e ∙ sym (gf2_laws.unit (bit_at y v) (bit_at-lt y v))
bit_of_multiple (suc (suc b)) y v small = absurd (omega arith)

-- sums of w terms each, in one
sum_of_sums : (w l : ℕ) (h : ℕ → ℕ → ℕ) → sum_below l (λ t. sum_below w (h t)) ≡ sum_below (l * w) (λ k. h (k / w) (k % w))
unfolding sum_below
sum_of_sums w zero h = let e : 0 * w ≡ 0 = omega arith in rw e refl
sum_of_sums w (suc l) h =
    let g : ℕ → ℕ = λ k. h (k / w) (k % w) in
    let e : suc l * w ≡ l * w + w = omega arith in
    ap (λ y. bit_xor y (sum_below w (h l))) (sum_of_sums w l h)
    ∙ ap (bit_xor (sum_below (l * w) g)) (sum_below-same w (h l) (λ i. g (l * w + i)) (λ i below.
    sym (ap₂ h (div-mul-add l w i below) (mul-add-mod_self_right l w i ∙ mod-eq_of_lt below))))
    ∙ sym (ap (λ n. sum_below n g) e ∙ sum_below-split (l * w) w g)

-- bit v of a sum of products: over the bits of the first factors, each times bit v of a multiple of the second
pub bit_of_products : (F : Field) → IsCarried F → (l v : ℕ) (a b : ℕ → ℕ) → ((t : ℕ) → t < l → IsElement F (a t))
    → bit_at (sum_below l (λ t. mul F (a t) (b t))) v
    ≡ sum_below (l * width F) (λ k. mul gf2 (bit_at (a (k / width F)) (k % width F)) (bit_at (mul F (2 ^ (k % width F)) (b (k / width F))) v))
bit_of_products F carried l v a b elements =
    let w = width F in
    let room = (width_facts F carried).room in
    let h : ℕ → ℕ → ℕ = λ t u. mul gf2 (bit_at (a t) u) (bit_at (mul F (2 ^ u) (b t)) v) in
    bit_of_sum l (λ t. mul F (a t) (b t)) v
    ∙ sum_below-same l (λ t. bit_at (mul F (a t) (b t)) v) (λ t. sum_below w (h t)) (λ t below.
    let small : a t < 2 ^ w = let e = elements t below in let m = pow_mono {i = F.degree} {j = w} room in omega (arith, e, m) in
    ap (λ n. bit_at (mul F n (b t)) v) (sym (mod-eq_of_lt small))
    ∙ ap (λ n. bit_at n v) (product_by_bits F carried w (a t) (b t))
    ∙ bit_of_sum w (λ u. bit_at (a t) u * mul F (2 ^ u) (b t)) v
    ∙ sum_below-same w (λ u. bit_at (bit_at (a t) u * mul F (2 ^ u) (b t)) v) (h t) (λ u u_below. bit_of_multiple (bit_at (a t) u) (mul F (2 ^ u) (b t)) v (bit_at-lt (a t) u)))
    ∙ sum_of_sums w l h
