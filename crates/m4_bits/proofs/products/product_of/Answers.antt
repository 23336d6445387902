use Rattle.std.proofs.Common.{◌≡◌, ℕ, ◌+◌, ◌-◌, ◌*◌, ◌/◌, ◌%◌, ◌^◌, ◌<◌, ◌≤◌, refl, sym, ◌∙◌, ap, bit_and, bit_xor, slice_index, arith}
use Rattle.std.proofs.Math.Nat.{mul-add-mod_self_right}
use Rattle.std.proofs.Math.Pow.{pow_pos}
use Rattle.std.proofs.lemmas.Nat.{div-add-mod', and_le_r}
use Rattle.m4_model.specs.Field.{sum_below}
use Rattle.m4_model.proofs.FieldLemmas.{sum_below-more}
use Rattle.m4_bits.specs.Products.{filled, products}
use Rattle.m4_bits.proofs.products.product_of.Goals as goal

-- a shift and a difference fill the places
fills : (m p n : ℕ) → 1 ≤ p → m ≤ n → (m * p % n + (n - m)) % n ≡ m * (p - 1) % n
fills m p n some small =
    let d = div-add-mod' (m * p) n in
    let e : m * p ≡ m * (p - 1) + m = ap (λ x. m * x) (let f : p ≡ p - 1 + 1 = omega (arith, some) in f) ∙ spread m (p - 1) in
    let all : m * p / n * n + (m * p % n + (n - m)) ≡ 1 * n + m * (p - 1) = omega (arith, d, e, small) in
    sym (mul-add-mod_self_right (m * p / n) n (m * p % n + (n - m))) ∙ ap (λ x. x % n) all ∙ mul-add-mod_self_right 1 n (m * (p - 1))
  where
    spread : (m q : ℕ) → m * (q + 1) ≡ m * q + m
    spread m q = grind arith

none : (g : ℕ → ℕ) → 0 ≡ sum_below 0 g
unfolding sum_below
none g = refl

pub loop-i-init : goal.loop-i-init
loop-i-init g c = none (λ i. bit_and (filled g.row.N (bit_and (c.args.word / 2 ^ i) c.args.low)) (slice_index c.args.patterns.now i))

pub loop-i-preserved : goal.loop-i-preserved
loop-i-preserved g c =
    let term : ℕ → ℕ = λ i. bit_and (filled g.row.N (bit_and (c.args.word / 2 ^ i) c.args.low)) (slice_index c.args.patterns.now i) in
    let ones = bit_and (c.args.word / 2 ^ c.loop-i.i) c.args.low in
    let small = and_le_r (c.args.word / 2 ^ c.loop-i.i) c.args.low in
    ap (λ s. bit_xor s (bit_and ((ones * 2 ^ g.row.N % 2 ^ 64 + (2 ^ 64 - ones)) % 2 ^ 64) (slice_index c.args.patterns.now c.loop-i.i))) c.loop-i.invariant
    ∙ ap (λ x. bit_xor (sum_below c.loop-i.i term) (bit_and x (slice_index c.args.patterns.now c.loop-i.i))) (fills ones (2 ^ g.row.N) (2 ^ 64) (pow_pos g.row.N) (omega (arith, small)))
    ∙ sym (sum_below-more c.loop-i.i term)

all : (n low word : ℕ) (patterns : _) (i sum : ℕ) → i ≡ n → sum ≡ sum_below i (λ i. bit_and (filled n (bit_and (word / 2 ^ i) low)) (slice_index patterns i)) → sum ≡ products n low patterns word
unfolding products
all n low word patterns i sum end is = is ∙ ap (λ k. sum_below k (λ i. bit_and (filled n (bit_and (word / 2 ^ i) low)) (slice_index patterns i))) end

pub returns : goal.returns
returns g c = all g.row.N c.args.low c.args.word c.args.patterns.now c.loop-i.i c.loop-i.sum (omega arith) c.loop-i.invariant
