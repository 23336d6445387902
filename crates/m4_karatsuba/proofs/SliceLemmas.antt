-- The steps of the recursion: halves of factors, products in windows of the room, and sums at places.
use Rattle.std.proofs.Common.{◌≡◌, ℕ, ◌+◌, ◌-◌, ◌*◌, ◌/◌, ◌^◌, ◌<◌, ◌≤◌, length, take, drop, refl, sym, ◌∙◌, ap, ap₂, subst, arith, bit_xor}
use Rattle.std.specs.Int.Bits.{xor_assoc}
use Rattle.std.proofs.Math.Nat.{mul-le-mul_right}
use Rattle.m4_model.specs.Field.{gf2, sum_below, clmul}
use Rattle.m4_model.specs.Matrix.{Matrix, IsMatrix, added, product, zero_matrix}
use Rattle.m4_model.proofs.FieldLemmas.{sum_below-same}
use Rattle.m4_mzd.specs.Window.{Window, content, showing}
use Rattle.m4_mzd.specs.Seen.{shown}
use Rattle.m4_mzd.specs.declared.add_mul.Shape.{Shape}
use Rattle.m4_mzd.proofs.SeenLemmas.{IsMatrix_shown}
use Rattle.m4_karatsuba.specs.Polynomials.{polynomial, product_at, added_from}
use Rattle.m4_karatsuba.specs.Factors.{AreFactors, AreHalves, HasSlices, IsAdded, product_of, middle_of}
use Rattle.m4_karatsuba.specs.Rooms.{HoldsProduct}
use Rattle.m4_karatsuba.specs.declared.factors.Factors.{Factors}
use Rattle.m4_karatsuba.proofs.StepLemmas.{base_product, added_once, from_zeros, sum_of_halves}
use Rattle.m4_karatsuba.proofs.HalfLemmas.{halves_product}

-- ---- halves
rest_rows : (e h m rows : ℕ) → rows ≡ e * m → h ≤ e → rows - h * m ≡ (e - h) * m
rest_rows e h m rows is less =
    let split : e * m ≡ (e - h) * m + h * m = grind arith in
    omega (arith, split, is)

pub fits_above : (h k x m y rows : ℕ) → k ≤ h → x ≡ k * m → m ≡ y → rows ≡ h * y → x ≤ rows
fits_above h k x m y rows less is same wide = (let e : k * y ≤ h * y = mul-le-mul_right y less in let f : k * m ≡ k * y = ap (λ t. k * t) same in omega (arith, e, f, is, wide))

pub halved : (f low high : Factors) → AreFactors f → 2 ≤ f.count → low.shape ≡ f.shape → high.shape ≡ f.shape
    → low.count ≡ (f.count + 1) / 2 → high.count ≡ f.count - low.count
    → shown low.a ≡ record (shown f.a) { rows = low.count * f.shape.m; entries = take (low.count * f.shape.m) (shown f.a).entries }
    → shown high.a ≡ record (shown f.a) { rows = (shown f.a).rows - low.count * f.shape.m; entries = drop (low.count * f.shape.m) (shown f.a).entries }
    → shown low.b ≡ record (shown f.b) { rows = low.count * f.shape.l; entries = take (low.count * f.shape.l) (shown f.b).entries }
    → shown high.b ≡ record (shown f.b) { rows = (shown f.b).rows - low.count * f.shape.l; entries = drop (low.count * f.shape.l) (shown f.b).entries }
    → AreHalves f low high
halved f low high is some low_is high_is half rest low_a high_a low_b high_b =
    let rest_is : high.count ≡ f.count - (f.count + 1) / 2 = rest ∙ ap (λ h. f.count - h) half in
    let less : low.count ≤ f.count = omega (arith, half, some) in
    record {
      low_shape = low_is;
      high_shape = high_is;
      low_count = half;
      high_count = rest_is;
      low_factors = record {
        some = omega (arith, half, some);
        few = omega (arith, less, is.few);
        a_rows = ap (λ (M : Matrix). M.rows) low_a ∙ ap (λ (s : Shape). low.count * s.m) (sym low_is);
        a_cols = ap (λ (M : Matrix). M.cols) low_a ∙ is.a_cols ∙ ap (λ (s : Shape). s.l) (sym low_is);
        b_rows = ap (λ (M : Matrix). M.rows) low_b ∙ ap (λ (s : Shape). low.count * s.l) (sym low_is);
        b_cols = ap (λ (M : Matrix). M.cols) low_b ∙ is.b_cols ∙ ap (λ (s : Shape). s.n) (sym low_is);
      };
      high_factors = record {
        some = omega (arith, rest_is, some);
        few = omega (arith, rest_is, is.few);
        a_rows = ap (λ (M : Matrix). M.rows) high_a ∙ rest_rows f.count low.count f.shape.m (shown f.a).rows is.a_rows less ∙ ap₂ (λ k (s : Shape). k * s.m) (sym rest) (sym high_is);
        a_cols = ap (λ (M : Matrix). M.cols) high_a ∙ is.a_cols ∙ ap (λ (s : Shape). s.l) (sym high_is);
        b_rows = ap (λ (M : Matrix). M.rows) high_b ∙ rest_rows f.count low.count f.shape.l (shown f.b).rows is.b_rows less ∙ ap₂ (λ k (s : Shape). k * s.l) (sym rest) (sym high_is);
        b_cols = ap (λ (M : Matrix). M.cols) high_b ∙ is.b_cols ∙ ap (λ (s : Shape). s.n) (sym high_is);
      };
      low_a = ap (λ (M : Matrix). M.entries) low_a;
      high_a = ap (λ (M : Matrix). M.entries) high_a;
      low_b = ap (λ (M : Matrix). M.entries) low_b;
      high_b = ap (λ (M : Matrix). M.entries) high_b;
    }

-- ---- windows
pub kept_of : (w next : Window) (A : Matrix) → next ≡ showing w A → next ≡ showing w (content next)
kept_of w next A is = is ∙ ap {B = Window} (λ (x : Window). record w { bits = x.bits }) (sym is)

has_slices : (n : ℕ) (s : Shape) (w next : Window) → HasSlices n s w → next ≡ showing w (content next) → HasSlices n s next
has_slices n s w next is kept = record { rows = ap (λ (x : Window). x.rows) kept ∙ is.rows; cols = ap (λ (x : Window). x.cols) kept ∙ is.cols }

-- one product after another
pub both_added : (n : ℕ) (s : Shape) (w0 w1 w2 : Window) (g h : ℕ → ℕ → ℕ) → IsAdded n s w0 w1 g → IsAdded n s w1 w2 h → IsAdded n s w0 w2 (λ i j. bit_xor (g i j) (h i j))
both_added n s w0 w1 w2 g h one two = record {
  kept = two.kept ∙ ap (λ (x : Window). showing x (content w2)) one.kept;
  entries = λ i j below within.
      two.entries i j below within ∙ ap (λ x. bit_xor x (h i j)) (one.entries i j below within)
      ∙ xor_assoc (polynomial n s.m (content w0) i j) (g i j) (h i j);
}

-- ---- one slice
pub single : (f : Factors) (w next : Window) → AreFactors f → f.count ≤ 1 → HasSlices (2 * f.count - 1) f.shape w
    → next ≡ showing w (added (content w) (product (shown f.a) (shown f.b))) → IsAdded (2 * f.count - 1) f.shape w next (product_of f)
single f w next is one slices sum = record {
  kept = kept_of w next (added (content w) (product (shown f.a) (shown f.b))) sum;
  entries = base_product f.count f.shape.m f.shape.l f.shape.n w next (shown f.a) (shown f.b) (omega (arith, one, is.some))
      (IsMatrix_shown f.a) (IsMatrix_shown f.b) refl refl is.a_rows is.a_cols is.b_rows is.b_cols slices.rows slices.cols sum;
}

-- ---- a product in the room
pub held : (k : ℕ) (s : Shape) (w cleared next : Window) (g : ℕ → ℕ → ℕ) → w.rows ≡ k * s.m → w.cols ≡ s.n → cleared ≡ showing w (zero_matrix gf2 w.rows w.cols)
    → IsAdded k s cleared next g → HoldsProduct k s next g
held k s w cleared next g rows cols is sum = record {
  slices = has_slices k s cleared next (record { rows = ap (λ (x : Window). x.rows) is ∙ rows; cols = ap (λ (x : Window). x.cols) is ∙ cols }) sum.kept;
  entries = λ i j below within. from_zeros k s.m s.n (g i j) w cleared next rows cols is i j below within (sum.entries i j below within);
}

-- ---- a product that is added from some slice on
pub placed : (n k u : ℕ) (s : Shape) (w p next : Window) (B : Matrix) (g : ℕ → ℕ → ℕ) → HasSlices n s w → u + k ≤ n → HoldsProduct k s p g → IsMatrix B → B ≡ content p
    → next ≡ showing w (added_from (u * s.m) (content w) B) → IsAdded n s w next (λ i j. g i j * 2 ^ u)
placed n k u s w p next B g slices room holds matrix seen is =
    let high : length B.entries ≡ k * s.m = matrix.height ∙ ap (λ (M : Matrix). M.rows) seen ∙ holds.slices.rows in
    record {
      kept = kept_of w next (added_from (u * s.m) (content w) B) is;
      entries = λ i j below within.
          added_once n k u s.m w next B room slices.rows high is i j below (omega (arith, within, slices.cols))
          ∙ ap (λ x. bit_xor (polynomial n s.m (content w) i j) (x * 2 ^ u)) (ap (λ (M : Matrix). polynomial k s.m M i j) seen ∙ holds.entries i j below within);
    }

pub placed_twice : (n k u v : ℕ) (s : Shape) (w p next last : Window) (B D : Matrix) (g : ℕ → ℕ → ℕ) → HasSlices n s w → u + k ≤ n → v + k ≤ n → HoldsProduct k s p g
    → IsMatrix B → IsMatrix D → B ≡ content p → D ≡ content p
    → next ≡ showing w (added_from (u * s.m) (content w) B) → last ≡ showing next (added_from (v * s.m) (content next) D)
    → IsAdded n s w last (λ i j. bit_xor (g i j * 2 ^ u) (g i j * 2 ^ v))
placed_twice n k u v s w p next last B D g slices room more holds b d seen again is then =
    let one = placed n k u s w p next B g slices room holds b seen is in
    both_added n s w next last (λ i j. g i j * 2 ^ u) (λ i j. g i j * 2 ^ v) one
    (placed n k v s next p last D g (has_slices n s w next slices one.kept) more holds d again then)

-- ---- sums of halves
summed : (h k m : ℕ) (low high : Matrix) (w next : Window) (S : Matrix) → k ≤ h → low.rows ≡ h * m → IsMatrix high → high.rows ≡ k * m → next ≡ showing w (added_from 0 low high) → S ≡ content next
    → (i j : ℕ) → i < m → j < low.cols → polynomial h m S i j ≡ bit_xor (polynomial h m low i j) (polynomial k m high i j)
unfolding polynomial
summed h k m low high w next S less rows matrix high_rows is seen i j below within =
    ap (λ (M : Matrix). polynomial h m M i j) (seen ∙ ap content is)
    ∙ sum_of_halves h k m low high less rows (matrix.height ∙ high_rows) i j below within

pub sums_product : (low high : Factors) (v x w y : Window) (S T : Matrix) → AreFactors low → AreFactors high → high.shape ≡ low.shape → high.count ≤ low.count
    → x ≡ showing v (added_from 0 (shown low.a) (shown high.a)) → y ≡ showing w (added_from 0 (shown low.b) (shown high.b)) → S ≡ content x → T ≡ content y
    → (i j : ℕ) → i < low.shape.m → j < low.shape.n → product_at low.count low.shape.m low.shape.l S T i j ≡ middle_of low high i j
unfolding product_at
sums_product low high v x w y S T is upper same less first second seen seen_too i j below within =
    sum_below-same low.shape.l _ _ (λ t inside. ap₂ clmul
    (summed low.count high.count low.shape.m (shown low.a) (shown high.a) v x S less is.a_rows (IsMatrix_shown high.a) (upper.a_rows ∙ ap (λ (s : Shape). high.count * s.m) same) first seen i t below (omega (arith, inside, is.a_cols)))
    (summed low.count high.count low.shape.l (shown low.b) (shown high.b) w y T less is.b_rows (IsMatrix_shown high.b) (upper.b_rows ∙ ap (λ (s : Shape). high.count * s.l) same) second seen_too t j inside (omega (arith, within, is.b_cols))))

pub same_added : (n : ℕ) (s : Shape) (w next : Window) (g h : ℕ → ℕ → ℕ) → IsAdded n s w next g → ((i j : ℕ) → i < s.m → j < s.n → g i j ≡ h i j) → IsAdded n s w next h
same_added n s w next g h sum same = record {
  kept = sum.kept;
  entries = λ i j below within. sum.entries i j below within ∙ ap (bit_xor (polynomial n s.m (content w) i j)) (same i j below within);
}

-- ---- all three products
pub three_added : (f low high : Factors) (w0 w1 w2 w3 : Window) (n : ℕ) → AreHalves f low high → 2 ≤ f.count
    → IsAdded n low.shape w0 w1 (λ i j. bit_xor (product_of low i j * 2 ^ 0) (product_of low i j * 2 ^ low.count))
    → IsAdded n high.shape w1 w2 (λ i j. bit_xor (product_of high i j * 2 ^ low.count) (product_of high i j * 2 ^ (2 * low.count)))
    → IsAdded n low.shape w2 w3 (λ i j. middle_of low high i j * 2 ^ low.count)
    → IsAdded n f.shape w0 w3 (product_of f)
three_added f low high w0 w1 w2 w3 n is some one two three =
    let h = low.count in
    let k = high.count in
    let s = f.shape in
    let P : ℕ → ℕ → ℕ = λ i j. product_at h s.m s.l (shown low.a) (shown low.b) i j in
    let Q : ℕ → ℕ → ℕ = λ i j. product_at k s.m s.l (shown high.a) (shown high.b) i j in
    let R : ℕ → ℕ → ℕ = λ i j. sum_below s.l (λ t. clmul (bit_xor (polynomial h s.m (shown low.a) i t) (polynomial k s.m (shown high.a) i t)) (bit_xor (polynomial h s.l (shown low.b) t j) (polynomial k s.l (shown high.b) t j))) in
    let first : IsAdded n s w0 w1 (λ i j. bit_xor (P i j * 2 ^ 0) (P i j * 2 ^ h))
    = subst (λ (r : Shape). IsAdded n r w0 w1 (λ i j. bit_xor (product_at h r.m r.l (shown low.a) (shown low.b) i j * 2 ^ 0) (product_at h r.m r.l (shown low.a) (shown low.b) i j * 2 ^ h))) is.low_shape one in
    let second : IsAdded n s w1 w2 (λ i j. bit_xor (Q i j * 2 ^ h) (Q i j * 2 ^ (2 * h)))
    = subst (λ (r : Shape). IsAdded n r w1 w2 (λ i j. bit_xor (product_at k r.m r.l (shown high.a) (shown high.b) i j * 2 ^ h) (product_at k r.m r.l (shown high.a) (shown high.b) i j * 2 ^ (2 * h)))) is.high_shape two in
    let third : IsAdded n s w2 w3 (λ i j. R i j * 2 ^ h)
    = subst (λ (r : Shape). IsAdded n r w2 w3 (λ i j. sum_below r.l (λ t. clmul (bit_xor (polynomial h r.m (shown low.a) i t) (polynomial k r.m (shown high.a) i t)) (bit_xor (polynomial h r.l (shown low.b) t j) (polynomial k r.l (shown high.b) t j))) * 2 ^ h)) is.low_shape three in
    let whole : h + k ≡ f.count = omega (arith, is.low_count, is.high_count, some) in
    let c : Window → ℕ → ℕ → ℕ = λ w i j. polynomial n s.m (content w) i j in
    record {
      kept = third.kept ∙ ap (λ (x : Window). showing x (content w3)) (second.kept ∙ ap (λ (x : Window). showing x (content w2)) first.kept);
      entries = λ i j below within.
          halves_product h k s.m s.l (shown f.a) (shown f.b) (shown low.a) (shown high.a) (shown low.b) (shown high.b) is.low_a is.high_a is.low_b is.high_b i j below
          (c w0 i j) (c w1 i j) (c w2 i j) (c w3 i j)
          (first.entries i j below within ∙ sym (xor_assoc (c w0 i j) (P i j * 2 ^ 0) (P i j * 2 ^ h)))
          (second.entries i j below within ∙ sym (xor_assoc (c w1 i j) (Q i j * 2 ^ h) (Q i j * 2 ^ (2 * h))))
          (third.entries i j below within)
          ∙ ap (λ e. bit_xor (c w0 i j) (product_at e s.m s.l (shown f.a) (shown f.b) i j)) whole;
    }

pub slices_of : (n : ℕ) (s r : Shape) (w next : Window) → r ≡ s → HasSlices n s w → next.rows ≡ w.rows → next.cols ≡ w.cols → HasSlices n r next
slices_of n s r w next same is rows cols = record {
  rows = rows ∙ is.rows ∙ ap (λ (q : Shape). n * q.m) (sym same);
  cols = cols ∙ is.cols ∙ ap (λ (q : Shape). q.n) (sym same);
}
