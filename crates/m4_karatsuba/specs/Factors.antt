-- Factors whose entries are polynomials, as slices, and the sums that their products are added to.
use Rattle.std.specs.Prelude.{◌≡◌, ℕ, ◌+◌, ◌-◌, ◌*◌, ◌/◌, ◌<◌, ◌≤◌, bit_xor, take, drop}
use Rattle.m4_model.specs.Field.{sum_below, clmul}
use Rattle.m4_mzd.specs.Window.{Window, content, showing}
use Rattle.m4_mzd.specs.Seen.{shown}
use Rattle.m4_mzd.specs.declared.add_mul.Shape.{Shape}
use Rattle.m4_karatsuba.specs.Polynomials.{polynomial, product_at}
use Rattle.m4_karatsuba.specs.declared.factors.Factors.{Factors}

-- The windows have as many slices as said of an m x l and of an l x n matrix: from 1 to 16.
pub record AreFactors (f : Factors) : Type 0 where
  pub some : 1 ≤ f.count
  pub few : f.count ≤ 16
  pub a_rows : (shown f.a).rows ≡ f.count * f.shape.m
  pub a_cols : (shown f.a).cols ≡ f.shape.l
  pub b_rows : (shown f.b).rows ≡ f.count * f.shape.l
  pub b_cols : (shown f.b).cols ≡ f.shape.n

-- The entry in row i and column j of their product.
abbrev pub product_of : Factors → ℕ → ℕ → ℕ
product_of f i j = product_at f.count f.shape.m f.shape.l (shown f.a) (shown f.b) i j

-- The lower slices of both factors, of which there are as many as upper ones or one more, and the upper ones.
pub record AreHalves (f low high : Factors) : Type 0 where
  pub low_shape : low.shape ≡ f.shape
  pub high_shape : high.shape ≡ f.shape
  pub low_count : low.count ≡ (f.count + 1) / 2
  pub high_count : high.count ≡ f.count - (f.count + 1) / 2
  pub low_factors : AreFactors low
  pub high_factors : AreFactors high
  pub low_a : (shown low.a).entries ≡ take (low.count * f.shape.m) (shown f.a).entries
  pub high_a : (shown high.a).entries ≡ drop (low.count * f.shape.m) (shown f.a).entries
  pub low_b : (shown low.b).entries ≡ take (low.count * f.shape.l) (shown f.b).entries
  pub high_b : (shown high.b).entries ≡ drop (low.count * f.shape.l) (shown f.b).entries

-- The entry in row i and column j of the product of the sums of both halves.
abbrev pub middle_of : Factors → Factors → ℕ → ℕ → ℕ
middle_of low high i j = sum_below low.shape.l (λ t.
    clmul
    (bit_xor (polynomial low.count low.shape.m (shown low.a) i t) (polynomial high.count low.shape.m (shown high.a) i t))
    (bit_xor (polynomial low.count low.shape.l (shown low.b) t j) (polynomial high.count low.shape.l (shown high.b) t j)))

-- The window has so many slices of an m x n matrix.
pub record HasSlices (count : ℕ) (s : Shape) (w : Window) : Type 0 where
  pub rows : w.rows ≡ count * s.m
  pub cols : w.cols ≡ s.n

-- The entry g i j was added to the polynomial in row i and column j of a window of slices, for each, and nothing else changed.
pub record IsAdded (count : ℕ) (s : Shape) (old new : Window) (g : ℕ → ℕ → ℕ) : Type 0 where
  pub kept : new ≡ showing old (content new)
  pub entries : (i j : ℕ) → i < s.m → j < s.n
      → polynomial count s.m (content new) i j ≡ bit_xor (polynomial count s.m (content old) i j) (g i j)
