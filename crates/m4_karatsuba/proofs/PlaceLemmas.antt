-- Where the products of halves are added, and the room that they take.
use Rattle.std.proofs.Common.{◌≡◌, ℕ, ◌+◌, ◌-◌, ◌*◌, ◌<◌, ◌≤◌, sym, ◌∙◌, ap, subst, arith}
use Rattle.std.proofs.Math.Nat.{mul-le-mul_left, mul-le-mul_right}
use Rattle.m4_model.specs.Text.{words_per_row}
use Rattle.m4_mzd.specs.Reach.{IsReached}
use Rattle.m4_mzd.specs.declared.add_mul.Shape.{Shape}
use Rattle.m4_karatsuba.specs.Counts.{slice_words, karatsuba}
use Rattle.m4_karatsuba.specs.Factors.{AreFactors, AreHalves}
use Rattle.m4_karatsuba.specs.Rooms.{room_words, words_with_product, words_with_sums}
use Rattle.m4_karatsuba.specs.declared.factors.Factors.{Factors}
use Rattle.m4_karatsuba.proofs.CountLemmas.{karatsuba-halves}

place_fits : (u n m y rows : ℕ) → u ≤ n → y ≡ m → rows ≡ n * m → u * y ≤ rows
place_fits u n m y rows less same is = (let e : u * m ≤ n * m = mul-le-mul_right m less in let f : u * y ≡ u * m = ap (λ t. u * t) same in omega (arith, e, f, is))

-- the words of sums and of a product beside those of a product of factors of k slices
sums_fit : (k e : ℕ) (s : Shape) → 1 ≤ k → 3 * k ≤ 2 * e → words_with_sums k s ≤ room_words e s
sums_fit k e s some less =
    let x : ℕ = s.m * words_per_row s.l in
    let y : ℕ = s.l * words_per_row s.n in
    let z : ℕ = s.m * words_per_row s.n in
    let a : k * s.m * words_per_row s.l ≡ k * x = grind arith in
    let b : k * s.l * words_per_row s.n ≡ k * y = grind arith in
    let c : (2 * k - 1) * s.m * words_per_row s.n ≡ (2 * k - 1) * z = grind arith in
    let d : (2 * k - 1) * z ≤ (2 * k) * z = mul-le-mul_right z (omega arith) in
    let f : (k + 2 * (k - 1)) * slice_words s ≤ (2 * (e - 1)) * slice_words s = mul-le-mul_right (slice_words s) (omega (arith, some, less)) in
    let g : (k + 2 * (k - 1)) * slice_words s ≡ k * slice_words s + 2 * (k - 1) * slice_words s = grind arith in
    let h : k * slice_words s ≡ k * x + k * y + (2 * k) * z = grind arith in
    omega (arith, a, b, c, d, f, g, h)

module _ (f low high : Factors) (rows words : ℕ) (is : AreFactors f) (halves : AreHalves f low high) (some : 2 ≤ f.count)
    (high_rows : rows ≡ (2 * f.count - 1) * f.shape.m) (enough : room_words f.count f.shape ≤ words) where
  pub low_falls : 5 * low.count + 6 < 5 * f.count + 3
  low_falls = omega (arith, halves.low_count, some)

  pub high_falls : 5 * high.count + 6 < 5 * f.count + 3
  high_falls = omega (arith, halves.high_count, some)

  pub middle_falls : 5 * low.count + 7 < 5 * f.count + 3
  middle_falls = omega (arith, halves.low_count, some)

  pub low_first : (0 + (2 * low.count - 1)) * low.shape.m ≤ rows
  low_first = place_fits (0 + (2 * low.count - 1)) (2 * f.count - 1) f.shape.m low.shape.m rows (omega (arith, halves.low_count, some)) (ap (λ (s : Shape). s.m) halves.low_shape) high_rows

  pub low_second : (low.count + (2 * low.count - 1)) * low.shape.m ≤ rows
  low_second = place_fits (low.count + (2 * low.count - 1)) (2 * f.count - 1) f.shape.m low.shape.m rows (omega (arith, halves.low_count, some)) (ap (λ (s : Shape). s.m) halves.low_shape) high_rows

  pub high_first : (low.count + (2 * high.count - 1)) * high.shape.m ≤ rows
  high_first = place_fits (low.count + (2 * high.count - 1)) (2 * f.count - 1) f.shape.m high.shape.m rows (omega (arith, halves.low_count, halves.high_count, some)) (ap (λ (s : Shape). s.m) halves.high_shape) high_rows

  pub high_second : (2 * low.count + (2 * high.count - 1)) * high.shape.m ≤ rows
  high_second = place_fits (2 * low.count + (2 * high.count - 1)) (2 * f.count - 1) f.shape.m high.shape.m rows (omega (arith, halves.low_count, halves.high_count, some)) (ap (λ (s : Shape). s.m) halves.high_shape) high_rows

  pub middle_room : words_with_sums low.count low.shape ≤ words
  middle_room =
      let e : words_with_sums low.count f.shape ≤ room_words f.count f.shape = sums_fit low.count f.count f.shape halves.low_factors.some (omega (arith, halves.low_count, some)) in
      let t : words_with_sums low.count f.shape ≤ words = omega (arith, e, enough) in
      subst (λ (s : Shape). words_with_sums low.count s ≤ words) (sym halves.low_shape) t

  pub low_room : words_with_product low.count low.shape ≤ words
  low_room = let e = middle_room in omega (arith, e)

  pub high_room : words_with_product high.count high.shape ≤ words
  high_room =
      let e : words_with_sums high.count f.shape ≤ room_words f.count f.shape = sums_fit high.count f.count f.shape halves.high_factors.some (omega (arith, halves.high_count, some)) in
      let t : words_with_product high.count f.shape ≤ words = omega (arith, e, enough) in
      subst (λ (s : Shape). words_with_product high.count s ≤ words) (sym halves.high_shape) t

  pub low_reached : (limits : Shape) → IsReached limits f.shape.m f.shape.l f.shape.n → IsReached limits low.shape.m low.shape.l low.shape.n
  low_reached limits reached = subst (λ (s : Shape). IsReached limits s.m s.l s.n) (sym halves.low_shape) reached

  pub high_reached : (limits : Shape) → IsReached limits f.shape.m f.shape.l f.shape.n → IsReached limits high.shape.m high.shape.l high.shape.n
  high_reached limits reached = subst (λ (s : Shape). IsReached limits s.m s.l s.n) (sym halves.high_shape) reached

  pub counts : 2 * karatsuba low.count + karatsuba high.count ≡ karatsuba f.count
  counts = sym (karatsuba-halves f.count low.count high.count some is.few halves.low_count (halves.high_count ∙ ap (λ h. f.count - h) (sym halves.low_count)))

-- ---- a smaller product takes no more words
rows_rise : (k x y p q : ℕ) → x ≤ y → p ≤ q → k * x * p ≤ k * y * q
rows_rise k x y p q rows words =
    let a : k * x ≤ k * y = mul-le-mul_left k rows in
    let b : k * x * p ≤ k * y * p = mul-le-mul_right p a in
    let c : k * y * p ≤ k * y * q = mul-le-mul_left (k * y) words in
    omega (arith, b, c)

words_rise : (a b : ℕ) → a ≤ b → words_per_row a ≤ words_per_row b
words_rise a b less = omega (arith, less)

pub room_rises : (e : ℕ) (s r : Shape) → s.m ≤ r.m → s.l ≤ r.l → s.n ≤ r.n → words_with_sums e s ≤ words_with_sums e r
room_rises e s r rows inner cols =
    let l = words_rise s.l r.l inner in
    let n = words_rise s.n r.n cols in
    let a = rows_rise e s.m r.m (words_per_row s.l) (words_per_row r.l) rows l in
    let b = rows_rise e s.l r.l (words_per_row s.n) (words_per_row r.n) inner n in
    let c = rows_rise (2 * e - 1) s.m r.m (words_per_row s.n) (words_per_row r.n) rows n in
    let x = rows_rise 1 s.m r.m (words_per_row s.l) (words_per_row r.l) rows l in
    let y = rows_rise 1 s.l r.l (words_per_row s.n) (words_per_row r.n) inner n in
    let z = rows_rise 1 s.m r.m (words_per_row s.n) (words_per_row r.n) rows n in
    let level : slice_words s ≤ slice_words r = omega (arith, x, y, z) in
    let d : 2 * (e - 1) * slice_words s ≤ 2 * (e - 1) * slice_words r = mul-le-mul_left (2 * (e - 1)) level in
    omega (arith, a, b, c, d)
