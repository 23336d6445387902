-- The product of the inverse of the matrix of powers and the values of shards is the one list of coefficients that they can come
-- from.
use Rattle.std.proofs.Common.{◌≡◌, ℕ, ◌+◌, ◌*◌, ◌/◌, ◌%◌, ◌<◌, ◌≤◌, List, [], length, get_or, take, map, ⊎_elim, refl, sym, ◌∙◌, ap, ap₂, subst, arith, ext_get_or}
use Rattle.std.specs.List.{range_with_len}
use Rattle.std.proofs.Math.Nat.{mod-lt}
use Rattle.std.proofs.lemmas.List.{get_or-take, get_or_past, get_or-map, length-map, length-take-le}
use Rattle.std.proofs.lemmas.List.Elements.{All-get_or, All-from_get_or}
use Rattle.std.proofs.lemmas.List.FromFn.{length-map-range_with_len, get_or-map-range_with_len}
use Rattle.std.proofs.lemmas.Bool.{cases_lt}
use Rattle.m4_model.specs.Field.{sum_below, mul}
use Rattle.m4_model.specs.Matrix.{Matrix, at}
use Rattle.m4_model.specs.Forms.{IsInverse}
use Rattle.m4_model.proofs.FieldLemmas.{sum_below-same}
use Rattle.m4_model.proofs.ProductLemmas.{times, times_assoc, times-unit_row, times-same, unit_at}
use Rattle.m4_model.proofs.ShapeLemmas.{at-product, at-identity}
use Rattle.m4_erasure.specs.Shards.{gf256, power, stripes, stripe_value, value, powers_of}
use Rattle.m4_erasure.specs.Restored.{AreShards, HasShard, IsOneOf, IsSourceOf, points_of, body_byte}
use Rattle.m4_erasure.specs.Whole.{IsWhole, IsPadded}
use Rattle.m4_erasure.specs.declared.shard.Shard.{Shard}
use Rattle.m4_erasure.proofs.Gf256.{gf256_laws}
use Rattle.m4_erasure.proofs.Places.{place_mod, place_div, place_whole, place_inside}
use Rattle.m4_erasure.proofs.Points.{HasShape-powers_of, at-powers_of}

module _ (shards : List Shard) (are : AreShards shards) (W : Matrix) (inverse : IsInverse W (powers_of (points_of shards))) where
  k : ℕ
  k = length shards

  points : List ℕ
  points = points_of shards

  -- the power i of point j
  V : ℕ → ℕ → ℕ
  V j i = power (get_or (points_of shards) j 0) i

  count : length (points_of shards) ≡ length shards
  count = length-map shards (λ s. s.x)

  right_unit : (j i : ℕ) → j < length shards → i < length shards → times gf256 (length shards) V (at W) j i ≡ unit_at j i
  unfolding V
  right_unit j i in_rows in_cols =
      let n = count in
      let row : j < length (points_of shards) = omega (arith, in_rows, n) in
      let col : i < length (points_of shards) = omega (arith, in_cols, n) in
      ap (λ (l : ℕ). times gf256 l (λ j i. power (get_or (points_of shards) j 0) i) (at W) j i) (sym n)
      ∙ times-same gf256 (length (points_of shards)) (λ j i. power (get_or (points_of shards) j 0) i) (at W) (at (powers_of (points_of shards))) (at W) j i j i
      (λ t below. sym (at-powers_of (points_of shards) are.points j t row below)) (λ t below. refl)
      ∙ sym (at-product (HasShape-powers_of (points_of shards) are.points) inverse.shape j i row col)
      ∙ ap (λ (C : Matrix). at C j i) inverse.right ∙ at-identity gf256 (length (points_of shards)) j i row col

  left_unit : (j i : ℕ) → j < length shards → i < length shards → times gf256 (length shards) (at W) V j i ≡ unit_at j i
  unfolding V
  left_unit j i in_rows in_cols =
      let n = count in
      let row : j < length (points_of shards) = omega (arith, in_rows, n) in
      let col : i < length (points_of shards) = omega (arith, in_cols, n) in
      ap (λ (l : ℕ). times gf256 l (at W) (λ j i. power (get_or (points_of shards) j 0) i) j i) (sym n)
      ∙ times-same gf256 (length (points_of shards)) (at W) (λ j i. power (get_or (points_of shards) j 0) i) (at W) (at (powers_of (points_of shards))) j i j i
      (λ t below. refl) (λ t below. sym (at-powers_of (points_of shards) are.points t i below col))
      ∙ sym (at-product inverse.shape (HasShape-powers_of (points_of shards) are.points) j i row col)
      ∙ ap (λ (C : Matrix). at C j i) inverse.left ∙ at-identity gf256 (length (points_of shards)) j i row col

  -- the values of the product are the values
  forth : (b : ℕ → ℕ → ℕ) (j t : ℕ) → j < length shards → b j t < 256
      → times gf256 (length shards) V (times gf256 (length shards) (at W) b) j t ≡ b j t
  forth b j t inside byte =
      sym (times_assoc gf256 gf256_laws (length shards) (length shards) V (at W) b j t)
      ∙ times-unit_row gf256 gf256_laws (length shards) (times gf256 (length shards) V (at W)) b j t j inside (λ i below. right_unit j i inside below) byte

  -- and the product of the values of coefficients gives them back
  back : (c : ℕ → ℕ → ℕ) (i t : ℕ) → i < length shards → c i t < 256
      → times gf256 (length shards) (at W) (times gf256 (length shards) V c) i t ≡ c i t
  back c i t inside byte =
      sym (times_assoc gf256 gf256_laws (length shards) (length shards) (at W) V c i t)
      ∙ times-unit_row gf256 gf256_laws (length shards) (times gf256 (length shards) (at W) V) c i t i inside (λ s below. left_unit i s inside below) byte

  -- the value of a stripe at a point of the shards
  stripe_is : (src : List ℕ) (j t : ℕ) → stripe_value src (length shards) (get_or (points_of shards) j 0) t
      ≡ times gf256 (length shards) V (λ i t. get_or src (t * length shards + i) 0) j t
  unfolding V
  stripe_is src j t =
      sum_below-same (length shards) (λ i. mul gf256 (get_or src (t * length shards + i) 0) (power (get_or (points_of shards) j 0) i))
      (λ i. mul gf256 (power (get_or (points_of shards) j 0) i) (get_or src (t * length shards + i) 0))
      (λ i below. gf256_laws.comm (get_or src (t * length shards + i) 0) (power (get_or (points_of shards) j 0) i))

  -- the shard at a place
  module _ (d : Shard) (j : ℕ) (inside : j < length shards) where
    own : IsOneOf (length shards) are.len (get_or shards j d)
    own = All-get_or (IsOneOf (length shards) are.len) shards j d inside are.each

    point_is : get_or (points_of shards) j 0 ≡ (get_or shards j d).x
    point_is = get_or-map (λ s. s.x) shards j d 0 inside

    bytes_are : (t : ℕ) → body_byte shards j t ≡ get_or (get_or shards j d).body.items t 0
    bytes_are t = ap (λ (xs : List ℕ). get_or xs t 0) (get_or-map (λ s. s.body.items) shards j d [] inside)

  module _ (whole : List ℕ) (is : IsWhole W (length shards) shards (stripes (length shards) are.len * length shards) whole) where
    -- a coefficient
    coefficient_is : (i t : ℕ) → i < length shards → t < stripes (length shards) are.len
        → get_or whole (t * length shards + i) 0 ≡ times gf256 (length shards) (at W) (body_byte shards) i t
    coefficient_is i t inside below =
        is.sums (t * length shards + i) (place_inside (length shards) t i (stripes (length shards) are.len) inside below)
        ∙ ap₂ (λ (r q : ℕ). sum_below (length shards) (λ s. mul gf256 (at W r s) (body_byte shards s q)))
        (place_mod (length shards) t i inside) (place_div (length shards) t i inside)

    -- where the padding is zero the coefficients are a source of the shards
    pub is_source : (d : Shard) → are.len ≤ length whole → ((p : ℕ) → get_or whole p 0 < 256) → ((j t : ℕ) → body_byte shards j t < 256)
        → IsPadded are.len whole → IsSourceOf shards (take are.len whole)
    unfolding value
    is_source d within bytes values padded = record {
      bytes = All-from_get_or (λ (byte : ℕ). byte < 256) (take are.len whole) 0 (λ p inside.
          let below : p < are.len = omega (arith, inside, long) in
          subst (λ (byte : ℕ). byte < 256) (sym (get_or-take are.len whole p 0 below)) (bytes p));
      each = All-from_get_or (HasShard (take are.len whole)) shards d (λ j inside. has d j inside);
    }
      where
        long : length (take are.len whole) ≡ are.len
        long = length-take-le are.len whole within

        same : (p : ℕ) → get_or (take are.len whole) p 0 ≡ get_or whole p 0
        same p = ⊎_elim
            (λ (before : p < are.len). get_or-take are.len whole p 0 before)
            (λ (after : are.len ≤ p). get_or_past (take are.len whole) p 0 (omega (arith, after, long))
            ∙ sym (⊎_elim (λ (inside : p < length whole). padded p after inside) (λ (past : length whole ≤ p). get_or_past whole p 0 past) (cases_lt p (length whole))))
            (cases_lt p are.len)

        one : (d : Shard) (j t : ℕ) (inside : j < length shards) → t < stripes (length shards) are.len
            → get_or (get_or shards j d).body.items t 0 ≡ stripe_value (take are.len whole) (length shards) (get_or (points_of shards) j 0) t
        one d j t inside below =
            sym (bytes_are d j inside t) ∙ sym (forth (body_byte shards) j t inside (values j t))
            ∙ sum_below-same (length shards) (λ i. mul gf256 (V j i) (times gf256 (length shards) (at W) (body_byte shards) i t))
            (λ i. mul gf256 (V j i) (get_or (take are.len whole) (t * length shards + i) 0))
            (λ i within. ap (mul gf256 (V j i)) (sym (coefficient_is i t within below) ∙ sym (same (t * length shards + i))))
            ∙ sym (stripe_is (take are.len whole) j t)

        has : (d : Shard) (j : ℕ) → j < length shards → HasShard (take are.len whole) (get_or shards j d)
        has d j inside =
            let o = own d j inside in
            let s : Shard = get_or shards j d in
            let n : stripes (length shards) (length (take are.len whole)) ≡ stripes (length shards) are.len = ap (stripes (length shards)) long in
            record {
              len = long ∙ sym o.len;
              body =
                  ext_get_or 0 s.body.items (map (stripe_value (take are.len whole) (length shards) (get_or (points_of shards) j 0)) (range_with_len 0 (stripes (length shards) are.len)))
                  (o.long ∙ sym (length-map-range_with_len (stripe_value (take are.len whole) (length shards) (get_or (points_of shards) j 0)) 0 (stripes (length shards) are.len)))
                  (λ t below.
                  let few : t < stripes (length shards) are.len = omega (arith, below, o.long) in
                  one d j t inside few
                  ∙ sym (get_or-map-range_with_len (stripe_value (take are.len whole) (length shards) (get_or (points_of shards) j 0)) 0 (stripes (length shards) are.len) t t 0 few (omega arith)))
                  ∙ ap (λ (m : ℕ). map (stripe_value (take are.len whole) (length shards) (get_or (points_of shards) j 0)) (range_with_len 0 m)) (sym n)
                  ∙ ap (λ (x : ℕ). value (take are.len whole) (length shards) x) (point_is d j inside)
                  ∙ ap (λ (c : ℕ). value (take are.len whole) c s.x) (sym o.count);
            }

    -- where there is a source the padding is zero
    pub padded_by_source : (d : Shard) → 0 < length shards → length whole ≡ stripes (length shards) are.len * length shards → (src : List ℕ) → IsSourceOf shards src → IsPadded are.len whole
    unfolding value
    padded_by_source d some long src source p after inside =
        let i : ℕ = p % length shards in
        let t : ℕ = p / length shards in
        let within : i < length shards = mod-lt p some in
        let below : t < stripes (length shards) are.len = quotient p (stripes (length shards) are.len) (length shards) some (omega (arith, inside, long)) in
        let c : ℕ → ℕ → ℕ = λ i t. get_or src (t * length shards + i) 0 in
        let same : (j : ℕ) → j < length shards → body_byte shards j t ≡ times gf256 (length shards) V c j t =
        λ j in_shards.
        let o = own d j in_shards in
        let h : HasShard src (get_or shards j d) = All-get_or (HasShard src) shards j d in_shards source.each in
        bytes_are d j in_shards t ∙ value_at src (get_or shards j d) (length shards) j t h o.count (ap (stripes (length shards)) (h.len ∙ o.len)) below
        ∙ ap (λ (x : ℕ). stripe_value src (length shards) x t) (sym (point_is d j in_shards)) ∙ stripe_is src j t in
        ap (λ (q : ℕ). get_or whole q 0) (sym (place_whole (length shards) p))
        ∙ coefficient_is i t within below
        ∙ times-same gf256 (length shards) (at W) (body_byte shards) (at W) (times gf256 (length shards) V c) i t i t (λ s few. refl) (λ s few. same s few)
        ∙ back c i t within (byte (t * length shards + i))
        ∙ ap (λ (q : ℕ). get_or src q 0) (place_whole (length shards) p)
        ∙ get_or_past src p 0 (omega (arith, after, (All-get_or (HasShard src) shards 0 d some source.each).len, (own d 0 some).len))
      where
        quotient : (p n k : ℕ) → 0 < k → p < n * k → p / k < n
        quotient p n k some inside = grind arith

        byte : (q : ℕ) → get_or src q 0 < 256
        byte q = ⊎_elim
            (λ (inside : q < length src). All-get_or (λ (b : ℕ). b < 256) src q 0 inside source.bytes)
            (λ (past : length src ≤ q). subst (λ (b : ℕ). b < 256) (sym (get_or_past src q 0 past)) (omega arith))
            (cases_lt q (length src))

        value_at : (src : List ℕ) (s : Shard) (k j t : ℕ) → HasShard src s → s.k ≡ k → stripes k (length src) ≡ stripes k are.len → t < stripes k are.len
            → get_or s.body.items t 0 ≡ stripe_value src k s.x t
        value_at src s k j t h count n below =
            ap (λ (xs : List ℕ). get_or xs t 0) h.body
            ∙ ap (λ (c : ℕ). get_or (map (stripe_value src c s.x) (range_with_len 0 (stripes c (length src)))) t 0) count
            ∙ get_or-map-range_with_len (stripe_value src k s.x) 0 (stripes k (length src)) t t 0 (omega (arith, n, below)) (omega arith)

-- the length that the first shard tells
pub length_is : (shards : List Shard) (are : AreShards shards) (d : Shard) → 0 < length shards → (get_or shards 0 d).len ≡ are.len
length_is shards are d some = (All-get_or (IsOneOf (length shards) are.len) shards 0 d some are.each).len
