-- Shards with differing points have one source only.
use Rattle.std.proofs.Common.{◌≡◌, ℕ, ◌+◌, ◌-◌, ◌*◌, ◌/◌, ◌%◌, ◌<◌, ◌≤◌, List, [], ◌∷◌, length, get_or, ⊎_elim, sym, ◌∙◌, ap, ap₂, subst, arith, ext_get_or, bit_xor}
use Rattle.std.specs.Int.Bits.{xor_lt, xor_self}
use Rattle.std.proofs.Math.Nat.{mod-lt, mul-le-mul_right}
use Rattle.std.proofs.lemmas.List.{get_or_past, get_or-map, length-map}
use Rattle.std.proofs.lemmas.List.Elements.{All-get_or}
use Rattle.std.proofs.lemmas.List.FromFn.{get_or-map-range_with_len}
use Rattle.std.proofs.lemmas.Bool.{cases_lt}
use Rattle.m4_model.specs.Field.{sum_below, mul}
use Rattle.m4_model.proofs.FieldLemmas.{sum_below-same}
use Rattle.m4_model.proofs.SumLemmas.{sum_below-xor}
use Rattle.m4_model.proofs.Polynomials.{xor_zero_equal}
use Rattle.m4_erasure.specs.Shards.{gf256, power, stripes, stripe_value, value}
use Rattle.m4_erasure.specs.Restored.{AreShards, GivesBack, HasShard, IsOneOf, IsSourceOf, Restores, points_of}
use Rattle.m4_erasure.specs.declared.shard.Shard.{Shard}
use Rattle.m4_erasure.specs.declared.shard.Restored.{Restored}
use Rattle.m4_erasure.specs.declared.shard.Restored.TheVariants.{Is, Damaged}
use Rattle.m4_erasure.proofs.Gf256.{gf256_laws}
use Rattle.m4_erasure.proofs.Places.{place_whole}
use Rattle.m4_erasure.proofs.Points.{point}
use Rattle.m4_erasure.proofs.Roots.{zero_from_sums}

-- every place of the source is in a stripe
in_stripes : (p n k : ℕ) → 0 < k → p < n → p / k < stripes k n
in_stripes p n k some inside =
    ⊎_elim (λ (within : p / k < stripes k n). within)
    (λ (past : stripes k n ≤ p / k).
    let h = mul-le-mul_right {m = stripes k n} {n = p / k} k past in
    absurd (omega (arith, h, inside, place_whole k p, place_whole k (n + (k - 1)), mod-lt (n + (k - 1)) some)))
    (cases_lt (p / k) (stripes k n))

-- a source has bytes, and 0 past them
byte_of : (shards : List Shard) (src : List ℕ) → IsSourceOf shards src → (p : ℕ) → get_or src p 0 < 256
byte_of shards src source p =
    ⊎_elim (λ (inside : p < length src). All-get_or (λ (b : ℕ). b < 256) src p 0 inside source.bytes)
    (λ (past : length src ≤ p). subst (λ (b : ℕ). b < 256) (sym (get_or_past src p 0 past)) (omega arith))
    (cases_lt p (length src))

-- the value of a stripe in a shard
value_at : (src : List ℕ) (s : Shard) (t : ℕ) → HasShard src s → t < stripes s.k (length src)
    → get_or s.body.items t 0 ≡ stripe_value src s.k s.x t
unfolding value
value_at src s t has below =
    ap (λ (xs : List ℕ). get_or xs t 0) has.body
    ∙ get_or-map-range_with_len (stripe_value src s.k s.x) 0 (stripes s.k (length src)) t t 0 below (omega arith)

-- polynomials with one value have a difference that is zero there
zero_difference : (k x : ℕ) (a b : ℕ → ℕ) → sum_below k (λ i. mul gf256 (a i) (power x i)) ≡ sum_below k (λ i. mul gf256 (b i) (power x i))
    → sum_below k (λ i. mul gf256 (power x i) (bit_xor (a i) (b i))) ≡ 0
zero_difference k x a b same =
    sum_below-same k (λ i. mul gf256 (power x i) (bit_xor (a i) (b i)))
    (λ i. bit_xor (mul gf256 (a i) (power x i)) (mul gf256 (b i) (power x i)))
    (λ i below. gf256_laws.distrib (power x i) (a i) (b i)
    ∙ ap₂ bit_xor (gf256_laws.comm (power x i) (a i)) (gf256_laws.comm (power x i) (b i)))
    ∙ sum_below-xor k (λ i. mul gf256 (a i) (power x i)) (λ i. mul gf256 (b i) (power x i))
    ∙ ap (λ (w : ℕ). bit_xor w (sum_below k (λ i. mul gf256 (b i) (power x i)))) same
    ∙ xor_self (sum_below k (λ i. mul gf256 (b i) (power x i)))

module _ (shards : List Shard) (d : Shard) (are : AreShards shards) where
  own : (j : ℕ) → j < length shards → IsOneOf (length shards) are.len (get_or shards j d)
  own j inside = All-get_or (IsOneOf (length shards) are.len) shards j d inside are.each

  long : (src : List ℕ) → IsSourceOf shards src → length src ≡ are.len
  long src source =
      let some : 0 < length shards = omega (arith, are.count.0) in
      (All-get_or (HasShard src) shards 0 d some source.each).len ∙ (own 0 some).len

  -- the value of a stripe of a source at a point of the shards
  stripe_at : (src : List ℕ) → IsSourceOf shards src → (j t : ℕ) → j < length shards → t < stripes (length shards) are.len
      → stripe_value src (length shards) (get_or (points_of shards) j 0) t ≡ get_or (get_or shards j d).body.items t 0
  stripe_at src source j t inside below =
      let s = get_or shards j d in
      let o = own j inside in
      let n : stripes s.k (length src) ≡ stripes (length shards) are.len = ap₂ stripes o.count (long src source) in
      ap (λ (x : ℕ). stripe_value src (length shards) x t) (get_or-map (λ s. s.x) shards j d 0 inside)
      ∙ ap (λ (c : ℕ). stripe_value src c s.x t) (sym o.count)
      ∙ sym (value_at src s t (All-get_or (HasShard src) shards j d inside source.each) (omega (arith, n, below)))

  -- two sources have the same byte everywhere
  same_byte : (a b : List ℕ) → IsSourceOf shards a → IsSourceOf shards b → (p : ℕ) → p < are.len → get_or a p 0 ≡ get_or b p 0
  same_byte a b of_a of_b p inside =
      let k : ℕ = length shards in
      let t : ℕ = p / k in
      let some : 0 < length shards = omega (arith, are.count.0) in
      let below : t < stripes k are.len = in_stripes p are.len k some inside in
      let few = length-map shards (λ s. s.x) in
      let c : ℕ → ℕ = λ i. bit_xor (get_or a (t * k + i) 0) (get_or b (t * k + i) 0) in
      let none : c (p % k) ≡ 0 =
      zero_from_sums k c (λ j. get_or (points_of shards) j 0)
      (λ i within. xor_lt 8 (get_or a (t * k + i) 0) (get_or b (t * k + i) 0) (byte_of shards a of_a (t * k + i)) (byte_of shards b of_b (t * k + i)))
      (λ j within. point (points_of shards) are.points j (omega (arith, few, within)))
      (λ i j less within. are.points.differ i j less (omega (arith, few, within)))
      (λ j within. zero_difference k (get_or (points_of shards) j 0) (λ i. get_or a (t * k + i) 0) (λ i. get_or b (t * k + i) 0)
      (stripe_at a of_a j t within below ∙ sym (stripe_at b of_b j t within below)))
      (p % k) (mod-lt p some) in
      let equal = xor_zero_equal (get_or a (t * k + p % k) 0) (get_or b (t * k + p % k) 0) none in
      ap (λ (q : ℕ). get_or a q 0) (sym (place_whole k p)) ∙ equal ∙ ap (λ (q : ℕ). get_or b q 0) (place_whole k p)

  same_source : (a b : List ℕ) → IsSourceOf shards a → IsSourceOf shards b → a ≡ b
  same_source a b of_a of_b =
      ext_get_or 0 a b (long a of_a ∙ sym (long b of_b)) (λ p inside. same_byte a b of_a of_b p (omega (arith, inside, long a of_a)))

-- shards with differing points have no two sources
pub one_source : (shards : List Shard) → AreShards shards → (a b : List ℕ) → IsSourceOf shards a → IsSourceOf shards b → a ≡ b
one_source [] are a b of_a of_b = absurd (omega (arith, are.count.0))
one_source (d ∷ shards) are a b of_a of_b = same_source (d ∷ shards) d are a b of_a of_b

-- what is restored is the source
pub given_back : (shards : List Shard) (src : List ℕ) (restored : Restored) → AreShards shards → IsSourceOf shards src → Restores shards restored
    → GivesBack src restored
given_back shards src (Is found) are source restores = one_source shards are found.items src restores source
given_back shards src Damaged are source restores = restores src source
