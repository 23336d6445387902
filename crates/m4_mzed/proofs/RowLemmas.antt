-- Rows of bits as rows of elements: parts of rows, and rows one after the other.
use Rattle.std.proofs.Common.{◌≡◌, ℕ, zero, suc, ◌+◌, ◌-◌, ◌*◌, ◌≤◌, List, [], ◌∷◌, ◌++◌, length, take, drop, refl, sym, ◌∙◌, ap, ap₂, arith}
use Rattle.std.proofs.lemmas.List.{length-append, length-drop, length-take-le, take-take, drop-drop, drop-take, take_at, drop_at, append_assoc, take-append-drop}
use Rattle.std.proofs.lemmas.List.Elements.{All-append, All-take, All-drop, All-same}
use Rattle.m4_model.specs.Field.{Field, IsElement}
use Rattle.m4_model.specs.Field.{width}
use Rattle.m4_mzed.specs.Packed.{number_of, unpacked, IsPackedRow}

pub length-unpacked : (w n : ℕ) (bits : List ℕ) → length (unpacked w n bits) ≡ n
unfolding unpacked
length-unpacked w zero bits = refl
length-unpacked w (suc n) bits = ap suc (length-unpacked w n (drop w bits))

pub times_suc : (c w : ℕ) → suc c * w ≡ w + c * w
times_suc c w = omega arith

-- the elements of the first bits
pub unpacked-take : (w c n : ℕ) (bits : List ℕ) → c ≤ n → unpacked w c (take (c * w) bits) ≡ take c (unpacked w n bits)
unfolding unpacked
unpacked-take w zero n bits within = refl
unpacked-take w (suc c) zero bits within = absurd (omega arith)
unpacked-take w (suc c) (suc n) bits within =
    let more = times_suc c w in
    let first : take w (take (suc c * w) bits) ≡ take w bits = take-take w (suc c * w) bits (omega (arith, more)) in
    let rest : drop w (take (suc c * w) bits) ≡ take (c * w) (drop w bits) = ap (λ k. drop w (take k bits)) more ∙ drop-take w (c * w) bits in
    ap₂ (λ x xs. number_of x ∷ unpacked w c xs) first rest
    ∙ ap (λ xs. number_of (take w bits) ∷ xs) (unpacked-take w c n (drop w bits) (omega arith))

-- and of the others
pub unpacked-drop : (w c n : ℕ) (bits : List ℕ) → c ≤ n → unpacked w (n - c) (drop (c * w) bits) ≡ drop c (unpacked w n bits)
unfolding unpacked
unpacked-drop w zero n bits within = let e : n - 0 ≡ n = omega arith in let f : 0 * w ≡ 0 = omega arith in rw (e, f) refl
unpacked-drop w (suc c) zero bits within = absurd (omega arith)
unpacked-drop w (suc c) (suc n) bits within =
    let e : suc n - suc c ≡ n - c = omega arith in
    let more : suc c * w ≡ w + c * w = times_suc c w in
    ap₂ (λ k m. unpacked w k (drop m bits)) e more
    ∙ ap (unpacked w (n - c)) (sym (drop-drop (c * w) w bits))
    ∙ unpacked-drop w c n (drop w bits) (omega arith)

-- the elements of bits that follow others
pub unpacked-append : (w n m : ℕ) (xs ys : List ℕ) → length xs ≡ n * w → unpacked w (n + m) (xs ++ ys) ≡ unpacked w n xs ++ unpacked w m ys
unfolding unpacked
unpacked-append w zero m [] ys long = let e : 0 + m ≡ m = omega arith in rw e refl
unpacked-append w zero m (x ∷ xs) ys long = absurd (omega arith)
unpacked-append w (suc n) m xs ys long =
    let e : suc n + m ≡ suc (n + m) = omega arith in
    let enough : w ≤ length xs = let t = times_suc n w in omega (arith, t, long) in
    let rest : length (drop w xs) ≡ n * w = let t = times_suc n w in omega (arith, length-drop w xs, t, long) in
    let split : xs ++ ys ≡ take w xs ++ (drop w xs ++ ys) = ap (λ l. l ++ ys) (sym (take-append-drop w xs)) ∙ append_assoc (take w xs) (drop w xs) ys in
    let whole : length (take w xs) ≡ w = length-take-le w xs enough in
    ap (λ k. unpacked w k (xs ++ ys)) e
    ∙ ap (λ l. number_of (take w l) ∷ unpacked w (n + m) (drop w l)) split
    ∙ ap₂ (λ x l. number_of x ∷ unpacked w (n + m) l) (take_at (take w xs) (drop w xs ++ ys) w whole) (drop_at (take w xs) (drop w xs ++ ys) w whole)
    ∙ ap (λ l. number_of (take w xs) ∷ l) (unpacked-append w n m (drop w xs) ys rest)

module _ (F : Field) where
  pub packed_take : (c n : ℕ) (bits : List ℕ) → c ≤ n → IsPackedRow F n bits → IsPackedRow F c (take (c * width F) bits)
  packed_take c n bits within is = record {
    long = length-take-le (c * width F) bits (enough (width F) is.long);
    elements = All-same (IsElement F) _ _ (unpacked-take (width F) c n bits within) (All-take (IsElement F) c _ is.elements);
  }
    where
      enough : (w : ℕ) → length bits ≡ n * w → c * w ≤ length bits
      enough w long = let m : c * w ≤ n * w = grind arith in omega (arith, m, long)

  pub packed_drop : (c n : ℕ) (bits : List ℕ) → c ≤ n → IsPackedRow F n bits → IsPackedRow F (n - c) (drop (c * width F) bits)
  packed_drop c n bits within is = record {
    long = rest (width F) is.long;
    elements = All-same (IsElement F) _ _ (unpacked-drop (width F) c n bits within) (All-drop (IsElement F) c _ is.elements);
  }
    where
      rest : (w : ℕ) → length bits ≡ n * w → length (drop (c * w) bits) ≡ (n - c) * w
      rest w long = let m : n * w ≡ (n - c) * w + c * w = grind arith in omega (arith, m, long, length-drop (c * w) bits)

  pub packed_append : (n m : ℕ) (xs ys : List ℕ) → IsPackedRow F n xs → IsPackedRow F m ys → IsPackedRow F (n + m) (xs ++ ys)
  packed_append n m xs ys is js = record {
    long = both (width F) is.long js.long;
    elements = All-same (IsElement F) _ _ (unpacked-append (width F) n m xs ys is.long) (All-append (IsElement F) _ _ is.elements js.elements);
  }
    where
      both : (w : ℕ) → length xs ≡ n * w → length ys ≡ m * w → length (xs ++ ys) ≡ (n + m) * w
      both w first second = let e : (n + m) * w ≡ n * w + m * w = grind arith in omega (arith, e, first, second, length-append xs ys)
