-- The filled rows of bits hold the elements of the definition.
use Rattle.std.proofs.Common.{◌≡◌, ℕ, suc, ◌+◌, ◌*◌, ◌/◌, ◌%◌, ◌^◌, ◌<◌, ◌≤◌, inl, inr, min, nat_lt, if◌then◌else◌, List, [], length, get_or, map, refl, sym, ◌∙◌, ap, ap₂, subst, arith, bit_and, mod-eq_of_lt}
use Rattle.std.specs.Int.{bit_at}
use Rattle.std.specs.List.{All, range_with_len}
use Rattle.std.proofs.Math.Nat.{div-div-eq-div-mul, mul-add-mod_self_right}
use Rattle.std.proofs.Math.Pow.{pow_pos, pow_mono}
use Rattle.std.proofs.lemmas.Bool.{cases_lt, cases_eq, cond-true, cond-false, lt-ltb, le-ltb}
use Rattle.std.proofs.lemmas.Nat.{pow-add, div-add-mod', div-mul-add}
use Rattle.std.proofs.lemmas.Nat.Bits.{bit_at_and, bit_at_above, bit_at-lt}
use Rattle.std.proofs.lemmas.List.{get_or-map, length-map}
use Rattle.std.proofs.lemmas.List.Elements.{All-from_get_or}
use Rattle.std.proofs.lemmas.List.FromFn.{length-map-range_with_len, get_or-map-range_with_len}
use Rattle.m4_model.specs.Field.{Field, IsCarried, IsElement, gf2, width}
use Rattle.m4_model.specs.Matrix.{Matrix, matrix_of, table, zero_matrix}
use Rattle.m4_model.specs.Text.{words_per_row}
use Rattle.m4_model.proofs.MatrixLemmas.{length-table, row-table, same_matrix}
use Rattle.m4_mzd.specs.Window.{Window, content, showing}
use Rattle.m4_bits.proofs.TransposeLemmas.{bit_at-mod}
use Rattle.m4_field.proofs.WidthLemmas.{width_facts}
use Rattle.m4_mzed.specs.Packed.{unpacked, IsPackedRow}
use Rattle.m4_mzed.specs.PackedIn.{IsPackedIn}
use Rattle.m4_mzed.specs.Owned.{e_matrix}
use Rattle.m4_mzed.proofs.IndexLemmas.{AreBits, unpacked_is}
use Rattle.m4_model.specs.Generated.{word, row_word, generated, generated_at}
use Rattle.m4_gen.specs.Source.{masked_bit}

times_le : (a b c : ℕ) → a ≤ b → a * c ≤ b * c
times_le a b c le = grind arith

-- the mask has the bits that elements of the field use
abbrev pub IsMask : Field → ℕ → Type 0
IsMask F mask = (q : ℕ) → q < 64 → bit_at mask q ≡ (if nat_lt (q % width F) F.degree then 1 else 0)

-- the place of bit v of element j, k bits an element and m of them to a word
record IsPlace (k j v : ℕ) : Type 0 where
  word : (j * k + v) / 64 ≡ j * k / 64
  bit : (j * k + v) % 64 ≡ j * k % 64 + v
  part : (j * k + v) % 64 % k ≡ v

place : (k m j v : ℕ) → m * k ≡ 64 → 0 < m → v < k → IsPlace k j v
place k m j v whole some small =
    let d = div-add-mod' j m in
    let low : j % m < m = omega (arith, some) in
    let le = times_le (suc (j % m)) m k low in
    let s : suc (j % m) * k ≡ j % m * k + k = grind arith in
    let room : j % m * k + v < 64 = omega (arith, le, s, small, whole) in
    let start : j % m * k < 64 = omega (arith, room) in
    let first : j * k ≡ j / m * (m * k) + j % m * k = ap (λ x. x * k) (sym d) ∙ spread (j / m) m (j % m) k in
    let second : j / m * (m * k) ≡ j / m * 64 = ap (λ x. j / m * x) whole in
    let base : j * k ≡ j / m * 64 + j % m * k = omega (arith, first, second) in
    let all : j * k + v ≡ j / m * 64 + (j % m * k + v) = omega (arith, base) in
    let base_word : j * k / 64 ≡ j / m = ap (λ x. x / 64) base ∙ div-mul-add (j / m) 64 (j % m * k) start in
    let base_bit : j * k % 64 ≡ j % m * k = ap (λ x. x % 64) base ∙ mul-add-mod_self_right (j / m) 64 (j % m * k) ∙ mod-eq_of_lt start in
    let all_word : (j * k + v) / 64 ≡ j / m = ap (λ x. x / 64) all ∙ div-mul-add (j / m) 64 (j % m * k + v) room in
    let all_bit : (j * k + v) % 64 ≡ j % m * k + v = ap (λ x. x % 64) all ∙ mul-add-mod_self_right (j / m) 64 (j % m * k + v) ∙ mod-eq_of_lt room in
    record {
      word = all_word ∙ sym base_word;
      bit = all_bit ∙ ap (λ x. x + v) (sym base_bit);
      part = ap (λ x. x % k) all_bit ∙ mul-add-mod_self_right (j % m) k v ∙ mod-eq_of_lt small;
    }
  where
    spread : (q m r c : ℕ) → (q * m + r) * c ≡ q * (m * c) + r * c
    spread q m r c = grind arith

some_side : (m k : ℕ) → m * k ≡ 64 → 0 < m
some_side m k whole = elim (cases_eq m 0) [
  | inr away ↦ omega (arith, away)
  | inl none ↦ let z = ap (λ y. y * k) none in absurd (omega (arith, z, whole))
]

bit_shifted : (n s i : ℕ) → bit_at (n / 2 ^ s) i ≡ bit_at n (s + i)
bit_shifted n s i = ap (λ x. x % 2) (div-div-eq-div-mul n (2 ^ s) (2 ^ i) ∙ ap (λ p. n / p) (sym (pow-add 2 s i)))

-- a bit of a word under the mask is the bit of the element
masked : (k e x mask s q v : ℕ) → q ≡ s + v → q % k ≡ v → bit_at mask q ≡ (if nat_lt (q % k) e then 1 else 0)
    → bit_at (bit_and x mask) q ≡ bit_at (x / 2 ^ s % 2 ^ e) v
masked k e x mask s q v at part is =
    bit_at_and x mask q
    ∙ ap (min (bit_at x q)) (is ∙ ap (λ p. if nat_lt p e then 1 else 0) part)
    ∙ (elim (cases_lt v e) [
      | inl used ↦
          ap (min (bit_at x q)) (cond-true _ 1 0 (lt-ltb v e used))
          ∙ one (bit_at x q) (bit_at-lt x q) ∙ ap (bit_at x) at ∙ sym (bit_at-mod (x / 2 ^ s) e v used ∙ bit_shifted x s v)
      | inr spare ↦
          ap (min (bit_at x q)) (cond-false _ 1 0 (le-ltb v e spare))
          ∙ none (bit_at x q) ∙ sym (bit_at_above (x / 2 ^ s % 2 ^ e) e v (let p = pow_pos e in omega (arith, p)) spare)
    ])
  where
    one : (b : ℕ) → b < 2 → min b 1 ≡ b
    one b small = omega (arith, small)

    none : (b : ℕ) → min b 0 ≡ 0
    none b = omega arith

module _ (F : Field) (carried : IsCarried F) (m n mask seed : ℕ) (is : IsMask F mask) where
  abbrev rows : List (List ℕ)
  rows = table m (n * width F) (masked_bit (n * width F) mask seed)

  abbrev bits_of : ℕ → List ℕ
  bits_of i = map (masked_bit (n * width F) mask seed i) (range_with_len 0 (n * width F))

  long : (i : ℕ) → length (bits_of i) ≡ n * width F
  long i = length-map-range_with_len (masked_bit (n * width F) mask seed i) 0 (n * width F)

  bit_of : (i p : ℕ) → p < n * width F → get_or (bits_of i) p 0 ≡ masked_bit (n * width F) mask seed i p
  bit_of i p below = get_or-map-range_with_len (masked_bit (n * width F) mask seed i) 0 (n * width F) p p 0 below (omega arith)

  are_bits : (i : ℕ) → AreBits (bits_of i)
  are_bits i = All-from_get_or (λ b. b < 2) (bits_of i) 0 (λ p inside.
      let l = long i in
      subst (λ b. b < 2) (sym (bit_of i p (omega (arith, l, inside)))) (bit_at-lt (bit_and (word seed (i * words_per_row (n * width F) + p / 64)) mask) (p % 64)))

  abbrev elements_of : ℕ → List ℕ
  elements_of i = map (generated_at F n seed i) (range_with_len 0 n)

  count : (i : ℕ) → length (elements_of i) ≡ n
  count i = length-map-range_with_len (generated_at F n seed i) 0 n

  element_of : (i j : ℕ) → j < n → get_or (elements_of i) j 0 ≡ generated_at F n seed i j
  element_of i j below = get_or-map-range_with_len (generated_at F n seed i) 0 n j j 0 below (omega arith)

  is_element : (i j : ℕ) → IsElement F (generated_at F n seed i j)
  is_element i j = let p = pow_pos F.degree in below (row_word F n seed i (j * width F / 64) / 2 ^ (j * width F % 64)) (2 ^ F.degree) p
    where
      below : (a b : ℕ) → 0 < b → a % b < b
      below a b some = omega (arith, some)

  same : (i j v : ℕ) → j < n → v < width F → get_or (bits_of i) (j * width F + v) 0 ≡ bit_at (get_or (elements_of i) j 0) v
  same i j v below small =
      let whole = (width_facts F carried).whole in
      let at = place (width F) (64 / width F) j v whole (some_side (64 / width F) (width F) whole) small in
      let le = times_le (suc j) n (width F) below in
      let s : suc j * width F ≡ j * width F + width F = grind arith in
      bit_of i (j * width F + v) (omega (arith, le, s, small))
      ∙ ap (λ t. bit_at (bit_and (word seed (i * words_per_row (n * width F) + t)) mask) ((j * width F + v) % 64)) at.word
      ∙ masked (width F) F.degree (row_word F n seed i (j * width F / 64)) mask (j * width F % 64) ((j * width F + v) % 64) v at.bit at.part
      (is ((j * width F + v) % 64) (omega arith))
      ∙ ap (λ x. bit_at x v) (sym (element_of i j below))

  row_is : (i : ℕ) → unpacked (width F) n (bits_of i) ≡ elements_of i
  row_is i =
      unpacked_is (width F) n (bits_of i) (long i) (are_bits i) (elements_of i) (count i)
      (λ j below. subst (λ x. x < 2 ^ width F) (sym (element_of i j below))
      (let e = is_element i j in let w = pow_mono {i = F.degree} {j = width F} (width_facts F carried).room in omega (arith, e, w)))
      (λ j v below small. same i j v below small)

  row_at : (i : ℕ) → i < m → get_or rows i [] ≡ bits_of i
  row_at i below = row-table m (n * width F) (masked_bit (n * width F) mask seed) i below

  packed_row : (i : ℕ) → IsPackedRow F n (bits_of i)
  packed_row i = record {
    long = long i;
    elements = let P : List ℕ → Type 0 = All (IsElement F) in
        subst P (sym (row_is i)) (All-from_get_or (IsElement F) (elements_of i) 0 (λ j inside.
        let c = count i in
        let Q : ℕ → Type 0 = IsElement F in
        subst Q (sym (element_of i j (omega (arith, c, inside)))) (is_element i j)));
  }

  pub filled_packed : IsPackedIn F n (matrix_of gf2 m (n * width F) (masked_bit (n * width F) mask seed))
  filled_packed = record {
    carried = carried;
    wide = refl;
    count = length-table m (n * width F) (masked_bit (n * width F) mask seed);
    packed = All-from_get_or (IsPackedRow F n) rows [] (λ i inside.
        let l = length-table m (n * width F) (masked_bit (n * width F) mask seed) in
        let P : List ℕ → Type 0 = IsPackedRow F n in
        subst P (sym (row_at i (omega (arith, l, inside)))) (packed_row i));
  }

  shown_row : (i : ℕ) → i < m → get_or (map (unpacked (width F) n) rows) i [] ≡ elements_of i
  shown_row i below =
      get_or-map (unpacked (width F) n) rows i [] [] (let l = length-table m (n * width F) (masked_bit (n * width F) mask seed) in omega (arith, l, below))
      ∙ ap (unpacked (width F) n) (row_at i below) ∙ row_is i

  pub filled_shows : e_matrix F n (matrix_of gf2 m (n * width F) (masked_bit (n * width F) mask seed)) ≡ generated F m n seed
  filled_shows =
      same_matrix F m n (generated_at F n seed) (e_matrix F n (matrix_of gf2 m (n * width F) (masked_bit (n * width F) mask seed))) refl refl refl
      (length-map rows (unpacked (width F) n) ∙ length-table m (n * width F) (masked_bit (n * width F) mask seed))
      (λ i below. ap length (shown_row i below) ∙ count i)
      (λ i j below within. ap (λ l. get_or l j 0) (shown_row i below) ∙ element_of i j within)

-- the matrix of bits that was filled
pub filled_bits : (F : Field) (m n k mask seed source : ℕ) (w next : Window) (zeros bits : Matrix) → k ≡ width F → zeros ≡ zero_matrix gf2 m (n * k) → content w ≡ zeros
    → source ≡ seed → next ≡ showing w (matrix_of gf2 w.rows w.cols (masked_bit w.cols mask source)) → bits ≡ content next
    → bits ≡ matrix_of gf2 m (n * width F) (masked_bit (n * width F) mask seed)
filled_bits F m n k mask seed source w next zeros bits wide are holds starts written is =
    let shape = holds ∙ are in
    is ∙ ap content written
    ∙ ap₂ (λ r c. matrix_of gf2 r c (masked_bit c mask source)) (ap (λ (A : Matrix). A.rows) shape) (ap (λ (A : Matrix). A.cols) shape ∙ ap (λ x. n * x) wide)
    ∙ ap (λ s. matrix_of gf2 m (n * width F) (masked_bit (n * width F) mask s)) starts
