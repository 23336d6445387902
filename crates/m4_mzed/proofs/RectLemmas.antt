-- Matrices of elements by the bits of their rows, and rectangles of them.
use Rattle.std.proofs.Common.{◌≡◌, ℕ, ◌+◌, ◌-◌, ◌*◌, ◌^◌, ◌<◌, ◌≤◌, inl, inr, Bool, true, false, ◌&&◌, cond, nat_le, nat_lt, leb-true, ltb-true, [], length, get_or, map, refl, sym, ◌∙◌, ap, ap₂, subst, arith}
use Rattle.std.specs.Int.{bit_at}
use Rattle.std.specs.List.{All}
use Rattle.std.proofs.Math.Pow.{pow_mono}
use Rattle.std.proofs.lemmas.Nat.Bits.{same_from_bits_below}
use Rattle.std.proofs.lemmas.List.{length-map, get_or-map}
use Rattle.std.proofs.lemmas.List.Elements.{All-from_get_or, All-get_or}
use Rattle.m4_model.specs.Field.{Field, IsElement, gf2}
use Rattle.m4_model.specs.Matrix.{Matrix, IsMatrix, row, at, table, matrix_of}
use Rattle.m4_model.specs.Shapes.{cut, replace}
use Rattle.m4_model.proofs.MatrixLemmas.{at-table, same_table, same_parts}
use Rattle.m4_model.specs.Field.{IsCarried}
use Rattle.m4_model.specs.Field.{width}
use Rattle.m4_mzd.specs.Window.{Window, IsWindow}
use Rattle.m4_mzd.specs.Window.{content as bit_content}
use Rattle.m4_mzed.specs.EWindow.{content}
use Rattle.m4_mzed.specs.Owned.{e_matrix}
use Rattle.m4_mzed.specs.Packed.{unpacked, elements, IsPackedRow, IsPacked}
use Rattle.m4_mzed.specs.PackedIn.{IsPackedIn}
use Rattle.m4_mzed.proofs.RowLemmas.{length-unpacked}
use Rattle.m4_mzed.proofs.IndexLemmas.{AreBits, element_bit, element_small}
use Rattle.m4_field.proofs.WidthLemmas.{width_facts}
use Rattle.m4_mzed.proofs.EntryLemmas.{bit_of_entry, entry_element}
use Rattle.m4_mzed.proofs.PartLemmas.{packed_matrix}
use Rattle.std.proofs.lemmas.Bool.{cases_lt, lt-ltb, le-ltb, le-leb, lt-leb}

-- a row of a matrix over GF(2)
pub bits_of_row : (P : Matrix) → IsMatrix P → P.field ≡ gf2 → (i : ℕ) → i < P.rows → AreBits (row P i)
bits_of_row P shape over i below = All-from_get_or (λ b. b < 2) (row P i) 0 (λ k inside.
    let Q : Field → Type 0 = λ G. at P i k < 2 ^ G.degree in subst Q over (shape.elements i k below (let e = shape.width i below in omega (arith, e, inside))))

-- a bit of a matrix is a bit of its entry
pub matrix_bit : (F : Field) (n : ℕ) (P : Matrix) → IsPackedIn F n P → IsMatrix P → P.field ≡ gf2 → (i j v : ℕ) → i < P.rows → j < n → v < width F
    → at P i (j * width F + v) ≡ bit_at (at (e_matrix F n P) i j) v
matrix_bit F n P is shape over i j v below within v_below =
    let c = is.count in
    let p = All-get_or (IsPackedRow F n) P.entries i [] (omega (arith, c, below)) is.packed in
    sym (ap (λ r. bit_at (get_or r j 0) v) (get_or-map (unpacked (width F) n) P.entries i [] [] (omega (arith, c, below)))
    ∙ element_bit (width F) n (row P i) p.long (bits_of_row P shape over i below) j v within v_below)

-- a matrix whose bits are those of elements
module _ (F : Field) (x : IsCarried F) (m : ℕ) (Q : Matrix) (g : ℕ → ℕ → ℕ) (shape : IsMatrix Q) (over : Q.field ≡ gf2) (wide : Q.cols ≡ m * width F)
    (small : (i j : ℕ) → i < Q.rows → j < m → IsElement F (g i j))
    (bits : (i j v : ℕ) → i < Q.rows → j < m → v < width F → at Q i (j * width F + v) ≡ bit_at (g i j) v) where
  long : (i : ℕ) → i < Q.rows → length (row Q i) ≡ m * width F
  long i below = shape.width i below ∙ wide

  entry : (i j : ℕ) → i < Q.rows → j < m → get_or (unpacked (width F) m (row Q i)) j 0 ≡ g i j
  entry i j below within =
      let f = (width_facts F x).room in
      same_from_bits_below (width F) _ _ (element_small (width F) m (row Q i) (long i below) (bits_of_row Q shape over i below) j within)
      (let s = small i j below within in let p = pow_mono {i = F.degree} {j = width F} f in omega (arith, s, p))
      (λ v v_below. element_bit (width F) m (row Q i) (long i below) (bits_of_row Q shape over i below) j v within v_below ∙ bits i j v below within v_below)

  pub all_packed : All (IsPackedRow F m) Q.entries
  all_packed = All-from_get_or (IsPackedRow F m) Q.entries [] (λ i inside.
      let below : i < Q.rows = let h = shape.height in omega (arith, h, inside) in
      record {
        long = long i below;
        elements = All-from_get_or (IsElement F) _ 0 (λ j within.
            let j_below : j < m = let l = length-unpacked (width F) m (row Q i) in omega (arith, l, within) in
            let P : ℕ → Type 0 = IsElement F in subst P (sym (entry i j below j_below)) (small i j below j_below));
      })

  pub all_elements : map (unpacked (width F) m) Q.entries ≡ table Q.rows m g
  all_elements =
      let f = unpacked (width F) m in
      let h = shape.height in
      let is : (i : ℕ) → i < Q.rows → get_or (map f Q.entries) i [] ≡ f (row Q i) = λ i below. get_or-map f Q.entries i [] [] (omega (arith, h, below)) in
      same_table Q.rows m g (map f Q.entries) (length-map Q.entries f ∙ h)
      (λ i below. ap length (is i below) ∙ length-unpacked (width F) m (row Q i))
      (λ i j below within. ap (λ l. get_or l j 0) (is i below) ∙ entry i j below within)

  pub made_packed : IsPackedIn F m Q
  made_packed = record { carried = x; wide = wide; count = shape.height; packed = all_packed }

  pub made_is : e_matrix F m Q ≡ matrix_of F Q.rows m g
  made_is = λ i. record { field = F; rows = Q.rows; cols = m; entries = all_elements i }

-- a rectangle taken out
module _ (F : Field) (n : ℕ) (P : Matrix) (w : Window) (r0 c0 r1 c1 : ℕ) (is : IsPackedIn F n P) (p_shape : IsMatrix P) (over : P.field ≡ gf2) (shape : IsWindow w)
    (in_rows : r1 ≤ P.rows) (in_cols : c1 ≤ n) (across : c0 ≤ c1) (shows : bit_content w ≡ cut P r0 (c0 * width F) r1 (c1 * width F)) where
  rows : w.rows ≡ r1 - r0
  rows = ap (λ (A : Matrix). A.rows) shows

  m : ℕ
  m = c1 - c0

  pub wide : w.cols ≡ (c1 - c0) * width F
  wide = ap (λ (A : Matrix). A.cols) shows ∙ less c0 c1 (width F) across
    where
      less : (a b k : ℕ) → a ≤ b → b * k - a * k ≡ (b - a) * k
      less a b k le = let e : b * k ≡ (b - a) * k + a * k = whole a b k le in omega (arith, e)
        where
          whole : (a b k : ℕ) → a ≤ b → b * k ≡ (b - a) * k + a * k
          whole a b k le = grind arith

  g : ℕ → ℕ → ℕ
  g i j = at (e_matrix F n P) (r0 + i) (c0 + j)

  small : (i j : ℕ) → i < w.rows → j < c1 - c0 → IsElement F (at (e_matrix F n P) (r0 + i) (c0 + j))
  small i j below within = entry_element F n P is (r0 + i) (c0 + j) (let r = rows in omega (arith, r, below, in_rows))

  bits : (i j v : ℕ) → i < w.rows → j < c1 - c0 → v < width F → at (bit_content w) i (j * width F + v) ≡ bit_at (at (e_matrix F n P) (r0 + i) (c0 + j)) v
  bits i j v below within v_below =
      let k = width F in
      let inside : j * k + v < c1 * k - c0 * k = let e = ap (λ (A : Matrix). A.cols) shows in let w' = wide in let t = more j (c1 - c0) k within in omega (arith, e, w', t, v_below) in
      ap (λ (A : Matrix). at A i (j * k + v)) shows
      ∙ at-table (r1 - r0) (c1 * k - c0 * k) (λ i p. at P (r0 + i) (c0 * k + p)) i (j * k + v) (let r = rows in omega (arith, r, below)) inside
      ∙ ap (at P (r0 + i)) (place c0 j k v)
      ∙ matrix_bit F n P is p_shape over (r0 + i) (c0 + j) v (let r = rows in omega (arith, r, below, in_rows)) (omega (arith, within, in_cols)) v_below
    where
      more : (j n w : ℕ) → j < n → j * w + w ≤ n * w
      more j n w less = grind arith

      place : (a j k v : ℕ) → a * k + (j * k + v) ≡ (a + j) * k + v
      place a j k v = grind arith

  pub taken_packed : IsPacked F (c1 - c0) w
  taken_packed = record {
    carried = is.carried;
    wide = wide;
    count = shape.matrix.height;
    packed = all_packed F is.carried (c1 - c0) (bit_content w) (λ i j. at (e_matrix F n P) (r0 + i) (c0 + j)) shape.matrix refl wide small bits;
  }

  pub taken_shows : content (elements F (c1 - c0) w) ≡ cut (e_matrix F n P) r0 c0 r1 c1
  taken_shows =
      same_parts _ _ refl rows refl
      (all_elements F is.carried (c1 - c0) (bit_content w) (λ i j. at (e_matrix F n P) (r0 + i) (c0 + j)) shape.matrix refl wide small bits
      ∙ ap (λ r. table r (c1 - c0) (λ i j. at (e_matrix F n P) (r0 + i) (c0 + j))) rows)

-- ---- a rectangle put back
times_le : (a b k : ℕ) → a ≤ b → a * k ≤ b * k
times_le a b k le = grind arith

next_le : (a b k : ℕ) → a < b → a * k + k ≤ b * k
next_le a b k less = grind arith

scaled_le : (c j k v : ℕ) → v < k → nat_le (c * k) (j * k + v) ≡ nat_le c j
scaled_le c j k v below = elim (cases_lt j c) [
  | inl less ↦ lt-leb (c * k) (j * k + v) (let e = next_le j c k less in omega (arith, e, below)) ∙ sym (lt-leb c j less)
  | inr le ↦ le-leb (c * k) (j * k + v) (let e = times_le c j k le in omega (arith, e)) ∙ sym (le-leb c j le)
]

scaled_lt : (j b k v : ℕ) → v < k → nat_lt (j * k + v) (b * k) ≡ nat_lt j b
scaled_lt j b k v below = elim (cases_lt j b) [
  | inl less ↦ lt-ltb (j * k + v) (b * k) (let e = next_le j b k less in omega (arith, e, below)) ∙ sym (lt-ltb j b less)
  | inr le ↦ le-ltb (j * k + v) (b * k) (let e = times_le b j k le in omega (arith, e)) ∙ sym (le-ltb j b le)
]

and_left : (a b : Bool) → (a && b) ≡ true → a ≡ true
and_left true b both = refl
and_left false b both = both

and_right : (a b : Bool) → (a && b) ≡ true → b ≡ true
and_right true b both = both
and_right false b both = cc

-- the choice of an entry by whether it lies inside
choose : (b : Bool) (x y x' y' v : ℕ) → (b ≡ true → x ≡ bit_at x' v) → (b ≡ false → y ≡ bit_at y' v) → cond b x y ≡ bit_at (cond b x' y') v
choose true x y x' y' v first second = first refl
choose false x y x' y' v first second = second refl

choose_element : (F : Field) (b : Bool) (x y : ℕ) → (b ≡ true → IsElement F x) → (b ≡ false → IsElement F y) → IsElement F (cond b x y)
choose_element F true x y first second = first refl
choose_element F false x y first second = second refl

module _ (F : Field) (n m : ℕ) (P Q : Matrix) (w : Window) (r0 c0 : ℕ) (is : IsPackedIn F n P) (p_shape : IsMatrix P) (over : P.field ≡ gf2) (part : IsPacked F m w) (shape : IsWindow w)
    (q_shape : IsMatrix Q) (shows : Q ≡ replace P r0 (c0 * width F) (bit_content w)) where
  q_rows : Q.rows ≡ P.rows
  q_rows = ap (λ (A : Matrix). A.rows) shows

  q_over : Q.field ≡ gf2
  q_over = ap (λ (A : Matrix). A.field) shows ∙ over

  q_wide : Q.cols ≡ n * width F
  q_wide = ap (λ (A : Matrix). A.cols) shows ∙ is.wide

  pub h : ℕ → ℕ → ℕ
  h i j = cond ((nat_le r0 i && nat_lt i (r0 + w.rows)) && (nat_le c0 j && nat_lt j (c0 + m))) (at (content (elements F m w)) (i - r0) (j - c0)) (at (e_matrix F n P) i j)

  in_part : (i j : ℕ) → ((nat_le r0 i && nat_lt i (r0 + w.rows)) && (nat_le c0 j && nat_lt j (c0 + m))) ≡ true → (i - r0 < w.rows) × (c0 ≤ j) × (j - c0 < m)
  in_part i j b =
      let r : (nat_le r0 i && nat_lt i (r0 + w.rows)) ≡ true = and_left (nat_le r0 i && nat_lt i (r0 + w.rows)) (nat_le c0 j && nat_lt j (c0 + m)) b in
      let c : (nat_le c0 j && nat_lt j (c0 + m)) ≡ true = and_right (nat_le r0 i && nat_lt i (r0 + w.rows)) (nat_le c0 j && nat_lt j (c0 + m)) b in
      let r_low : r0 ≤ i = leb-true r0 i (and_left (nat_le r0 i) (nat_lt i (r0 + w.rows)) r) in
      let r_high : i < r0 + w.rows = ltb-true i (r0 + w.rows) (and_right (nat_le r0 i) (nat_lt i (r0 + w.rows)) r) in
      let c_low : c0 ≤ j = leb-true c0 j (and_left (nat_le c0 j) (nat_lt j (c0 + m)) c) in
      let c_high : j < c0 + m = ltb-true j (c0 + m) (and_right (nat_le c0 j) (nat_lt j (c0 + m)) c) in
      (omega (arith, r_low, r_high), c_low, omega (arith, c_low, c_high))

  small_h : (i j : ℕ) → i < Q.rows → j < n → IsElement F (cond ((nat_le r0 i && nat_lt i (r0 + w.rows)) && (nat_le c0 j && nat_lt j (c0 + m))) (at (content (elements F m w)) (i - r0) (j - c0)) (at (e_matrix F n P) i j))
  small_h i j below within =
      choose_element F ((nat_le r0 i && nat_lt i (r0 + w.rows)) && (nat_le c0 j && nat_lt j (c0 + m))) _ _
      (λ b. let p = in_part i j b in (packed_matrix F m w part).elements (i - r0) (j - c0) p.0 p.2)
      (λ _. entry_element F n P is i j (let r = q_rows in omega (arith, r, below)))

  bits_h : (i j v : ℕ) → i < Q.rows → j < n → v < width F
      → at Q i (j * width F + v) ≡ bit_at (cond ((nat_le r0 i && nat_lt i (r0 + w.rows)) && (nat_le c0 j && nat_lt j (c0 + m))) (at (content (elements F m w)) (i - r0) (j - c0)) (at (e_matrix F n P) i j)) v
  bits_h i j v below within v_below =
      let k = width F in
      let in_rows : i < P.rows = let r = q_rows in omega (arith, r, below) in
      let in_cols : j * k + v < P.cols = let e = is.wide in let t = next_le j n k within in omega (arith, e, t, v_below) in
      let wide_w : c0 * k + w.cols ≡ (c0 + m) * k = let e = part.wide in let t = spread c0 m k in omega (arith, e, t) in
      let same : ((nat_le r0 i && nat_lt i (r0 + w.rows)) && (nat_le (c0 * k) (j * k + v) && nat_lt (j * k + v) (c0 * k + w.cols))) ≡ ((nat_le r0 i && nat_lt i (r0 + w.rows)) && (nat_le c0 j && nat_lt j (c0 + m))) =
      ap₂ (λ a b. (nat_le r0 i && nat_lt i (r0 + w.rows)) && (a && b)) (scaled_le c0 j k v v_below) (ap (nat_lt (j * k + v)) wide_w ∙ scaled_lt j (c0 + m) k v v_below) in
      ap (λ (A : Matrix). at A i (j * k + v)) shows
      ∙ at-table P.rows P.cols (λ i p. cond ((nat_le r0 i && nat_lt i (r0 + w.rows)) && (nat_le (c0 * k) p && nat_lt p (c0 * k + w.cols))) (at (bit_content w) (i - r0) (p - c0 * k)) (at P i p)) i (j * k + v) in_rows in_cols
      ∙ ap (λ b. cond b (at (bit_content w) (i - r0) (j * k + v - c0 * k)) (at P i (j * k + v))) same
      ∙ choose ((nat_le r0 i && nat_lt i (r0 + w.rows)) && (nat_le c0 j && nat_lt j (c0 + m))) _ _ _ _ v
      (λ b. let p = in_part i j b in
      let place : j * k + v - c0 * k ≡ (j - c0) * k + v = let t = less c0 j k p.1 in omega (arith, t) in
      ap (at (bit_content w) (i - r0)) place ∙ bit_of_entry F m w part shape (i - r0) (j - c0) v p.0 p.2 v_below)
      (λ _. matrix_bit F n P is p_shape over i j v in_rows within v_below)
    where
      spread : (a b k : ℕ) → (a + b) * k ≡ a * k + b * k
      spread a b k = grind arith

      less : (a b k : ℕ) → a ≤ b → b * k ≡ (b - a) * k + a * k
      less a b k le = grind arith

  pub put_packed : IsPackedIn F n Q
  put_packed = record {
    carried = is.carried;
    wide = q_wide;
    count = q_shape.height;
    packed = all_packed F is.carried n Q _ q_shape q_over q_wide small_h bits_h;
  }

  pub put_shows : e_matrix F n Q ≡ replace (e_matrix F n P) r0 c0 (content (elements F m w))
  put_shows = same_parts _ _ refl q_rows refl (all_elements F is.carried n Q _ q_shape q_over q_wide small_h bits_h ∙ ap (λ r. table r n (λ i j. cond ((nat_le r0 i && nat_lt i (r0 + w.rows)) && (nat_le c0 j && nat_lt j (c0 + m))) (at (content (elements F m w)) (i - r0) (j - c0)) (at (e_matrix F n P) i j))) q_rows)
