-- A matrix of zeros holds zeros.
use Rattle.std.proofs.Common.{◌≡◌, ℕ, ◌+◌, ◌*◌, ◌<◌, ◌≤◌, List, [], length, get_or, map, replicate, refl, sym, ◌∙◌, ap, subst, arith}
use Rattle.std.proofs.Math.Pow.{pow_pos}
use Rattle.std.proofs.lemmas.Nat.Bits.{bit_at-zero, same_from_bits_below}
use Rattle.std.proofs.lemmas.List.{ext_get_or, length-map, get_or-map, length-replicate, get_or-replicate}
use Rattle.std.proofs.lemmas.List.Elements.{All-from_get_or}
use Rattle.m4_model.specs.Field.{Field, IsElement, gf2}
use Rattle.m4_model.specs.Matrix.{Matrix, table, zero_matrix}
use Rattle.m4_model.proofs.MatrixLemmas.{length-table, length-row-table, at-table, same_matrix}
use Rattle.m4_model.specs.Field.{IsCarried}
use Rattle.m4_model.specs.Field.{width}
use Rattle.m4_mzd.specs.Window.{Window}
use Rattle.m4_mzd.specs.Window.{showing as bit_showing}
use Rattle.m4_mzed.specs.EWindow.{EWindow, showing}
use Rattle.m4_mzed.specs.Packed.{unpacked, elements, IsPackedRow, IsPacked}
use Rattle.m4_mzed.specs.PackedIn.{IsPackedIn}
use Rattle.m4_mzed.specs.Owned.{e_matrix}
use Rattle.m4_mzed.proofs.RowLemmas.{length-unpacked}
use Rattle.m4_mzed.proofs.IndexLemmas.{AreBits, element_bit, element_small}

-- the elements of a row of zeros
zero_element : (w n : ℕ) (xs : List ℕ) → length xs ≡ n * w → ((p : ℕ) → p < n * w → get_or xs p 0 ≡ 0) → (j : ℕ) → j < n → get_or (unpacked w n xs) j 0 ≡ 0
zero_element w n xs long zeros j below =
    let bits : AreBits xs = All-from_get_or (λ b. b < 2) xs 0 (λ p inside. let z = zeros p (omega (arith, inside, long)) in omega (arith, z)) in
    let room : suc_times j n w below = times_le j n w below in
    same_from_bits_below w _ 0 (element_small w n xs long bits j below) (pow_pos w)
    (λ v v_below. element_bit w n xs long bits j v below v_below ∙ zeros (j * w + v) (omega (arith, room, v_below)) ∙ sym (bit_at-zero v))
  where
    suc_times : (j n w : ℕ) → j < n → Type 0
    suc_times j n w below = j * w + w ≤ n * w

    times_le : (j n w : ℕ) → (below : j < n) → j * w + w ≤ n * w
    times_le j n w below = grind arith

module _ (F : Field) (x : IsCarried F) (r n : ℕ) where
  B : Matrix
  B = zero_matrix gf2 r (n * width F)

  row_long : (i : ℕ) → i < r → length (get_or (table r (n * width F) (λ i j. 0)) i []) ≡ n * width F
  row_long i below = length-row-table r (n * width F) (λ i j. 0) i below

  row_zero : (i : ℕ) → i < r → (j : ℕ) → j < n → get_or (unpacked (width F) n (get_or (table r (n * width F) (λ i j. 0)) i [])) j 0 ≡ 0
  row_zero i below j within =
      zero_element (width F) n (get_or (table r (n * width F) (λ i j. 0)) i []) (row_long i below)
      (λ p inside. at-table r (n * width F) (λ i j. 0) i p below inside) j within

  pub zeros_packed : IsPackedIn F n (zero_matrix gf2 r (n * width F))
  zeros_packed = record {
    carried = x;
    wide = refl;
    count = length-table r (n * width F) (λ i j. 0);
    packed = All-from_get_or (IsPackedRow F n) (table r (n * width F) (λ i j. 0)) [] (λ i inside.
        let below : i < r = let l = length-table r (n * width F) (λ i j. 0) in omega (arith, l, inside) in
        record {
          long = row_long i below;
          elements = All-from_get_or (IsElement F) _ 0 (λ j within.
              let j_below : j < n = let l = length-unpacked (width F) n (get_or (table r (n * width F) (λ i j. 0)) i []) in omega (arith, l, within) in
              let P : ℕ → Type 0 = IsElement F in subst P (sym (row_zero i below j j_below)) (pow_pos F.degree));
        });
  }

  pub zeros_are : e_matrix F n (zero_matrix gf2 r (n * width F)) ≡ zero_matrix F r n
  zeros_are =
      let f = unpacked (width F) n in
      let rows = table r (n * width F) (λ i j. 0) in
      let is : (i : ℕ) → i < r → get_or (map f rows) i [] ≡ f (get_or rows i []) = λ i below. get_or-map f rows i [] [] (let l = length-table r (n * width F) (λ i j. 0) in omega (arith, l, below)) in
      same_matrix F r n (λ i j. 0) (e_matrix F n (zero_matrix gf2 r (n * width F))) refl refl refl
      (length-map rows f ∙ length-table r (n * width F) (λ i j. 0))
      (λ i below. ap length (is i below) ∙ length-unpacked (width F) n (get_or rows i []))
      (λ i j below within. ap (λ l. get_or l j 0) (is i below) ∙ row_zero i below j within)

-- a row of zeros
module _ (F : Field) (carried : IsCarried F) (n m : ℕ) (wide : m ≡ n * width F) where
  zeros_long : length (replicate {A = ℕ} m 0) ≡ n * width F
  zeros_long = length-replicate {A = ℕ} m 0 ∙ wide

  zeros_row : (j : ℕ) → j < n → get_or (unpacked (width F) n (replicate {A = ℕ} m 0)) j 0 ≡ 0
  zeros_row j below = zero_element (width F) n (replicate {A = ℕ} m 0) zeros_long (λ p inside. get_or-replicate {A = ℕ} m p 0 0 (omega (arith, inside, wide))) j below

  pub zeros_row_are : unpacked (width F) n (replicate {A = ℕ} m 0) ≡ replicate {A = ℕ} n 0
  zeros_row_are =
      ext_get_or 0 _ _ (length-unpacked (width F) n (replicate {A = ℕ} m 0) ∙ sym (length-replicate {A = ℕ} n 0)) (λ j inside.
      let below : j < n = let l = length-unpacked (width F) n (replicate {A = ℕ} m 0) in omega (arith, l, inside) in
      zeros_row j below ∙ sym (get_or-replicate {A = ℕ} n j 0 0 below))

  pub zeros_row_packed : IsPackedRow F n (replicate {A = ℕ} m 0)
  zeros_row_packed = record {
    long = zeros_long;
    elements = All-from_get_or (IsElement F) _ 0 (λ j inside.
        let below : j < n = let l = length-unpacked (width F) n (replicate {A = ℕ} m 0) in omega (arith, l, inside) in
        let P : ℕ → Type 0 = IsElement F in subst P (sym (zeros_row j below)) (pow_pos F.degree));
  }

-- a window of zeros
module _ (F : Field) (n : ℕ) (w next : Window) (is : IsPacked F n w) (kept : next ≡ bit_showing w (zero_matrix gf2 w.rows w.cols)) where
  zeros_shown : next ≡ bit_showing w (zero_matrix gf2 w.rows (n * width F))
  zeros_shown = kept ∙ ap (λ c. bit_showing w (zero_matrix gf2 w.rows c)) is.wide

  pub cleared_packed : IsPacked F n next
  cleared_packed =
      let z = zeros_packed F is.carried w.rows n in
      let P : Window → Type 0 = IsPacked F n in
      subst P (sym zeros_shown) (record { carried = is.carried; wide = is.wide; count = z.count; packed = z.packed })

  pub cleared_elements : elements F n next ≡ showing (elements F n w) (zero_matrix F w.rows n)
  cleared_elements =
      ap (elements F n) zeros_shown
      ∙ ap {B = EWindow} (λ (A : Matrix). showing (elements F n w) A) (zeros_are F is.carried w.rows n)
