-- Entries of a window of elements by the bits of its rows.
use Rattle.std.proofs.Common.{◌≡◌, ℕ, ◌+◌, ◌*◌, ◌^◌, ◌<◌, [], get_or, sym, ◌∙◌, ap, subst, arith}
use Rattle.std.specs.Int.{bit_at}
use Rattle.std.proofs.lemmas.List.{get_or-map}
use Rattle.std.proofs.lemmas.List.Elements.{All-from_get_or, All-get_or}
use Rattle.std.proofs.lemmas.Nat.Bits.{same_from_bits_below}
use Rattle.m4_model.specs.Field.{Field, IsElement}
use Rattle.m4_model.specs.Matrix.{Matrix, row, at}
use Rattle.m4_model.specs.Field.{width}
use Rattle.m4_mzd.specs.Window.{Window, IsWindow}
use Rattle.m4_mzd.specs.Window.{content as bit_content}
use Rattle.m4_mzed.specs.EWindow.{content}
use Rattle.m4_mzed.specs.Packed.{unpacked, elements, IsPackedRow, IsPacked}
use Rattle.m4_mzed.specs.PackedIn.{IsPackedIn}
use Rattle.m4_mzed.specs.Owned.{e_matrix}
use Rattle.m4_mzed.proofs.IndexLemmas.{AreBits, element_at, element_bit, element_small}

pub row_bits : (w : Window) (r : ℕ) → IsWindow w → r < w.rows → AreBits (get_or w.bits r [])
row_bits w r is below =
    All-from_get_or (λ b. b < 2) (get_or w.bits r []) 0 (λ j within. is.matrix.elements r j below (let l = is.matrix.width r below in omega (arith, l, within)))

module _ (F : Field) (n : ℕ) (w : Window) (is : IsPacked F n w) where
  pub row_of_elements : (r : ℕ) → r < w.rows → row (content (elements F n w)) r ≡ unpacked (width F) n (get_or w.bits r [])
  row_of_elements r below = get_or-map (unpacked (width F) n) w.bits r [] [] (let c = is.count in omega (arith, c, below))

  pub packed_row : (r : ℕ) → r < w.rows → IsPackedRow F n (get_or w.bits r [])
  packed_row r below = All-get_or (IsPackedRow F n) w.bits r [] (let c = is.count in omega (arith, c, below)) is.packed

  -- a number with the bits of an entry is the entry
  pub entry_is : (A : Matrix) (r c x k p : ℕ) → IsWindow w → A ≡ bit_content w → k ≡ width F → p ≡ c * width F → r < w.rows → c < n
      → ((i : ℕ) → i < k → bit_at x i ≡ at A r (p + i)) → x < 2 ^ k → x ≡ at (content (elements F n w)) r c
  entry_is A r c x k p shape shows wide place below within bits small =
      let packed = packed_row r below in
      let b = row_bits w r shape below in
      let P : ℕ → Type 0 = λ m. ((i : ℕ) → i < m → bit_at x i ≡ at (bit_content w) r (p + i)) → x < 2 ^ m → x ≡ get_or (unpacked (width F) n (get_or w.bits r [])) c 0 in
      let Q : Matrix → Type 0 = λ B. (i : ℕ) → i < k → bit_at x i ≡ at B r (p + i) in
      subst P (sym wide) (λ bits' small'. same_from_bits_below (width F) _ _ small' (element_small (width F) n (get_or w.bits r []) packed.long b c within)
      (λ i i_below. bits' i i_below ∙ ap (λ q. at (bit_content w) r (q + i)) place ∙ sym (element_bit (width F) n (get_or w.bits r []) packed.long b c i within i_below))) (subst Q shows bits) small
      ∙ sym (ap (λ l. get_or l c 0) (row_of_elements r below))

-- a bit of a window is a bit of its entry
pub bit_of_entry : (F : Field) (n : ℕ) (w : Window) → IsPacked F n w → IsWindow w → (i j v : ℕ) → i < w.rows → j < n → v < width F
    → at (bit_content w) i (j * width F + v) ≡ bit_at (at (content (elements F n w)) i j) v
bit_of_entry F n w is shape i j v below within v_below =
    sym (ap (λ l. bit_at (get_or l j 0) v) (row_of_elements F n w is i below)
    ∙ element_bit (width F) n (get_or w.bits i []) (packed_row F n w is i below).long (row_bits w i shape below) j v within v_below)

-- an entry of a packed matrix is an element
pub entry_element : (F : Field) (n : ℕ) (B : Matrix) → IsPackedIn F n B → (t j : ℕ) → t < B.rows → IsElement F (at (e_matrix F n B) t j)
entry_element F n B b t j below =
    let P : ℕ → Type 0 = IsElement F in
    subst P (sym (ap (λ r. get_or r j 0) (get_or-map (unpacked (width F) n) B.entries t [] [] (let c = b.count in omega (arith, c, below)))))
    (element_at F (unpacked (width F) n (row B t)) j (All-get_or (IsPackedRow F n) B.entries t [] (let c = b.count in omega (arith, c, below)) b.packed).elements)
