-- Windows for reading, by windows for writing that stand for the same bits.
use Rattle.std.proofs.Common.{◌≡◌, ℕ, ◌-◌, ◌*◌, ◌≤◌, List, length, replicate, refl, sym, ◌∙◌, ap, subst, arith}
use Rattle.std.proofs.lemmas.List.{length-replicate, get_or-replicate}
use Rattle.m4_model.specs.Field.{Field, gf2}
use Rattle.m4_model.specs.Matrix.{Matrix, IsMatrix}
use Rattle.m4_model.specs.Text.{words_per_row}
use Rattle.m4_field.specs.Fields.{the_field}
use Rattle.m4_mzd.specs.declared.TheConstants.{MOST_SIDE}
use Rattle.m4_mzd.specs.Window.{Window, IsWindow}
use Rattle.m4_mzd.specs.Window.{content as bit_content, showing as bit_showing}
use Rattle.m4_mzd.specs.Seen.{shown}
use Rattle.m4_mzed.specs.EWindow.{showing}
use Rattle.m4_mzed.specs.ESeen.{e_shown}
use Rattle.m4_mzed.specs.Owned.{e_matrix}
use Rattle.m4_mzed.specs.Packed.{elements, IsPacked}
use Rattle.m4_mzed.specs.PackedIn.{IsPackedIn}
use Rattle.m4_mzed.specs.declared.win.EWin.{EWin}
use Rattle.m4_mzed.proofs.PartLemmas.{same_window, packed_matrix}
use Rattle.m4_mzed.proofs.BitLemmas.{shows_bits, cols_gf2, packed_gf2}

-- a window that stands for what a window for reading shows
abbrev pub as_window : Matrix → Window
as_window A = record {
  place = record { block = 0; base = 0; stride = 0 };
  skip = 0;
  rows = A.rows;
  cols = A.cols;
  bits = A.entries;
  past = replicate A.rows (replicate (words_per_row A.cols * 64 - A.cols) 0);
}

pub IsWindow-as_window : (A : Matrix) → IsMatrix (bit_content (as_window A)) → A.rows ≤ MOST_SIDE → A.cols ≤ MOST_SIDE → IsWindow (as_window A)
IsWindow-as_window A matrix few_rows few_cols =
    let n = words_per_row A.cols * 64 - A.cols in
    record {
      matrix = matrix;
      past_rows = length-replicate {A = List ℕ} A.rows (replicate {A = ℕ} n 0);
      past_widths = λ k d below.
          ap length (get_or-replicate {A = List ℕ} A.rows k (replicate {A = ℕ} n 0) d (omega (arith, length-replicate {A = List ℕ} A.rows (replicate {A = ℕ} n 0)))) ∙ length-replicate {A = ℕ} n 0;
      few_rows = few_rows;
      few_cols = few_cols;
    }

pub packed_as_window : (F : Field) (n : ℕ) (A : Matrix) → IsPackedIn F n A → IsPacked F n (as_window A)
packed_as_window F n A is = record { carried = is.carried; wide = is.wide; count = is.count; packed = is.packed }

pub packed_as_matrix : (F : Field) (n : ℕ) (w : Window) → IsPacked F n w → IsPackedIn F n (bit_content w)
packed_as_matrix F n w is = record { carried = is.carried; wide = is.wide; count = is.count; packed = is.packed }

pub seen_matrix : (w : EWin) → IsMatrix (e_shown w)
seen_matrix w = packed_matrix (the_field w.field) w.cols (as_window (shown w.bits)) (packed_as_window (the_field w.field) w.cols (shown w.bits) w.packed)

-- over GF(2) the elements that are seen are the bits
pub seen_bits : (w : EWin) → IsMatrix (shown w.bits) → (shown w.bits).rows ≤ MOST_SIDE → (shown w.bits).cols ≤ MOST_SIDE → the_field w.field ≡ gf2 → e_shown w ≡ shown w.bits
seen_bits w matrix few_rows few_cols over =
    shows_bits (the_field w.field) w.cols (as_window (shown w.bits)) (IsWindow-as_window (shown w.bits) matrix few_rows few_cols) over
    (cols_gf2 (the_field w.field) w.cols (as_window (shown w.bits)) over w.packed.wide)

module _ (F : Field) (n : ℕ) (w next : Window) (over : F ≡ gf2) (is : IsPacked F n w) (shape : IsWindow w) (new_shape : IsWindow next) (A : Matrix) (written : next ≡ bit_showing w A) where
  same_cols : n ≡ next.cols
  same_cols = cols_gf2 F n w over is.wide ∙ sym (ap (λ (v : Window). v.cols) written)

  pub bits_packed : IsPacked F n next
  bits_packed =
      let P : Field → Type 0 = λ G. IsPacked G n next in
      let Q : ℕ → Type 0 = λ m. IsPacked gf2 m next in
      subst P (sym over) (subst Q (sym same_cols) (packed_gf2 next new_shape))

  pub bits_shown : elements F n next ≡ showing (elements F n w) A
  bits_shown =
      same_window _ _ refl (ap (λ (v : Window). v.place) written) (ap (λ (v : Window). v.skip) written) (ap (λ (v : Window). v.rows) written) refl
      (ap (λ (B : Matrix). B.entries) (shows_bits F n next new_shape over same_cols) ∙ ap (λ (v : Window). v.bits) written)
      (ap (λ (v : Window). v.past) written)

-- a matrix over GF(2) as the bits that it is packed in
module _ (F : Field) (n : ℕ) (A : Matrix) (shape : IsMatrix A) (over : A.field ≡ gf2) (few_rows : A.rows ≤ MOST_SIDE) (few_cols : A.cols ≤ MOST_SIDE) (field : F ≡ gf2) (cols : n ≡ A.cols) where
  same : A ≡ bit_content (as_window A)
  same = λ i. record { field = over i; rows = A.rows; cols = A.cols; entries = A.entries }

  is_window : IsWindow (as_window A)
  is_window = IsWindow-as_window A (subst IsMatrix same shape) few_rows few_cols

  pub matrix_packed : IsPackedIn F n A
  matrix_packed =
      let P : Field → Type 0 = λ G. IsPackedIn G n A in
      let Q : ℕ → Type 0 = λ m. IsPackedIn gf2 m A in
      let R : Matrix → Type 0 = IsPackedIn gf2 A.cols in
      subst P (sym field) (subst Q (sym cols) (subst R (sym same) (packed_as_matrix gf2 A.cols (as_window A) (packed_gf2 (as_window A) is_window))))

  pub matrix_shown : e_matrix F n A ≡ A
  matrix_shown = shows_bits F n (as_window A) is_window field cols ∙ sym same
