-- Over GF(2) the elements are the bits.
use Rattle.std.proofs.Common.{◌≡◌, ◌↔◌, ℕ, zero, suc, ◌+◌, ◌*◌, ◌<◌, List, [], ◌∷◌, length, get_or, map, refl, sym, ◌∙◌, ap, ap₂, subst, arith}
use Rattle.std.specs.List.{All}
use Rattle.std.proofs.lemmas.List.Elements.{All-head, All-tail, All-from_get_or}
use Rattle.m4_model.specs.Field.{Field, IsCarried, IsElement, gf2}
use Rattle.m4_model.proofs.MatrixLemmas.{same_parts}
use Rattle.m4_model.specs.Field.{width}
use Rattle.m4_field.proofs.ProductSteps.{carried_gf2}
use Rattle.m4_mzd.specs.Window.{Window, IsWindow}
use Rattle.m4_mzd.specs.Window.{content as bit_content}
use Rattle.m4_mzed.specs.EWindow.{content}
use Rattle.m4_mzed.specs.Packed.{number_of, unpacked, elements, IsPackedRow, IsPacked}
use Rattle.m4_mzed.proofs.EntryLemmas.{row_bits}

pub unpacked_one : (n : ℕ) (xs : List ℕ) → length xs ≡ n → unpacked 1 n xs ≡ xs
unfolding unpacked number_of
unpacked_one zero [] long = refl
unpacked_one zero (x ∷ xs) long = absurd (omega arith)
unpacked_one (suc n) [] long = absurd (omega arith)
unpacked_one (suc n) (x ∷ xs) long = ap₂ (λ y ys. y ∷ ys) (let e : 0 * 2 + x ≡ x = omega arith in e) (unpacked_one n xs (omega arith))

map-itself : (f : List ℕ → List ℕ) (P : List ℕ → Type 0) → ((x : List ℕ) → P x → f x ≡ x) → (xs : List (List ℕ)) → All P xs → map f xs ≡ xs
map-itself f P same [] all = refl
map-itself f P same (x ∷ xs) all = ap₂ (λ y ys. y ∷ ys) (same x (All-head P x xs all)) (map-itself f P same xs (All-tail P x xs all))

pub rows_long : (w : Window) → IsWindow w → All (λ r. length r ≡ w.cols) w.bits
rows_long w is = All-from_get_or (λ r. length r ≡ w.cols) w.bits [] (λ i within. is.matrix.width i (let h = is.matrix.height in omega (arith, h, within)))

pub elements_gf2 : (w : Window) → IsWindow w → map (unpacked 1 w.cols) w.bits ≡ w.bits
elements_gf2 w is = map-itself (unpacked 1 w.cols) (λ r. length r ≡ w.cols) (λ r long. unpacked_one w.cols r long) w.bits (rows_long w is)

pub packed_gf2 : (w : Window) → IsWindow w → IsPacked gf2 w.cols w
packed_gf2 w is = record {
  carried = carried_gf2;
  wide = omega arith;
  count = is.matrix.height;
  packed = All-from_get_or (IsPackedRow gf2 w.cols) w.bits [] (λ i within.
      let below : i < w.rows = let h = is.matrix.height in omega (arith, h, within) in
      let long = is.matrix.width i below in
      record {
        long = long ∙ omega arith;
        elements = let P : List ℕ → Type 0 = λ l. All (IsElement gf2) l in subst P (sym (unpacked_one w.cols (get_or w.bits i []) long)) (row_bits w i is below);
      });
}

pub shows_bits : (F : Field) (n : ℕ) (w : Window) → IsWindow w → F ≡ gf2 → n ≡ w.cols → content (elements F n w) ≡ bit_content w
shows_bits F n w is field cols =
    same_parts _ _ field refl cols
    (ap₂ (λ (G : Field) (m : ℕ). map (unpacked (width G) m) w.bits) field cols ∙ elements_gf2 w is)

pub cols_gf2 : (F : Field) (n : ℕ) (w : Window) → F ≡ gf2 → w.cols ≡ n * width F → n ≡ w.cols
cols_gf2 F n w field wide = let e : w.cols ≡ n * 1 = wide ∙ ap (λ (G : Field). n * width G) field in omega (arith, e)

-- the degree tells GF(2)
pub gf2_by_degree : (F : Field) (d : ℕ) → IsCarried F → d ≡ F.degree → (d ≡ 1) ↔ (F ≡ gf2)
gf2_by_degree F d is here = (
  λ one.
      let low : F.degree ≡ 1 = sym here ∙ one in
      let of : ℕ → ℕ → Field = λ e p. record { degree = e; poly = p } in
      ap₂ of low (is.first low),
  λ same. here ∙ ap (λ (G : Field). G.degree) same,
)
