-- An element that is written.
use Rattle.std.proofs.Common.{◌≡◌, ℕ, ◌+◌, ◌*◌, ◌/◌, ◌%◌, ◌^◌, ◌<◌, ◌≤◌, inl, inr, List, [], length, get_or, set, sym, ◌∙◌, ap, ap₂, subst, arith, bit_xor, cond, nat_eq, mod-eq_of_lt}
use Rattle.std.specs.Int.{bit_at}
use Rattle.std.specs.Int.Bits.{xor_zero_r}
use Rattle.std.specs.List.{All}
use Rattle.std.proofs.Math.Nat.{mul-add-mod_self_right}
use Rattle.std.proofs.Math.Pow.{pow_mono}
use Rattle.std.proofs.lemmas.Nat.{div-mul-add}
use Rattle.std.proofs.lemmas.Bool.{cases_eq, cond-true, cond-false, eq-eqb, ne_eqb}
use Rattle.std.proofs.lemmas.List.{length-set, get_or-set_same, get_or-set_other}
use Rattle.std.proofs.lemmas.List.Elements.{All-set}
use Rattle.m4_model.specs.Field.{Field, IsElement}
use Rattle.m4_model.specs.Matrix.{row, with_row, with_entry, at}
use Rattle.m4_model.proofs.Polynomials.{xor_twice}
use Rattle.m4_bits.proofs.BitsLemmas.{bit_at-xor}
use Rattle.m4_model.specs.Field.{width}
use Rattle.m4_mzd.specs.Window.{Window, IsWindow}
use Rattle.m4_mzd.specs.Window.{content as bit_content, showing as bit_showing}
use Rattle.m4_mzed.specs.EWindow.{EWindow, content, showing}
use Rattle.m4_mzed.specs.Packed.{unpacked, elements, IsPackedRow, IsPacked}
use Rattle.m4_mzed.proofs.RowLemmas.{length-unpacked}
use Rattle.m4_mzed.proofs.IndexLemmas.{element_bit, unpacked_is}
use Rattle.m4_field.proofs.WidthLemmas.{width_facts}
use Rattle.m4_mzed.proofs.EntryLemmas.{row_bits, packed_row, row_of_elements}
use Rattle.m4_mzed.proofs.IndexLemmas.{element_at}
use Rattle.m4_mzed.proofs.PartLemmas.{packed_written, elements_written}

module _ (F : Field) (n c x r d : ℕ) (w next : Window) (is : IsPacked F n w) (shape : IsWindow w) (new_shape : IsWindow next) (below : r < w.rows) (within : c < n) (small : x < 2 ^ F.degree)
    (change : d ≡ bit_xor (at (content (elements F n w)) r c) x)
    (kept : next ≡ bit_showing w (with_row (bit_content w) r (row (bit_content next) r)))
    (entries : (p : ℕ) → p < w.cols → at (bit_content next) r p ≡ bit_xor (at (bit_content w) r p) (bit_at (cond (nat_eq (p / width F) c) d 0) (p % width F))) where
  xs : List ℕ
  xs = get_or w.bits r []

  px : IsPackedRow F n (get_or w.bits r [])
  px = packed_row F n w is r below

  next_row : r < next.rows
  next_row = let P : Window → Type 0 = λ v. r < v.rows in subst P (sym kept) below

  next_long : length (row (bit_content next) r) ≡ n * width F
  next_long = new_shape.matrix.width r next_row ∙ ap (λ (v : Window). v.cols) kept ∙ is.wide

  changed : (j : ℕ) → bit_xor (get_or (unpacked (width F) n (get_or w.bits r [])) j 0) (cond (nat_eq j c) d 0) ≡ get_or (set (unpacked (width F) n (get_or w.bits r [])) c x) j 0
  changed j = elim (cases_eq j c) [
    | inl here ↦
        let old = unpacked (width F) n (get_or w.bits r []) in
        ap (bit_xor (get_or old j 0)) (cond-true _ d 0 (eq-eqb j c here) ∙ change ∙ ap (λ l. bit_xor (get_or l c 0) x) (row_of_elements F n w is r below))
        ∙ ap (λ i. bit_xor (get_or old i 0) (bit_xor (get_or old c 0) x)) here
        ∙ xor_twice (get_or old c 0) x
        ∙ sym (ap (λ i. get_or (set old c x) i 0) here ∙ get_or-set_same old c x 0 (let l = length-unpacked (width F) n (get_or w.bits r []) in omega (arith, l, within)))
    | inr away ↦
        let old = unpacked (width F) n (get_or w.bits r []) in
        ap (bit_xor (get_or old j 0)) (cond-false _ d 0 (ne_eqb j c away)) ∙ xor_zero_r (get_or old j 0) ∙ sym (get_or-set_other old c j x 0 away)
  ]

  all : All (IsElement F) (set (unpacked (width F) n (get_or w.bits r [])) c x)
  all = All-set (IsElement F) (unpacked (width F) n (get_or w.bits r [])) c x small px.elements

  put_is : unpacked (width F) n (row (bit_content next) r) ≡ set (unpacked (width F) n (get_or w.bits r [])) c x
  put_is =
      let k = width F in
      let old = unpacked k n (get_or w.bits r []) in
      unpacked_is k n (row (bit_content next) r) next_long (row_bits next r new_shape next_row) (set old c x) (length-set old c x ∙ length-unpacked k n (get_or w.bits r []))
      (λ j j_below. let s = element_at F (set old c x) j all in let m = pow_mono {i = F.degree} {j = k} (width_facts F is.carried).room in omega (arith, s, m))
      (λ j v j_below v_below.
      let in_cols : j * k + v < w.cols = let e = is.wide in let m = more j n k j_below in omega (arith, e, m, v_below) in
      let place : (j * k + v) / k ≡ j = div-mul-add j k v v_below in
      let bit : (j * k + v) % k ≡ v = mul-add-mod_self_right j k v ∙ mod-eq_of_lt v_below in
      entries (j * k + v) in_cols
      ∙ ap₂ (λ e u. bit_xor (at (bit_content w) r (j * k + v)) (bit_at (cond (nat_eq e c) d 0) u)) place bit
      ∙ ap (λ b. bit_xor b (bit_at (cond (nat_eq j c) d 0) v)) (sym (element_bit k n (get_or w.bits r []) px.long (row_bits w r shape below) j v j_below v_below))
      ∙ sym (bit_at-xor (get_or old j 0) (cond (nat_eq j c) d 0) v) ∙ ap (λ e. bit_at e v) (changed j))
    where
      more : (j n w : ℕ) → j < n → j * w + w ≤ n * w
      more j n w less = grind arith

  pub put_packed : IsPacked F n next
  put_packed = packed_written F n w is r (row (bit_content next) r) next (record { long = next_long; elements = let P : List ℕ → Type 0 = All (IsElement F) in subst P (sym put_is) all }) kept

  pub put_elements : elements F n next ≡ showing (elements F n w) (with_entry (content (elements F n w)) r c x)
  put_elements =
      elements_written F n w is r (row (bit_content next) r) next kept
      ∙ ap {B = EWindow} (λ l. record (elements F n w) { entries = set (elements F n w).entries r l }) (put_is ∙ ap (λ l. set l c x) (sym (row_of_elements F n w is r below)))
