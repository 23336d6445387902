-- The bits that are spread hold the elements that the slices join to.
use Rattle.std.proofs.Common.{◌≡◌, ℕ, zero, suc, ◌+◌, ◌-◌, ◌*◌, ◌/◌, ◌%◌, ◌^◌, ◌<◌, inl, inr, cond, nat_lt, refl, sym, ◌∙◌, ap, ap₂, subst, arith, bit_xor, mod-eq_of_lt}
use Rattle.std.specs.Int.{bit_at}
use Rattle.std.proofs.Math.Nat.{mul-add-mod_self_right, div-lt_iff_lt-mul}
use Rattle.std.proofs.Math.Pow.{pow-lt, pow_pos}
use Rattle.std.specs.Int.Bits.{xor_zero_r}
use Rattle.std.proofs.lemmas.Nat.{div-mul-add}
use Rattle.std.proofs.lemmas.Nat.Bits.{bit_at-zero, bit_at_above}
use Rattle.std.proofs.lemmas.Bool.{cases_lt, cases_eq, cond-true, cond-false, lt-ltb, le-ltb}
use Rattle.m4_model.specs.Field.{Field, IsElement, IsCarried, gf2, sum_below, width}
use Rattle.m4_model.specs.Matrix.{Matrix, IsMatrix, at, added}
use Rattle.m4_model.proofs.FieldLemmas.{gf2_field, sum_below-lt}
use Rattle.m4_model.proofs.MatrixLemmas.{IsMatrix-matrix_of, at-table}
use Rattle.m4_bits.proofs.BitsLemmas.{bit_at-xor}
use Rattle.m4_bits.proofs.TransposeLemmas.{bit_at-shl_low, bit_at-shl_high}
use Rattle.m4_mzd.specs.Window.{Window, IsWindow}
use Rattle.m4_mzd.specs.Window.{content as bit_content, showing as bit_showing}
use Rattle.m4_field.proofs.WidthLemmas.{IsWidth, width_facts}
use Rattle.m4_mzed.specs.EWindow.{EWindow, content, showing}
use Rattle.m4_mzed.specs.Owned.{e_matrix}
use Rattle.m4_mzed.specs.Packed.{elements, IsPacked}
use Rattle.m4_mzed.proofs.PackedSums.{Holds, window_sum}
use Rattle.m4_mzed.proofs.RectLemmas.{made_packed, made_is}
use Rattle.m4_slice.specs.Sliced.{joined, bits_spread}
use Rattle.m4_slice.proofs.WidthLemmas.{next_le}
use Rattle.m4_slice.proofs.JoinLemmas.{spread_bit}

-- ---- the number of some bits
bit_of_bit : (b : ℕ) → b < 2 → bit_at b 0 ≡ b
bit_of_bit zero small = refl
bit_of_bit (suc zero) small = refl
bit_of_bit (suc (suc b)) small = absurd (omega (arith, small))

placed_bit : (b e v : ℕ) → b < 2 → bit_at (b * 2 ^ e) v ≡ cond (nat_lt v e) 0 (cond (nat_lt v (e + 1)) b 0)
placed_bit b e v small = elim (cases_lt v e) [
  | inl less ↦ bit_at-shl_low b e v less ∙ sym (cond-true _ _ _ (lt-ltb v e less))
  | inr past ↦ elim (cases_eq v e) [
    | inl same ↦
        bit_at-shl_high b e v 0 (omega (arith, same)) ∙ bit_of_bit b small
        ∙ sym (cond-false _ _ _ (le-ltb v e past) ∙ cond-true _ _ _ (lt-ltb v (e + 1) (omega (arith, same))))
    | inr other ↦
        bit_at-shl_high b e v (v - e) (omega (arith, past)) ∙ bit_at_above b 1 (v - e) small (omega (arith, past, other))
        ∙ sym (cond-false _ _ _ (le-ltb v e past) ∙ cond-false _ _ _ (le-ltb v (e + 1) (omega (arith, past, other))))
  ]
]

pub number_bit : (e : ℕ) (b : ℕ → ℕ) → ((v : ℕ) → v < e → b v < 2) → (v : ℕ) → bit_at (sum_below e (λ v. b v * 2 ^ v)) v ≡ cond (nat_lt v e) (b v) 0
unfolding sum_below
number_bit zero b small v = bit_at-zero v ∙ sym (cond-false _ _ _ (le-ltb v 0 (omega arith)))
number_bit (suc e) b small v =
    bit_at-xor (sum_below e (λ v. b v * 2 ^ v)) (b e * 2 ^ e) v
    ∙ ap₂ bit_xor (number_bit e b (λ u less. small u (omega (arith, less))) v) (placed_bit (b e) e v (small e (omega arith)))
    ∙ elim (cases_lt v e) [
      | inl less ↦
          ap₂ bit_xor (cond-true _ _ _ (lt-ltb v e less)) (cond-true _ _ _ (lt-ltb v e less)) ∙ xor_zero_r (b v)
          ∙ sym (cond-true _ _ _ (lt-ltb v (suc e) (omega (arith, less))))
      | inr past ↦
          ap₂ bit_xor (cond-false _ _ _ (le-ltb v e past)) (cond-false _ _ _ (le-ltb v e past))
          ∙ xor_zero_l (cond (nat_lt v (e + 1)) (b e) 0)
          ∙ elim (cases_eq v e) [
            | inl same ↦ (let next : e + 1 ≡ suc e = omega arith in ap₂ (λ k x. cond (nat_lt v k) x 0) next (ap b (sym same)))
            | inr other ↦
                cond-false _ _ _ (le-ltb v (e + 1) (omega (arith, past, other))) ∙ sym (cond-false _ _ _ (le-ltb v (suc e) (omega (arith, past, other))))
          ]
    ]
  where
    xor_zero_l : (x : ℕ) → bit_xor 0 x ≡ x
    xor_zero_l x = refl

one_placed : (b v e : ℕ) → b < 2 → v < e → b * 2 ^ v < 2 ^ e
one_placed zero v e small less = let p = pow_pos e in omega (arith, p)
one_placed (suc zero) v e small less = let p : 2 ^ v < 2 ^ e = pow-lt less in omega (arith, p)
one_placed (suc (suc b)) v e small less = absurd (omega (arith, small))

pub number_small : (e : ℕ) (b : ℕ → ℕ) → ((v : ℕ) → v < e → b v < 2) → sum_below e (λ v. b v * 2 ^ v) < 2 ^ e
number_small e b small = sum_below-lt e e (λ v. b v * 2 ^ v) (λ v less. one_placed (b v) v e (small v less) less)

-- ---- the bits of the slices, spread
module _ (F : Field) (carried : IsCarried F) (m : ℕ) (S : Matrix) (is : IsMatrix S) (over : S.field ≡ gf2) (rows : S.rows ≡ F.degree * m) where
  facts : IsWidth F.degree (width F)
  facts = width_facts F carried

  slice_bit : (v i j : ℕ) → v < F.degree → i < m → j < S.cols → at S (v * m + i) j < 2
  slice_bit v i j v_below i_below j_below =
      let n = next_le v F.degree m v_below in
      let P : Field → Type 0 = λ H. IsElement H (at S (v * m + i) j) in
      subst P over (is.elements (v * m + i) j (omega (arith, n, rows, i_below)) j_below)

  abbrev R : Matrix
  R = bits_spread (width F) F.degree m S

  spread_small : (i p : ℕ) → i < m → p < S.cols * width F → spread_bit (width F) F.degree m S i p < 2
  spread_small i p below within =
      let P : ℕ → Type 0 = λ x. x < 2 in
      elim (cases_lt (p % width F) F.degree) [
        | inl less ↦
            subst P (sym (cond-true _ _ _ (lt-ltb (p % width F) F.degree less)))
            (slice_bit (p % width F) i (p / width F) less below (let s = facts.some in (div-lt_iff_lt-mul s).1 within))
        | inr past ↦ subst P (sym (cond-false _ _ _ (le-ltb (p % width F) F.degree past))) (lit2 0)
      ]
    where
      lit2 : (x : ℕ) → 0 < 2
      lit2 x = omega arith

  spread_matrix : IsMatrix (bits_spread (width F) F.degree m S)
  spread_matrix = IsMatrix-matrix_of gf2 m (S.cols * width F) (λ i p. spread_bit (width F) F.degree m S i p) gf2_field (λ i p below within. spread_small i p below within)

  small : (i j : ℕ) → i < m → j < S.cols → IsElement F (sum_below F.degree (λ v. at S (v * m + i) j * 2 ^ v))
  small i j below within = number_small F.degree (λ v. at S (v * m + i) j) (λ v less. slice_bit v i j less below within)

  bits : (i j v : ℕ) → i < m → j < S.cols → v < width F → at (bits_spread (width F) F.degree m S) i (j * width F + v) ≡ bit_at (sum_below F.degree (λ v. at S (v * m + i) j * 2 ^ v)) v
  bits i j v below within v_below =
      let w = width F in
      let n = next_le j S.cols w within in
      at-table m (S.cols * w) (λ i p. spread_bit w F.degree m S i p) i (j * w + v) below (omega (arith, n, v_below))
      ∙ ap₂ (λ u q. cond (nat_lt u F.degree) (at S (u * m + i) q) 0) (mul-add-mod_self_right j w v ∙ mod-eq_of_lt v_below) (div-mul-add j w v v_below)
      ∙ sym (number_bit F.degree (λ v. at S (v * m + i) j) (λ v less. slice_bit v i j less below within) v)

  pub spread_holds : Holds F S.cols (bits_spread (width F) F.degree m S)
  spread_holds = record {
    packed = made_packed F carried S.cols (bits_spread (width F) F.degree m S) _ spread_matrix refl refl small bits;
    matrix = spread_matrix;
    over = refl;
  }

  pub spread_is : e_matrix F S.cols (bits_spread (width F) F.degree m S) ≡ joined F F.degree m S
  spread_is = made_is F carried S.cols (bits_spread (width F) F.degree m S) _ spread_matrix refl refl small bits

-- ---- what is known of the call, over plain variables
pub record WereJoined (F : Field) (n e w : ℕ) (x dst : EWindow) (W N : Window) (S : Matrix) : Type 0 where
  pub whole : x ≡ dst
  pub packed : IsPacked x.field x.cols W
  pub shows : elements x.field x.cols W ≡ x
  pub field_is : F ≡ dst.field
  pub cols_is : n ≡ dst.cols
  pub degree : e ≡ F.degree
  pub wide : w ≡ width F
  pub shape : IsWindow W
  pub new_shape : IsWindow N
  pub slices : IsMatrix S
  pub over : S.field ≡ gf2
  pub rows : S.rows ≡ dst.field.degree * dst.rows
  pub cols : S.cols ≡ dst.cols
  pub kept : N ≡ bit_showing W (added (bit_content W) (bits_spread w e W.rows S))

module _ (F : Field) (n e w : ℕ) (x dst : EWindow) (W N : Window) (S : Matrix) (g : WereJoined F n e w x dst W N S) where
  same_field : F ≡ x.field
  same_field = g.field_is ∙ sym (ap (λ (v : EWindow). v.field) g.whole)

  same_cols : n ≡ x.cols
  same_cols = g.cols_is ∙ sym (ap (λ (v : EWindow). v.cols) g.whole)

  same_rows : W.rows ≡ dst.rows
  same_rows = ap (λ (v : EWindow). v.rows) (g.shows ∙ g.whole)

  slice_rows : S.rows ≡ x.field.degree * W.rows
  slice_rows = g.rows ∙ ap₂ (λ (H : Field) (k : ℕ). H.degree * k) (sym (ap (λ (v : EWindow). v.field) g.whole)) (sym same_rows)

  kept : N ≡ bit_showing W (added (bit_content W) (bits_spread (width x.field) x.field.degree W.rows S))
  kept =
      g.kept
      ∙ ap₂ (λ a b. bit_showing W (added (bit_content W) (bits_spread a b W.rows S))) (g.wide ∙ ap width same_field) (g.degree ∙ ap (λ (H : Field). H.degree) same_field)

  held : Holds x.field S.cols (bits_spread (width x.field) x.field.degree W.rows S)
  held = spread_holds x.field g.packed.carried W.rows S g.slices g.over slice_rows

  both : IsPacked x.field x.cols N × (elements x.field x.cols N ≡ showing (elements x.field x.cols W) (added (content (elements x.field x.cols W)) (e_matrix x.field S.cols (bits_spread (width x.field) x.field.degree W.rows S))))
  both = window_sum x.field x.cols S.cols W N (bits_spread (width x.field) x.field.degree W.rows S) g.packed g.shape g.new_shape held (g.cols ∙ sym (ap (λ (v : EWindow). v.cols) g.whole)) refl kept

  pub joined_packed : IsPacked F n N
  joined_packed =
      let P : Field → Type 0 = λ H. IsPacked H n N in
      let Q : ℕ → Type 0 = λ k. IsPacked x.field k N in
      subst P (sym same_field) (subst Q (sym same_cols) both.0)

  pub joined_sum : elements F n N ≡ showing dst (added (content dst) (joined dst.field dst.field.degree dst.rows S))
  joined_sum =
      ap₂ (λ (H : Field) (k : ℕ). elements H k N) same_field same_cols
      ∙ both.1
      ∙ ap (λ (M : Matrix). showing (elements x.field x.cols W) (added (content (elements x.field x.cols W)) M)) (spread_is x.field g.packed.carried W.rows S g.slices g.over slice_rows)
      ∙ ap₂ (λ (v : EWindow) (H : Field). showing v (added (content v) (joined H H.degree W.rows S))) (g.shows ∙ g.whole) (ap (λ (v : EWindow). v.field) g.whole)
      ∙ ap (λ k. showing dst (added (content dst) (joined dst.field dst.field.degree k S))) same_rows
