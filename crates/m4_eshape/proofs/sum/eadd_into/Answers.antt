use Rattle.std.proofs.Common.{◌≡◌, ℕ, refl, sym, subst, ap, ap₂, ◌∙◌}
use Rattle.m4_model.specs.Field.{Field}
use Rattle.m4_model.specs.Matrix.{Matrix, IsMatrix, added}
use Rattle.m4_field.specs.Fields.{the_field}
use Rattle.m4_mzd.specs.Seen.{shown}
use Rattle.m4_mzd.specs.Window.{Window, IsWindow}
use Rattle.m4_mzd.specs.Window.{content as bit_content, showing as bit_showing}
use Rattle.m4_mzed.specs.EWindow.{EWindow, content, showing}
use Rattle.m4_mzed.specs.ESeen.{e_shown}
use Rattle.m4_mzed.specs.Owned.{e_matrix}
use Rattle.m4_mzed.specs.Packed.{elements, IsPacked}
use Rattle.m4_mzed.specs.PackedIn.{IsPackedIn}
use Rattle.m4_mzed.proofs.PackedSums.{Holds, other_holds, other_matrix, window_sum}
use Rattle.m4_eshape.proofs.sum.eadd_into.Goals as goal

-- what is known of the call, over plain variables
record Given (F : Field) (n : ℕ) (x dst : EWindow) (W N : Window) (B R : Matrix) : Type 0 where
  whole : x ≡ dst
  packed : IsPacked x.field x.cols W
  shows : elements x.field x.cols W ≡ x
  field_is : F ≡ dst.field
  cols_is : n ≡ dst.cols
  shape : IsWindow W
  new_shape : IsWindow N
  source : IsPackedIn B.field B.cols R
  source_matrix : IsMatrix R
  source_over : R.field ≡ (bit_content W).field
  source_shows : e_matrix B.field B.cols R ≡ B
  same_field : B.field ≡ dst.field
  same_rows : B.rows ≡ dst.rows
  same_cols : B.cols ≡ dst.cols
  kept : N ≡ bit_showing W (added (bit_content W) R)

module _ (F : Field) (n : ℕ) (x dst : EWindow) (W N : Window) (B R : Matrix) (g : Given F n x dst W N B R) where
  r : Holds x.field B.cols R
  r = other_holds x.field B.field B.cols R (g.same_field ∙ sym (ap (λ (v : EWindow). v.field) g.whole)) (record { packed = g.source; matrix = g.source_matrix; over = g.source_over })

  both : IsPacked x.field x.cols N × (elements x.field x.cols N ≡ showing (elements x.field x.cols W) (added (content (elements x.field x.cols W)) (e_matrix x.field B.cols R)))
  both =
      window_sum x.field x.cols B.cols W N R g.packed g.shape g.new_shape r (g.same_cols ∙ sym (ap (λ (v : EWindow). v.cols) g.whole))
      (ap (λ (M : Matrix). M.rows) g.source_shows ∙ g.same_rows ∙ sym (ap (λ (v : EWindow). v.rows) g.whole) ∙ sym (ap (λ (v : EWindow). v.rows) g.shows)) g.kept

  field : F ≡ x.field
  field = g.field_is ∙ sym (ap (λ (v : EWindow). v.field) g.whole)

  cols : n ≡ x.cols
  cols = g.cols_is ∙ sym (ap (λ (v : EWindow). v.cols) g.whole)

  packed : IsPacked F n N
  packed =
      let P : Field → Type 0 = λ H. IsPacked H n N in
      let Q : ℕ → Type 0 = λ k. IsPacked x.field k N in
      subst P (sym field) (subst Q (sym cols) both.0)

  sum : elements F n N ≡ showing dst (added (content dst) B)
  sum =
      ap₂ (λ (H : Field) (k : ℕ). elements H k N) field cols
      ∙ both.1
      ∙ ap (λ (M : Matrix). showing (elements x.field x.cols W) (added (content (elements x.field x.cols W)) M))
      (other_matrix B.field x.field B.cols B.cols R (sym (g.same_field ∙ sym (ap (λ (v : EWindow). v.field) g.whole))) refl ∙ g.source_shows)
      ∙ ap (λ (v : EWindow). showing v (added (content v) B)) (g.shows ∙ g.whole)

pub of_packed-requires : goal.of_packed-requires
of_packed-requires c = packed (the_field c.field-field.result) c.cols-cols.result c.take.result c.args.dst.now c.into_packed-bits.result c.add_into.new.dst (e_shown c.args.src.now) (shown c.packed-source.result)
    (record {
      whole = c.take.ensures.whole;
      packed = c.into_packed-bits.ensures.packed;
      shows = c.into_packed-bits.ensures.elements;
      field_is = c.field-field.ensures;
      cols_is = c.cols-cols.ensures.cols;
      shape = c.rows-rows.ensures.shape;
      new_shape = c.rows-new_rows.ensures.shape;
      source = c.packed-source.ensures.packed;
      source_matrix = c.rows-source_rows.ensures.matrix;
      source_over = refl;
      source_shows = c.packed-source.ensures.elements;
      same_field = c.requires.same_field;
      same_rows = c.requires.same_rows;
      same_cols = c.requires.same_cols;
      kept = c.add_into.ensures;
    })

pub returns : goal.returns
returns c = c.put_back.ensures ∙ c.of_packed.ensures ∙ sum (the_field c.field-field.result) c.cols-cols.result c.take.result c.args.dst.now c.into_packed-bits.result c.add_into.new.dst (e_shown c.args.src.now) (shown c.packed-source.result)
    (record {
      whole = c.take.ensures.whole;
      packed = c.into_packed-bits.ensures.packed;
      shows = c.into_packed-bits.ensures.elements;
      field_is = c.field-field.ensures;
      cols_is = c.cols-cols.ensures.cols;
      shape = c.rows-rows.ensures.shape;
      new_shape = c.rows-new_rows.ensures.shape;
      source = c.packed-source.ensures.packed;
      source_matrix = c.rows-source_rows.ensures.matrix;
      source_over = refl;
      source_shows = c.packed-source.ensures.elements;
      same_field = c.requires.same_field;
      same_rows = c.requires.same_rows;
      same_cols = c.requires.same_cols;
      kept = c.add_into.ensures;
    })
