use Rattle.std.proofs.Common.{◌≡◌, ℕ, ◌+◌, ◌*◌, ◌/◌, ◌<◌, sym, ap, ap₂, subst, ◌∙◌, arith}
use Rattle.std.proofs.lemmas.Nat.{div-mul-add}
use Rattle.m4_model.specs.Field.{Field}
use Rattle.m4_model.specs.Matrix.{Matrix, IsMatrix}
use Rattle.m4_model.specs.Shapes.{replace}
use Rattle.m4_field.specs.Fields.{the_field}
use Rattle.m4_model.specs.Field.{width}
use Rattle.m4_mzd.specs.Window.{Window, IsWindow}
use Rattle.m4_mzd.specs.Window.{content as bit_content}
use Rattle.m4_mzd.specs.declared.rect.Rect.{Rect}
use Rattle.m4_mzd.specs.declared.mzd.around.Around.{Around}
use Rattle.m4_mzd.specs.Around as around_bits
use Rattle.m4_mzed.specs.EWindow.{EWindow, content}
use Rattle.m4_mzed.specs.Owned.{e_matrix}
use Rattle.m4_mzed.specs.Packed.{elements, IsPacked}
use Rattle.m4_mzed.specs.PackedIn.{IsPackedIn}
use Rattle.m4_mzed.specs.Taken.{IsAround, place_of, scaled}
use Rattle.m4_field.proofs.WidthLemmas.{width_facts}
use Rattle.m4_mzed.proofs.RectLemmas.{put_packed, put_shows}
use Rattle.m4_mzed.proofs.mzed.Mzed.put_win.Goals as goal

-- what lies around a window lies around any other in its place
around_same : (around : Around) (v w : Window) (rect : Rect) (P : Matrix) → v.place ≡ w.place → v.skip ≡ w.skip → v.rows ≡ w.rows → v.cols ≡ w.cols → v.past ≡ w.past
    → around_bits.IsAround around v rect P → around_bits.IsAround around w rect P
around_same around v w rect P place skip rows cols past is = record {
  whole = is.whole;
  matrix = is.matrix;
  is_held = is.is_held;
  inside = is.inside;
  whole_words = is.whole_words;
  above = is.above;
  below = is.below;
  left = is.left;
  right = is.right;
  storage = is.storage;
  place = sym place ∙ is.place;
  skip = sym skip ∙ is.skip;
  rows = sym rows ∙ is.rows;
  cols = sym cols ∙ is.cols;
  past = sym past ∙ is.past;
}

-- what lies around a window over the field lies around its bits
around_its_bits : (F : Field) (m : ℕ) (w : Window) (part : EWindow) (around : Around) → elements F m w ≡ part → IsPacked F m w → (rect : Rect) (A : Matrix) (h : IsAround around part rect A)
    → around_bits.IsAround around w (scaled (width F) rect) h.bits
around_its_bits F m w part around view is rect A h =
    let field : A.field ≡ F = sym h.field ∙ sym (ap (λ (v : EWindow). v.field) view) in
    let R : Field → Type 0 = λ G. around_bits.IsAround around (place_of part) (scaled (width G) rect) h.bits in
    around_same around (place_of part) w (scaled (width F) rect) h.bits
    (sym (ap (λ (v : EWindow). v.place) view)) (sym (ap (λ (v : EWindow). v.skip) view)) (sym (ap (λ (v : EWindow). v.rows) view))
    (sym (is.wide ∙ ap (λ (v : EWindow). v.cols * width v.field) view)) (sym (ap (λ (v : EWindow). v.past) view))
    (subst R field h.is)

record Put (F : Field) (m q k : ℕ) (w : Window) (Q : Matrix) (part : EWindow) (around : Around) : Type 0 where
  view : elements F m w ≡ part
  is : IsPacked F m w
  shape : IsWindow w
  q_shape : IsMatrix Q
  cols : q ≡ Q.cols
  width_is : k ≡ width F
  gives : (rect : Rect) (P : Matrix) → around_bits.IsAround around w rect P → Q ≡ replace P rect.r0 rect.c0 (bit_content w)

module _ (F : Field) (m q k : ℕ) (w : Window) (Q : Matrix) (part : EWindow) (around : Around) (p : Put F m q k w Q part around) (rect : Rect) (A : Matrix) (h : IsAround around part rect A) where
  field : A.field ≡ F
  field = sym h.field ∙ sym (ap (λ (v : EWindow). v.field) p.view)

  P : Matrix
  P = h.bits

  packed : IsPackedIn F A.cols h.bits
  packed = let R : Field → Type 0 = λ G. IsPackedIn G A.cols h.bits in subst R field h.packed

  shows : Q ≡ replace h.bits rect.r0 (rect.c0 * width F) (bit_content w)
  shows = p.gives (scaled (width F) rect) h.bits (around_its_bits F m w part around p.view p.is rect A h)

  count : q / k ≡ A.cols
  count =
      let some : 0 < width F = (width_facts F p.is.carried).some in
      let all : q ≡ A.cols * width F = p.cols ∙ ap (λ (B : Matrix). B.cols) shows ∙ packed.wide in
      let zero : A.cols * width F ≡ A.cols * width F + 0 = omega arith in
      ap₂ (λ a b. a / b) all p.width_is ∙ ap (λ a. a / width F) zero ∙ div-mul-add A.cols (width F) 0 some

  whole : IsPackedIn F (q / k) Q
  whole = let R : ℕ → Type 0 = λ n. IsPackedIn F n Q in subst R (sym count) (put_packed F A.cols m h.bits Q w rect.r0 rect.c0 packed h.matrix h.over p.is p.shape p.q_shape shows)

  answer : e_matrix F (q / k) Q ≡ replace A rect.r0 rect.c0 (content part)
  answer =
      ap (λ n. e_matrix F n Q) count
      ∙ put_shows F A.cols m h.bits Q w rect.r0 rect.c0 packed h.matrix h.over p.is p.shape p.q_shape shows
      ∙ ap₂ (λ (B : Matrix) (v : EWindow). replace B rect.r0 rect.c0 (content v)) (ap (λ (G : Field). e_matrix G A.cols h.bits) (sym field) ∙ h.shows) p.view

pub put_win-requires : goal.put_win-requires
put_win-requires c =
    let f = c.requires.fits in
    let F = the_field c.part.inside.field in
    record {
      fits = record {
        rect = scaled (width F) f.rect;
        matrix = f.is.bits;
        is = around_its_bits F c.part.inside.cols c.part.inside.bits c.args.part c.args.around c.part.view_is c.part.invariant f.rect f.matrix f.is;
      };
    }

pub invariant_of-self : goal.invariant_of-self
invariant_of-self c =
    let f = c.requires.fits in
    whole (the_field c.part.inside.field) c.part.inside.cols c.cols.result c.width.result c.part.inside.bits c.put_win.new.self c.args.part c.args.around
    (record { view = c.part.view_is; is = c.part.invariant; shape = c.rows-part.ensures.shape; q_shape = c.cols.ensures.matrix; cols = c.cols.ensures.cols; width_is = c.width.ensures.width; gives = c.put_win.ensures })
    f.rect f.matrix f.is

pub returns : goal.returns
returns c = λ rect A h.
    answer (the_field c.part.inside.field) c.part.inside.cols c.cols.result c.width.result c.part.inside.bits c.put_win.new.self c.args.part c.args.around
    (record { view = c.part.view_is; is = c.part.invariant; shape = c.rows-part.ensures.shape; q_shape = c.cols.ensures.matrix; cols = c.cols.ensures.cols; width_is = c.width.ensures.width; gives = c.put_win.ensures })
    rect A h
