use Rattle.std.proofs.Common.{◌≡◌, ℕ, ◌-◌, ◌*◌, [], refl, sym, ap, subst, ◌∙◌}
use Rattle.m4_model.specs.Field.{Field, gf2}
use Rattle.m4_model.specs.Matrix.{Matrix, IsMatrix}
use Rattle.m4_mzd.specs.declared.mzd.around.Around.{Around}
use Rattle.m4_mzed.specs.EWindow.{EWindow, showing}
use Rattle.m4_mzed.specs.Packed.{elements}
use Rattle.m4_mzed.specs.PackedIn.{IsPackedIn}
use Rattle.m4_model.specs.Shapes.{cut}
use Rattle.m4_field.specs.Fields.{the_field}
use Rattle.m4_model.specs.Field.{width}
use Rattle.m4_mzd.specs.Window.{Window}
use Rattle.m4_mzd.specs.Window.{showing as bit_showing}
use Rattle.m4_mzd.specs.declared.rect.Rect.{Rect}
use Rattle.m4_mzd.specs.Rectangles.{IsInside}
use Rattle.m4_mzd.specs.Around as around_bits
use Rattle.m4_mzed.specs.Owned.{e_matrix}
use Rattle.m4_mzed.specs.Taken.{IsAround, scaled}
use Rattle.m4_mzed.proofs.RectLemmas.{wide, taken_packed, taken_shows}
use Rattle.m4_mzed.proofs.mzed.Mzed.win_mut.Goals as goal

inside_is : (rect : Rect) (A B : Matrix) → A ≡ B → IsInside rect B.rows B.cols → IsInside rect A.rows A.cols
inside_is rect A B is inside = let P : Matrix → Type 0 = λ M. IsInside rect M.rows M.cols in subst P (sym is) inside

pub invariant_of-result : goal.invariant_of-result
invariant_of-result c =
    let F = the_field c.self.inside.field in
    let n = c.self.inside.cols in
    let P = c.self.inside.bits in
    let rect = c.args.rect in
    let i = inside_is rect (e_matrix F n P) c.args.self.now c.self.view_is c.requires.inside in
    taken_packed F n P c.win_mut-bits.result.0 rect.r0 rect.c0 rect.r1 rect.c1 c.self.invariant c.rows-all.ensures.matrix c.rows-all.ensures.over_gf2 c.rows-part.ensures.shape i.in_rows i.in_cols i.in_order_across
    (c.win_mut-bits.ensures.content ∙ ap (λ k. cut P rect.r0 (rect.c0 * k) rect.r1 (rect.c1 * k)) c.width-width.ensures.width)

pub returns-clause-content : goal.returns-clause-content
returns-clause-content c =
    let F = the_field c.self.inside.field in
    let n = c.self.inside.cols in
    let P = c.self.inside.bits in
    let rect = c.args.rect in
    let i = inside_is rect (e_matrix F n P) c.args.self.now c.self.view_is c.requires.inside in
    taken_shows F n P c.win_mut-bits.result.0 rect.r0 rect.c0 rect.r1 rect.c1 c.self.invariant c.rows-all.ensures.matrix c.rows-all.ensures.over_gf2 c.rows-part.ensures.shape i.in_rows i.in_cols i.in_order_across
    (c.win_mut-bits.ensures.content ∙ ap (λ k. cut P rect.r0 (rect.c0 * k) rect.r1 (rect.c1 * k)) c.width-width.ensures.width)
    ∙ ap (λ (A : Matrix). cut A rect.r0 rect.c0 rect.r1 rect.c1) c.self.view_is

made : (around : Around) (F : Field) (n j : ℕ) (P : Matrix) (w : Window) (rect : Rect) → j ≡ width F → w.cols ≡ (rect.c1 - rect.c0) * width F → IsPackedIn F n P → IsMatrix P → P.field ≡ gf2
    → ((B : Matrix) → around_bits.IsAround around (bit_showing w B) (scaled j rect) P) → IsAround around (elements F (rect.c1 - rect.c0) w) rect (e_matrix F n P)
made around F n j P w rect is wide packed matrix over shows = record {
  bits = P;
  shows = refl;
  packed = packed;
  matrix = matrix;
  over = over;
  field = refl;
  cols = refl;
  is = let Q : ℕ → Type 0 = λ k. around_bits.IsAround around (record w { cols = k; bits = [] }) (scaled (width F) rect) P in
      let R : ℕ → Type 0 = λ k. around_bits.IsAround around (record w { bits = [] }) (scaled k rect) P in
      subst Q wide (subst R is (shows (record { field = gf2; rows = 0; cols = 0; entries = [] })));
}

pub returns-clause-around : goal.returns-clause-around
returns-clause-around c =
    let F = the_field c.self.inside.field in
    let n = c.self.inside.cols in
    let P = c.self.inside.bits in
    let rect = c.args.rect in
    let i = inside_is rect (e_matrix F n P) c.args.self.now c.self.view_is c.requires.inside in
    let R : Matrix → Type 0 = λ A. IsAround c.win_mut-bits.result.1 (elements F (rect.c1 - rect.c0) c.win_mut-bits.result.0) rect A in
    subst R c.self.view_is (made c.win_mut-bits.result.1 F n c.width-width.result P c.win_mut-bits.result.0 rect c.width-width.ensures.width
    (wide F n P c.win_mut-bits.result.0 rect.r0 rect.c0 rect.r1 rect.c1 c.self.invariant c.rows-all.ensures.matrix c.rows-all.ensures.over_gf2 c.rows-part.ensures.shape i.in_rows i.in_cols i.in_order_across
    (c.win_mut-bits.ensures.content ∙ ap (λ k. cut P rect.r0 (rect.c0 * k) rect.r1 (rect.c1 * k)) c.width-width.ensures.width))
    c.self.invariant c.rows-all.ensures.matrix c.rows-all.ensures.over_gf2 c.win_mut-bits.ensures.whatever_it_shows)

-- what lies around a window lies around it whatever it shows
shown_around : (around : Around) (part : EWindow) (rect : Rect) (A B : Matrix) → IsAround around part rect A → IsAround around (showing part B) rect A
shown_around around part rect A B is = record {
  bits = is.bits;
  shows = is.shows;
  packed = is.packed;
  matrix = is.matrix;
  over = is.over;
  field = is.field;
  cols = is.cols;
  is = is.is;
}

pub returns-clause-whatever_it_shows : goal.returns-clause-whatever_it_shows
returns-clause-whatever_it_shows c = λ B. shown_around _ _ c.args.rect c.args.self.now B (returns-clause-around c)
