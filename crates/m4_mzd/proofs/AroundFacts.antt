-- A window that is put back among what lay around it, in the words of the calls that take it out and put it back.
use Rattle.std.proofs.Common.{◌≡◌, ℕ, ◌+◌, ◌-◌, ◌++◌, map, sym, ◌∙◌, ap, subst, arith}
use Rattle.std.specs.Simd.Lanes.{zip2}
use Rattle.m4_model.specs.Matrix.{Matrix}
use Rattle.m4_model.specs.Shapes.{replace}
use Rattle.m4_area.specs.Rectangle.{Rectangle, HasShape}
use Rattle.m4_mzd.specs.Window.{Window, content}
use Rattle.m4_mzd.specs.Shown.{window, bits_past, IsFramed}
use Rattle.m4_mzd.specs.Held.{held, IsHeld}
use Rattle.m4_mzd.specs.Rectangles.{IsInside}
use Rattle.m4_mzd.specs.Around.{IsAround}
use Rattle.m4_mzd.specs.declared.rect.Rect.{Rect}
use Rattle.m4_mzd.specs.declared.mzd.around.Around.{Around}
use Rattle.m4_mzd.proofs.PutLemmas.{Put, replaced, is_held_put}

-- two rectangles of words above one another, and side by side
abbrev pub stacked : Rectangle → Rectangle → Rectangle
stacked a b = record a { rows = a.rows + b.rows; words = a.words ++ b.words }

abbrev pub beside : Rectangle → Rectangle → Rectangle
beside a b = record a { width = a.width + b.width; words = zip2 (λ l r. l ++ r) a.words b.words }

-- all of the matrix, of the window's words and those around it
abbrev pub joined : Around → Rectangle → Rectangle
joined around words = stacked (stacked around.above (beside (beside around.left words) around.right)) around.below

columns : (around : Around) (part : Window) (rect : Rect) (A : Matrix) (words : Rectangle) (m : ℕ) → IsAround around part rect A → window words m ≡ part → m ≡ rect.c1 - rect.c0
columns around part rect A words m h is = ap (λ (w : Window). w.cols) is ∙ h.cols

known : (around : Around) (part : Window) (rect : Rect) (A : Matrix) (words u : Rectangle) (m : ℕ) (h : IsAround around part rect A)
    → window words m ≡ part → IsFramed words m → HasShape u → u ≡ joined around words → Put h.whole words u around.cols rect
known around part rect A words u m h is framed shape e =
    let v = h.whole in
    let same : m ≡ rect.c1 - rect.c0 = columns around part rect A words m h is in
    let inside : IsInside rect v.rows around.cols = let P : Matrix → Type 0 = λ B. IsInside rect B.rows B.cols in subst P (sym h.matrix) h.inside in
    let all = e ∙ (λ i. stacked (stacked (h.above i) (beside (beside (h.left i) words) (h.right i))) (h.below i)) in
    record {
      is_held = h.is_held;
      framed = subst (IsFramed words) same framed;
      inside = inside;
      whole_words = h.whole_words;
      part_rows = ap (λ (w : Window). w.rows) is ∙ h.rows;
      past = ap (λ k. map (bits_past k) words.words) (sym same) ∙ (ap (λ (w : Window). w.past) is ∙ h.past);
      shape = shape;
      rows = ap (λ (x : Rectangle). x.rows) all ∙ omega (arith, inside.in_order, inside.in_rows);
      width = ap (λ (x : Rectangle). x.width) all;
      words = ap (λ (x : Rectangle). x.words) all;
    }

pub put_replaces : (around : Around) (part : Window) (rect : Rect) (A : Matrix) (words u : Rectangle) (m : ℕ) → IsAround around part rect A
    → window words m ≡ part → IsFramed words m → HasShape u → u ≡ joined around words → held u around.cols ≡ replace A rect.r0 rect.c0 (content part)
put_replaces around part rect A words u m h is framed shape e =
    let same : m ≡ rect.c1 - rect.c0 = columns around part rect A words m h is in
    replaced h.whole words u around.cols rect (known around part rect A words u m h is framed shape e)
    ∙ ap (λ B. replace B rect.r0 rect.c0 (content (window words (rect.c1 - rect.c0)))) h.matrix
    ∙ ap (λ w. replace A rect.r0 rect.c0 (content w)) (ap (window words) (sym same) ∙ is)

pub put_is_held : (around : Around) (part : Window) (rect : Rect) (A : Matrix) (words u : Rectangle) (m : ℕ) → IsAround around part rect A
    → window words m ≡ part → IsFramed words m → HasShape u → u ≡ joined around words → IsHeld u around.cols
put_is_held around part rect A words u m h is framed shape e =
    is_held_put h.whole words u around.cols rect (known around part rect A words u m h is framed shape e)
