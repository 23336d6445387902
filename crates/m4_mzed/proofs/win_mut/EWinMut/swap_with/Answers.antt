use Rattle.std.proofs.Common.{◌≡◌, ℕ, ◌<◌, List, set, sym, subst, ap, ap₂, ◌∙◌}
use Rattle.m4_model.specs.Field.{Field, width}
use Rattle.m4_model.specs.Matrix.{row, with_row}
use Rattle.m4_field.specs.Fields.{the_field}
use Rattle.m4_mzd.specs.Window.{Window}
use Rattle.m4_mzd.specs.Window.{content as bit_content, showing as bit_showing}
use Rattle.m4_mzed.specs.EWindow.{EWindow, content, showing}
use Rattle.m4_mzed.specs.Packed.{elements, unpacked, IsPacked}
use Rattle.m4_mzed.proofs.EntryLemmas.{row_of_elements}
use Rattle.m4_mzed.proofs.PartLemmas.{elements_written}
use Rattle.m4_mzed.proofs.win_mut.EWinMut.swap_with.Goals as goal

-- a row of another window over the same field written into this one
written : (F G : Field) (n m r s : ℕ) (w v next : Window) (x y : EWindow) → elements F n w ≡ x → elements G m v ≡ y → IsPacked F n w → IsPacked G m v → y.field ≡ x.field → y.cols ≡ x.cols → s < y.rows
    → next ≡ bit_showing w (with_row (bit_content w) r (row (bit_content v) s)) → elements F n next ≡ showing x (with_row (content x) r (row (content y) s))
written F G n m r s w v next x y e f is js field cols below kept =
    let over : G ≡ F = ap (λ (u : EWindow). u.field) f ∙ field ∙ sym (ap (λ (u : EWindow). u.field) e) in
    let count : m ≡ n = ap (λ (u : EWindow). u.cols) f ∙ cols ∙ sym (ap (λ (u : EWindow). u.cols) e) in
    let P : EWindow → Type 0 = λ u. s < u.rows in
    elements_written F n w is r (row (bit_content v) s) next kept
    ∙ ap {B = EWindow} (λ (l : List ℕ). record (elements F n w) { entries = set (elements F n w).entries r l })
    (ap₂ (λ (H : Field) (k : ℕ). unpacked (width H) k (row (bit_content v) s)) (sym over) (sym count) ∙ sym (row_of_elements G m v js s (subst P (sym f) below)))
    ∙ ap₂ {C = EWindow} (λ (u z : EWindow). showing u (with_row (content u) r (row (content z) s))) e f

pub returns-clause-here : goal.returns-clause-here
returns-clause-here c =
    written (the_field c.self.inside.field) (the_field c.other.inside.field) c.self.inside.cols c.other.inside.cols c.args.r c.args.s c.self.inside.bits c.other.inside.bits c.swap_with.new.self c.args.self.now c.args.other.now
    c.self.view_is c.other.view_is c.self.invariant c.other.invariant c.requires.same_field c.requires.same_cols c.requires.in_other c.swap_with.ensures.here

pub returns-clause-there : goal.returns-clause-there
returns-clause-there c =
    written (the_field c.other.inside.field) (the_field c.self.inside.field) c.other.inside.cols c.self.inside.cols c.args.s c.args.r c.other.inside.bits c.self.inside.bits c.swap_with.new.other c.args.other.now c.args.self.now
    c.other.view_is c.self.view_is c.other.invariant c.self.invariant (sym c.requires.same_field) (sym c.requires.same_cols) c.requires.in_rows c.swap_with.ensures.there
