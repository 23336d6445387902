use Rattle.std.proofs.Common.{◌≡◌, ◌∙◌, ap, ap₂, ◌++◌, ◌+◌, sym, subst, ℕ}
use Rattle.std.specs.Simd.Lanes.{zip2}
use Rattle.m4_model.specs.Field.{Field}
use Rattle.m4_field.specs.Fields.{the_field}
use Rattle.m4_mzd.specs.Window.{Window}
use Rattle.m4_mzed.specs.EWindow.{EWindow, IsBeside}
use Rattle.m4_mzed.specs.Packed.{elements, IsPacked}
use Rattle.m4_mzed.proofs.PartLemmas.{packed_beside, elements_beside}
use Rattle.m4_mzed.proofs.win_mut.EWinMut.join_cols.Goals as goal

-- both parts as what they are over one field
packed : (F G : Field) (n m : ℕ) (v w a : Window) (x y : EWindow) → elements F n v ≡ x → elements G m w ≡ y → IsPacked F n v → IsPacked G m w → IsBeside x y
    → a ≡ record v { cols = v.cols + w.cols; bits = zip2 (λ l r. l ++ r) v.bits w.bits; past = w.past } → IsPacked F (n + m) a
packed F G n m v w a x y e f is js beside written =
    let field : G ≡ F = ap (λ x. x.field) f ∙ beside.field ∙ sym (ap (λ x. x.field) e) in
    let rows : w.rows ≡ v.rows = ap (λ x. x.rows) f ∙ beside.rows ∙ sym (ap (λ x. x.rows) e) in
    let P : Field → Type 0 = λ H. IsPacked H m w in
    packed_beside F n m v w a is (subst P field js) rows written

shows : (F G : Field) (n m : ℕ) (v w a : Window) (x y : EWindow) → elements F n v ≡ x → elements G m w ≡ y → IsPacked F n v → IsPacked G m w → IsBeside x y
    → a ≡ record v { cols = v.cols + w.cols; bits = zip2 (λ l r. l ++ r) v.bits w.bits; past = w.past }
    → elements F (n + m) a ≡ record x { cols = x.cols + y.cols; entries = zip2 (λ l r. l ++ r) x.entries y.entries; past = y.past }
shows F G n m v w a x y e f is js beside written =
    let field : G ≡ F = ap (λ x. x.field) f ∙ beside.field ∙ sym (ap (λ x. x.field) e) in
    let rows : w.rows ≡ v.rows = ap (λ x. x.rows) f ∙ beside.rows ∙ sym (ap (λ x. x.rows) e) in
    let P : Field → Type 0 = λ H. IsPacked H m w in
    let both : EWindow → EWindow → EWindow = λ x y. record x { cols = x.cols + y.cols; entries = zip2 (λ l r. l ++ r) x.entries y.entries; past = y.past } in
    elements_beside F n m v w a is (subst P field js) rows written
    ∙ ap₂ both e (ap (λ H. elements H m w) (sym field) ∙ f)

pub invariant_of-result : goal.invariant_of-result
invariant_of-result c =
    packed (the_field c.self.inside.field) (the_field c.right.inside.field) c.self.inside.cols c.right.inside.cols c.self.inside.bits c.right.inside.bits c.join_cols.result c.args.self c.args.right
    c.self.view_is c.right.view_is c.self.invariant c.right.invariant c.requires c.join_cols.ensures

pub returns : goal.returns
returns c =
    shows (the_field c.self.inside.field) (the_field c.right.inside.field) c.self.inside.cols c.right.inside.cols c.self.inside.bits c.right.inside.bits c.join_cols.result c.args.self c.args.right
    c.self.view_is c.right.view_is c.self.invariant c.right.invariant c.requires c.join_cols.ensures
