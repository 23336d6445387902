use Rattle.std.proofs.Common.{◌∙◌, ap, take, drop, map, ◌+◌, ◌-◌, ◌*◌, ◌/◌, ◌≤◌, [], sym, subst, ℕ}
use Rattle.m4_field.specs.Fields.{the_field}
use Rattle.m4_model.specs.Field.{width}
use Rattle.m4_mzd.specs.Window.{Window}
use Rattle.m4_mzed.specs.EWindow.{EWindow}
use Rattle.m4_mzed.proofs.PartLemmas.{packed_left, packed_right, elements_left, elements_right}
use Rattle.m4_mzed.proofs.win_mut.EWinMut.split_cols.Goals as goal

pub invariant_of-result : goal.invariant_of-result
invariant_of-result c =
    let P : EWindow → Type 0 = λ v. c.args.c ≤ v.cols in
    let k : ℕ → Window = λ b. record c.self.inside.bits { cols = b; bits = map (take b) c.self.inside.bits.bits; past = map (λ _. []) c.self.inside.bits.past } in
    packed_left (the_field c.self.inside.field) c.self.inside.cols c.self.inside.bits c.self.invariant c.args.c c.split_cols-left.result.0
    (subst P (sym c.self.view_is) c.requires.within) (c.split_cols-left.ensures.left ∙ ap k (c.first_bit-place.ensures ∙ sym (ap (λ (v : EWindow). c.args.c * width v.field) c.self.view_is)))

pub invariant_of-result-2 : goal.invariant_of-result-2
invariant_of-result-2 c =
    let P : EWindow → Type 0 = λ v. c.args.c ≤ v.cols in
    let k : ℕ → Window = λ b. record c.self.inside.bits { skip = c.self.inside.bits.skip + b / 64; cols = c.self.inside.bits.cols - b; bits = map (drop b) c.self.inside.bits.bits } in
    packed_right (the_field c.self.inside.field) c.self.inside.cols c.self.inside.bits c.self.invariant c.args.c c.split_cols-left.result.1
    (subst P (sym c.self.view_is) c.requires.within) (c.split_cols-left.ensures.right ∙ ap k (c.first_bit-place.ensures ∙ sym (ap (λ (v : EWindow). c.args.c * width v.field) c.self.view_is)))

pub returns-clause-left : goal.returns-clause-left
returns-clause-left c =
    let P : EWindow → Type 0 = λ v. c.args.c ≤ v.cols in
    let k : ℕ → Window = λ b. record c.self.inside.bits { cols = b; bits = map (take b) c.self.inside.bits.bits; past = map (λ _. []) c.self.inside.bits.past } in
    elements_left (the_field c.self.inside.field) c.self.inside.cols c.self.inside.bits c.self.invariant c.args.c c.split_cols-left.result.0
    (subst P (sym c.self.view_is) c.requires.within) (c.split_cols-left.ensures.left ∙ ap k (c.first_bit-place.ensures ∙ sym (ap (λ (v : EWindow). c.args.c * width v.field) c.self.view_is)))
    ∙ ap {B = EWindow} (λ (v : EWindow). record v { cols = c.args.c; entries = map (take c.args.c) v.entries; past = map (λ _. []) v.past }) c.self.view_is

pub returns-clause-right : goal.returns-clause-right
returns-clause-right c =
    let P : EWindow → Type 0 = λ v. c.args.c ≤ v.cols in
    let k : ℕ → Window = λ b. record c.self.inside.bits { skip = c.self.inside.bits.skip + b / 64; cols = c.self.inside.bits.cols - b; bits = map (drop b) c.self.inside.bits.bits } in
    elements_right (the_field c.self.inside.field) c.self.inside.cols c.self.inside.bits c.self.invariant c.args.c c.split_cols-left.result.1
    (subst P (sym c.self.view_is) c.requires.within) (c.split_cols-left.ensures.right ∙ ap k (c.first_bit-place.ensures ∙ sym (ap (λ (v : EWindow). c.args.c * width v.field) c.self.view_is)))
    ∙ ap {B = EWindow} (λ (v : EWindow). record v { skip = v.skip + c.args.c * width v.field / 64; cols = v.cols - c.args.c; entries = map (drop c.args.c) v.entries }) c.self.view_is
