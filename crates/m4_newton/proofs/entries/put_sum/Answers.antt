use Rattle.std.proofs.Common.{◌^◌, ◌<◌, ◌∙◌, sym, ap, subst}
use Rattle.m4_model.specs.Field.{Field, IsCarried}
use Rattle.m4_mzed.specs.EWindow.{EWindow}
use Rattle.m4_newton.proofs.EntryLemmas.{summed, one_small}
use Rattle.m4_newton.proofs.entries.put_sum.Goals as goal

pub returns : goal.returns
returns c =
    summed c.args.m.now c.clear_row.new.self c.add_own.new.self c.add_own-2.new.self c.args.r c.args.s c.args.q (subst IsCarried c.field.ensures c.e-degree.ensures.field)
    c.rows-rows.ensures.matrix c.requires.in_rows c.requires.first_in_rows c.requires.second_in_rows c.requires.not_first c.requires.not_second
    c.clear_row.ensures c.add_own.ensures c.add_own-2.ensures

pub add_own-requires-clause-element : goal.add_own-requires-clause-element
add_own-requires-clause-element c =
    let P : Field → Type 0 = λ F. 1 < 2 ^ F.degree in
    subst P (c.field.ensures ∙ sym (ap (λ (v : EWindow). v.field) c.clear_row.ensures)) (one_small _ c.e-degree.ensures.field)

pub add_own-requires-2-clause-element : goal.add_own-requires-2-clause-element
add_own-requires-2-clause-element c =
    let P : Field → Type 0 = λ F. 1 < 2 ^ F.degree in
    subst P (c.field.ensures ∙ sym (ap (λ (v : EWindow). v.field) c.add_own.ensures ∙ ap (λ (v : EWindow). v.field) c.clear_row.ensures)) (one_small _ c.e-degree.ensures.field)
