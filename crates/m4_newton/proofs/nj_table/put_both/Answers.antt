use Rattle.std.proofs.Common.{ℕ, ◌^◌, ◌-◌, ◌∙◌, ap, subst, arith}
use Rattle.m4_model.specs.Field.{Field}
use Rattle.m4_model.specs.Matrix.{row}
use Rattle.m4_mzed.specs.ESeen.{e_shown}
use Rattle.m4_newton.specs.Entries.{AreEntries}
use Rattle.m4_newton.proofs.TableLemmas.{both_low, both_high}
use Rattle.m4_newton.proofs.nj_table.put_both.Goals as goal

pub returns-then-degree-le-LOW : goal.returns-then-degree-le-LOW
returns-then-degree-le-LOW c =
    let old = c.args.m.now in
    let degree = c.e-degree.ensures.degree ∙ ap (λ (F : Field). F.degree) c.field.ensures in
    let P : ℕ → Type 0 = λ d. AreEntries old c.put_entries.new.m (row (e_shown c.args.b.now) c.args.r) 0 0 (2 ^ d) in
    both_low old c.put_entries.new.m (row (e_shown c.args.b.now) c.args.r) (omega (arith, degree, c.if-degree-le-LOW.true)) (subst P degree c.put_entries.ensures)

pub returns-else-degree-le-LOW : goal.returns-else-degree-le-LOW
returns-else-degree-le-LOW c =
    let old = c.args.m.now in
    let mid = c.put_entries-else-degree-le-LOW.new.m in
    let new = c.put_entries-else-degree-le-LOW-2.new.m in
    let degree = c.e-degree.ensures.degree ∙ ap (λ (F : Field). F.degree) c.field.ensures in
    let P : ℕ → Type 0 = λ d. AreEntries mid new (row (e_shown c.args.b.now) c.args.r) 256 8 (2 ^ (d - 8)) in
    both_high old mid new (row (e_shown c.args.b.now) c.args.r) (omega (arith, degree, c.if-degree-le-LOW.false)) c.put_entries-else-degree-le-LOW.ensures
    (subst P degree c.put_entries-else-degree-le-LOW-2.ensures)
