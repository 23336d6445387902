use Rattle.std.proofs.Common.{◌≡◌, ◌^◌, ◌<◌, ◌∙◌, length, map, take, sym, ap, subst, arith}
use Rattle.m4_model.specs.Field.{Field}
use Rattle.m4_model.specs.Matrix.{Matrix}
use Rattle.m4_mzed.specs.ESeen.{e_shown}
use Rattle.m4_newton.specs.NjTables.{Filled}
use Rattle.m4_newton.proofs.EntryLemmas.{one_small}
use Rattle.m4_newton.proofs.TableLemmas.{low_added, high_added, high_small, many_entries, some_entries, filled_long}
use Rattle.m4_newton.proofs.nj_table.NjTable.add_multiple.Goals as goal

pub add_multiple-requires-clause-same_cols : goal.add_multiple-requires-clause-same_cols
add_multiple-requires-clause-same_cols c =
    ap (λ (M : Matrix). M.cols) c.narrow-entries.ensures
    ∙ sym (filled_long c.self.inside.entries c.self.inside.filled c.rows-all.ensures.matrix
    (omega (arith, some_entries c.self.inside.entries.field.degree c.self.invariant.carried.degree_low, c.self.invariant.rows)) c.self.invariant.few)
    ∙ ap (λ (t : Filled). length t.row) c.self.view_is ∙ c.requires.cols

pub add_multiple-requires-clause-element : goal.add_multiple-requires-clause-element
add_multiple-requires-clause-element c =
    let P : Field → Type 0 = λ F. 1 < 2 ^ F.degree in
    subst P (ap (λ (t : Filled). t.field) c.self.view_is ∙ sym c.requires.field) (one_small _ c.self.invariant.carried)

pub add_both-requires-clause-in_b : goal.add_both-requires-clause-in_b
add_both-requires-clause-in_b c =
    let E = c.self.inside.entries in
    let over : c.args.dst.now.field ≡ E.field = c.requires.field ∙ sym (ap (λ (t : Filled). t.field) c.self.view_is) in
    let P : Field → Type 0 = λ F. c.args.x < 2 ^ F.degree in
    let large : 8 < E.field.degree = omega (arith, c.if-e-le-LOW.false, c.e.ensures.degree, ap (λ (F : Field). F.degree) c.field-field.ensures) in
    omega (
      arith,
      high_small E.field.degree c.args.x large (subst P over c.requires.element),
      many_entries E.field.degree large,
      c.self.invariant.rows,
      ap (λ (M : Matrix). M.rows) c.narrow-entries.ensures,
      ap (λ (M : Matrix). M.rows) c.all.ensures,
    )

pub returns-then-e-le-LOW : goal.returns-then-e-le-LOW
returns-then-e-le-LOW c =
    let E = c.self.inside.entries in
    low_added E (e_shown c.narrow-entries.result) c.self.inside.filled c.args.self.now c.args.dst.now c.self.invariant c.self.view_is c.rows-entries.ensures.matrix c.rows-rows.ensures.matrix
    (c.narrow-entries.ensures ∙ ap (λ (M : Matrix). record M { cols = c.self.inside.filled; entries = map (take c.self.inside.filled) M.entries }) c.all.ensures) c.requires.field
    c.add_multiple.new.self c.args.r c.args.x (omega (arith, c.if-e-le-LOW.true, c.e.ensures.degree, ap (λ (F : Field). F.degree) c.field-field.ensures)) c.requires.element c.add_multiple.ensures

pub returns-else-e-le-LOW : goal.returns-else-e-le-LOW
returns-else-e-le-LOW c =
    let E = c.self.inside.entries in
    high_added E (e_shown c.narrow-entries.result) c.self.inside.filled c.args.self.now c.args.dst.now c.self.invariant c.self.view_is c.rows-entries.ensures.matrix c.rows-rows.ensures.matrix
    (c.narrow-entries.ensures ∙ ap (λ (M : Matrix). record M { cols = c.self.inside.filled; entries = map (take c.self.inside.filled) M.entries }) c.all.ensures) c.requires.field
    c.add_both.new.self c.args.r c.args.x
    (omega (arith, c.if-e-le-LOW.false, c.e.ensures.degree, ap (λ (F : Field). F.degree) c.field-field.ensures)) c.requires.element c.requires.in_rows c.requires.cols
    c.add_both.ensures
