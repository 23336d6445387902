use Rattle.std.proofs.Common.{[], ℕ, ◌<◌, ◌^◌, List, sym, subst, ◌∙◌, ap, arith, set}
use Rattle.std.proofs.lemmas.List.{get_or-set_same}
use Rattle.m4_model.specs.Field.{Field}
use Rattle.m4_model.specs.Matrix.{row, with_row, with_entry}
use Rattle.m4_model.proofs.RingLemmas.{IsElement-one}
use Rattle.m4_mzd.specs.Parts.{part, with_part}
use Rattle.m4_mzed.specs.EWindow.{EWindow, content, showing}
use Rattle.m4_mzed.specs.ESeen.{e_shown}
use Rattle.m4_ple.proofs.ExchangedColumns.{with_row-again}
use Rattle.m4_ple.proofs.factors.copy_lower_row.Goals as goal

pub put-requires-clause-element : goal.put-requires-clause-element
put-requires-clause-element c =
    let P : Field → Type 0 = λ F. 1 < 2 ^ F.degree in
    subst P (sym (ap (λ (V : EWindow). V.field) c.copy_part.ensures)) (IsElement-one c.args.all.now.field c.rows-rows.ensures.matrix.over_field)

pub returns : goal.returns
returns c =
    let W = c.args.all.now in
    let A = content W in
    let i = c.args.i in
    let xs : List ℕ = with_part 0 (part 0 c.args.count (row (e_shown c.args.a.now) i)) (row A i) in
    let height = c.rows-rows.ensures.matrix.height in
    let inside = c.requires.in_rows in
    c.put.ensures
    ∙ ap (λ (V : EWindow). showing V (with_entry (content V) i i 1)) c.copy_part.ensures
    ∙ ap (showing W)
    (with_row-again A i xs (set (row (with_row A i xs) i) i 1)
    ∙ ap (λ (ys : List ℕ). with_row A i (set ys i 1)) (get_or-set_same A.entries i xs [] (omega (arith, height, inside))))
