use Rattle.std.proofs.Common.{◌≡◌, ◌∙◌, ap, arith, ℕ, [], List, replicate}
use Rattle.std.proofs.lemmas.List.{get_or-set_same}
use Rattle.m4_model.specs.Matrix.{Matrix, row, with_row}
use Rattle.m4_mzd.specs.Parts.{part, with_part}
use Rattle.m4_mzed.specs.EWindow.{content, showing}
use Rattle.m4_mzed.specs.ESeen.{e_shown}
use Rattle.m4_ple.proofs.Echelons.{front_cleared}
use Rattle.m4_ple.proofs.echelon.keep_tail.Goals as goal

pub returns-clause-row : goal.returns-clause-row
returns-clause-row c =
    let W = c.args.a.now in
    let A = content W in
    let i = c.args.i in
    let k = c.args.c in
    let zeros : List ℕ = replicate c.args.spare.now.cols 0 in
    let height = c.rows-spare.ensures.matrix.height in
    let one = c.requires.one_row in
    let width = c.requires.same_cols in
    let within = c.requires.in_cols in
    let cleared : row (e_shown c.see.result) 0 ≡ zeros
    = ap (λ (M : Matrix). row M 0) (c.see.ensures ∙ ap content c.clear_row.ensures)
    ∙ get_or-set_same c.args.spare.now.entries 0 zeros [] (omega (arith, height, one)) in
    c.copy_part.ensures
    ∙ ap (λ xs. showing W (with_row A i (with_part 0 (part 0 k xs) (row A i)))) cleared
    ∙ ap (λ xs. showing W (with_row A i xs)) (front_cleared k c.args.spare.now.cols (row A i) (omega (arith, within, width)))
