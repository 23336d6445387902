use Rattle.std.proofs.Common.{◌≡◌, ◌+◌, ◌∙◌, length, refl, ap, sym, arith}
use Rattle.m4_model.specs.Field.{Field}
use Rattle.m4_model.specs.Matrix.{row, row_sum, with_row}
use Rattle.m4_mzed.specs.EWindow.{EWindow, content, showing}
use Rattle.m4_mzed.specs.ESeen.{e_shown}
use Rattle.m4_mzed.specs.Rows.{multiples}
use Rattle.m4_mzd.specs.Rows.{sum_from}
use Rattle.m4_trsm.proofs.RowSteps.{without_before, without_behind, row_twice}
use Rattle.m4_trsm.proofs.rows_of_right.take_multiple_out.Goals as goal

pub returns-in-Lower : goal.returns-in-Lower
returns-in-Lower c =
    let W = c.args.b.now in
    let T = e_shown c.args.t.now in
    let r = c.args.r in
    let j = c.args.j in
    let x = c.args.x in
    let xs = row (content W) r in
    let more = multiples W.field x (row T j) in
    let wide : length xs ≡ W.cols = c.rows-rows.ensures.matrix.width r c.requires.in_rows in
    rw c.in-Lower.is
    (c.add_tail.ensures
    ∙ ap (λ (w : EWindow). showing w (with_row (content w) r (sum_from j (row (content w) r) (multiples w.field x (row T j))))) c.add_multiple.ensures
    ∙ row_twice W r (row_sum xs more) (λ l. sum_from j l more) (omega (arith, c.rows-rows.ensures.matrix.height, c.requires.in_rows))
    ∙ ap (λ (F : Field). showing W (with_row (content W) r (sum_from j (row_sum xs (multiples F x (row T j))) (multiples F x (row T j))))) (sym c.requires.field)
    ∙ ap (λ l. showing W (with_row (content W) r l)) (without_before T xs j x c.rows-rows_of_t.ensures.matrix
    (omega (arith, wide, c.requires.fits)) (omega (arith, c.requires.square, c.requires.fits)) (omega (arith, wide)) c.requires.entry))

pub returns-in-Upper : goal.returns-in-Upper
returns-in-Upper c =
    let W = c.args.b.now in
    let T = e_shown c.args.t.now in
    let r = c.args.r in
    let j = c.args.j in
    let x = c.args.x in
    let xs = row (content W) r in
    let wide : length xs ≡ W.cols = c.rows-rows.ensures.matrix.width r c.requires.in_rows in
    rw c.in-Upper.is
    (c.add_tail-in-Upper.ensures
    ∙ ap (λ (F : Field). showing W (with_row (content W) r (sum_from (j + 1) xs (multiples F x (row T j))))) (sym c.requires.field)
    ∙ ap (λ l. showing W (with_row (content W) r l)) (without_behind T xs j x c.rows-rows_of_t.ensures.matrix
    (omega (arith, wide, c.requires.fits)) (omega (arith, c.requires.square, c.requires.fits)) (omega (arith, wide)) c.requires.entry))
