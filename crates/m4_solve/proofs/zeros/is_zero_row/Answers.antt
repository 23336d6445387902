use Rattle.std.proofs.Common.{◌≡◌, refl, sym, ◌∙◌, ap, arith}
use Rattle.m4_model.specs.Matrix.{Matrix, at}
use Rattle.m4_mzd.specs.Seen.{shown}
use Rattle.m4_mzed.specs.ESeen.{e_shown}
use Rattle.m4_solve.proofs.ZeroRows.{zeros_from, some_from}
use Rattle.m4_solve.proofs.zeros.is_zero_row.Goals as goal

pub returns-clause-zero : goal.returns-clause-zero
returns-clause-zero c zero j within =
    let A = e_shown c.args.y.now in
    let B = shown c.packed-bits.result in
    let same = c.packed-bits.ensures.elements in
    let rows : B.rows ≡ A.rows = ap (λ (M : Matrix). M.rows) same in
    let inside = c.requires in
    ap (λ (M : Matrix). at M c.args.i j) (sym same)
    ∙ zeros_from A.field A.cols B c.packed-bits.ensures.packed c.rows-rows_of_bits.ensures.matrix refl c.args.i (omega (arith, inside, rows)) (c.has_zero_words.ensures.zero zero) j within

pub returns-clause-some : goal.returns-clause-some
returns-clause-some c told =
    let A = e_shown c.args.y.now in
    let B = shown c.packed-bits.result in
    let same = c.packed-bits.ensures.elements in
    let rows : B.rows ≡ A.rows = ap (λ (M : Matrix). M.rows) same in
    let inside = c.requires in
    let bit = c.has_zero_words.ensures.some told in
    let found = some_from A.field A.cols B c.packed-bits.ensures.packed c.rows-rows_of_bits.ensures.matrix refl c.args.i (omega (arith, inside, rows)) bit.0 bit.1 bit.2 in
    (found.0, found.1, λ none. found.2 (ap (λ (M : Matrix). at M c.args.i found.0) same ∙ none))
