use Rattle.std.proofs.Common.{ℕ, ◌-◌, sym, ◌∙◌, ap, arith, length, slice_index}
use Rattle.m4_model.specs.Matrix.{Matrix, row, with_row}
use Rattle.m4_mzed.specs.EWindow.{EWindow, content, showing}
use Rattle.m4_mzed.specs.ESeen.{e_shown}
use Rattle.m4_mzd.specs.Parts.{part, with_part}
use Rattle.m4_ple.specs.Parts.{echelon_entry}
use Rattle.m4_ple.proofs.RowByRow.{done_to, done_to-start}
use Rattle.m4_ple.proofs.FactorParts.{tail_put, tails_put}
use Rattle.m4_ple.proofs.factors.copy_tails.Goals as goal

pub loop-i-init : goal.loop-i-init
loop-i-init c =
    ap (showing c.args.all.now) (done_to-start (echelon_entry c.args.pivots.now (e_shown c.args.a.now)) (content c.args.all.now) c.rows-rows.ensures.matrix)

pub copy_part-requires : goal.copy_part-requires
copy_part-requires c =
    let rows = ap (λ (M : Matrix). M.rows) c.requires.zeros in
    let cols = ap (λ (M : Matrix). M.cols) c.requires.zeros in
    let room = c.requires.in_rows in
    let inside = c.loop-i-test.true in
    rw c.loop-i.invariant (record {
      in_rows = omega (arith, rows, room, inside);
      in_from = omega (arith, room, inside);
      in_cols = let within = c.requires.in_cols c.loop-i.i inside in let wide = c.cols-cols.ensures.cols in omega (arith, cols, within, wide);
      in_from_cols = let within = c.requires.in_cols c.loop-i.i inside in let wide = c.cols-cols.ensures.cols in omega (arith, within, wide);
      same_field = sym (ap (λ (M : Matrix). M.field) c.requires.zeros);
    })

pub loop-i-preserved : goal.loop-i-preserved
loop-i-preserved c =
    let W = c.args.all.now in
    let A = e_shown c.args.a.now in
    let q = c.args.pivots.now in
    let i = c.loop-i.i in
    let inside = c.loop-i-test.true in
    let room = c.requires.in_rows in
    let within = c.requires.in_cols i inside in
    let k = slice_index q i in
    let g = echelon_entry q A in
    c.copy_part.ensures
    ∙ ap (λ (V : EWindow). showing V (with_row (content V) i (with_part k (part k (c.cols-cols.result - k) (row A i)) (row (content V) i)))) c.loop-i.invariant
    ∙ ap (λ (m : ℕ). showing W (with_row (done_to g (content W) i) i (with_part k (part k (m - k) (row A i)) (row (done_to g (content W) i) i)))) c.cols-cols.ensures.cols
    ∙ ap (showing W) (tail_put (length q) (slice_index q) A (content W) c.requires.zeros i c.rows-rows.ensures.matrix c.cols-cols.ensures.matrix inside
    (omega (arith, inside, room)) (omega (arith, within)))

pub returns : goal.returns
returns c =
    let q = c.args.pivots.now in
    c.loop-i.invariant
    ∙ ap (showing c.args.all.now) (tails_put (length q) (slice_index q) (e_shown c.args.a.now) (content c.args.all.now) c.requires.zeros c.loop-i.i (omega arith))
