use Rattle.std.proofs.Common.{◌≡◌, ◌<◌, ◌≤◌, ◌⊎◌, inl, inr, ⊎_elim, ◌∙◌, ap, arith, set}
use Rattle.std.proofs.Math.Nat.{min-le_left, min-le_right, min-eq_left, min-eq_right}
use Rattle.std.proofs.lemmas.Bool.{cases_lt}
use Rattle.m4_model.specs.Matrix.{row, with_row}
use Rattle.m4_mzd.specs.Parts.{part, with_part}
use Rattle.m4_mzed.specs.EWindow.{EWindow, content, showing}
use Rattle.m4_mzed.specs.ESeen.{e_shown}
use Rattle.m4_ple.proofs.RowByRow.{done_to-start}
use Rattle.m4_ple.proofs.FactorParts.{lower_entry, lower_put, lowers_put}
use Rattle.m4_ple.proofs.factors.copy_lower.Goals as goal

pub loop-i-init : goal.loop-i-init
loop-i-init c =
    ap (showing c.args.all.now) (done_to-start (lower_entry c.args.rank (e_shown c.args.a.now)) (content c.args.all.now) c.rows-rows.ensures.matrix)

pub loop-i-preserved : goal.loop-i-preserved
loop-i-preserved c =
    let W = c.args.all.now in
    let A = e_shown c.args.a.now in
    let i = c.loop-i.i in
    let r = c.args.rank in
    let k = c.min.result in
    let least = c.min.ensures in
    let on_row = min-le_left i r in
    let in_rank = min-le_right i r in
    let room = c.requires.in_cols in
    let inside = c.loop-i-test.true in
    let rows = c.rows-i-end.ensures.rows in
    let side : (k ≡ i) ⊎ (k ≡ r) = ⊎_elim (λ (before : i < r). inl (least ∙ min-eq_left (omega (arith, before)))) (λ (past : r ≤ i). inr (least ∙ min-eq_right past)) (cases_lt i r) in
    c.copy_lower_row.ensures
    ∙ ap (λ (V : EWindow). showing V (with_row (content V) i (set (with_part 0 (part 0 k (row A i)) (row (content V) i)) i 1))) c.loop-i.invariant
    ∙ ap (showing W)
    (lower_put A.field r A (content W) c.requires.zeros i k c.rows-rows.ensures.matrix c.cols-cols.ensures.matrix (omega (arith, inside, rows))
    (omega (arith, least, on_row)) (omega (arith, least, in_rank)) (omega (arith, least, in_rank, room)) side)

pub returns : goal.returns
returns c =
    let A = e_shown c.args.a.now in
    let rows = c.rows-i-end.ensures.rows in
    c.loop-i.invariant ∙ ap (showing c.args.all.now) (lowers_put A.field c.args.rank A (content c.args.all.now) c.requires.zeros c.loop-i.i (omega (arith, rows)))
