use Rattle.std.proofs.Common.{◌≡◌, ◌<◌, ◌∙◌, refl, ap, sym, arith}
use Rattle.m4_model.specs.Matrix.{row, row_sum, with_row}
use Rattle.m4_mzed.specs.EWindow.{EWindow, content, showing}
use Rattle.m4_mzed.specs.ESeen.{e_shown}
use Rattle.m4_mzed.specs.Rows.{multiples}
use Rattle.m4_trsm.proofs.RowSteps.{added_where, added_where-none, added_where-more, added_where-zero, added_where-all}
use Rattle.m4_trsm.proofs.rows_of_left.add_where.Goals.{then-x-ne0, else-x-ne0}
use Rattle.m4_trsm.proofs.rows_of_left.add_where.Goals as goal

pub loop-r-init : goal.loop-r-init
loop-r-init c =
    let W = c.args.rows.now in
    let m = c.rows-r-end.ensures.matrix in
    ap (showing W) (added_where-none W.field m.over_field (content W) (e_shown c.args.from.now) (e_shown c.args.t.now) c.args.first c.args.column c.args.s
    m refl c.rows-rows.ensures.matrix c.requires.same_cols c.requires.in_from)

pub loop-r-preserved : goal.loop-r-preserved
loop-r-preserved c =
    let W = c.args.rows.now in
    let K = W.field in
    let m = c.rows-r-end.ensures.matrix in
    let C = content W in
    let F = e_shown c.args.from.now in
    let T = e_shown c.args.t.now in
    let r = c.loop-r.r in
    let below : r < C.rows = omega (arith, c.rows-r-end.ensures.rows) in
    elim c.if-x-ne0.branch [
      | then-x-ne0 w ↦
          w.rows-is ∙ (w.add_multiple.ensures
          ∙ (ap (λ (L : EWindow). showing L (with_row (content L) r (row_sum (row (content L) r) (multiples L.field c.get-x.result (row F c.args.s))))) c.loop-r.invariant
          ∙ ap (showing W)
          (added_where-more K m.over_field C F T c.args.first c.args.column c.args.s m refl c.rows-rows.ensures.matrix c.requires.same_cols c.requires.in_from
          r c.get-x.result below (sym c.get-x.ensures.value))))
      | else-x-ne0 w ↦
          let none : c.get-x.result ≡ 0 = omega (arith, w.if-x-ne0.false) in
          w.rows-is ∙ (c.loop-r.invariant
          ∙ ap (showing W)
          (added_where-zero K m.over_field C F T c.args.first c.args.column c.args.s m refl c.rows-rows.ensures.matrix c.requires.same_cols c.requires.in_from
          r below (sym c.get-x.ensures.value ∙ none)))
    ]

pub returns : goal.returns
returns c =
    let W = c.args.rows.now in
    let m = c.rows-r-end.ensures.matrix in
    c.loop-r.invariant
    ∙ ap (showing W) (added_where-all W.field m.over_field (content W) (e_shown c.args.from.now) (e_shown c.args.t.now) c.args.first c.args.column c.args.s
    m refl c.rows-rows.ensures.matrix c.requires.same_cols c.requires.in_from
    c.loop-r.r (omega (arith, c.rows-r-end.ensures.rows)))
