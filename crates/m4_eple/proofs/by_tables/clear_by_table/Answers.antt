use Rattle.std.proofs.Common.{◌≡◌, ℕ, ◌<◌, inl, inr, refl, sym, ◌∙◌, ap, subst, arith, List}
use Rattle.m4_model.specs.Matrix.{row, row_sum, with_row, at}
use Rattle.m4_model.proofs.FieldProofs.{field_laws}
use Rattle.m4_mzed.specs.EWindow.{EWindow, content, showing}
use Rattle.m4_mzed.specs.Rows.{multiples}
use Rattle.m4_ple.specs.Elimination.{cleared, cleared_row}
use Rattle.m4_ple.proofs.Clearing.{cleared-start, cleared-more, row-cleared_other, at-cleared_other}
use Rattle.m4_eple.proofs.ClearingLemmas.{cleared_by_multiple, cleared_row-same}
use Rattle.m4_eple.proofs.by_tables.clear_by_table.Goals as goal

pub loop-i-init : goal.loop-i-init
loop-i-init c =
    (omega arith, refl, λ inverse is. ap (showing c.args.a.now) (cleared-start inverse c.args.r c.args.c (content c.args.a.now) c.cols-cols.ensures.matrix))

pub loop-i-preserved : goal.loop-i-preserved
loop-i-preserved c =
    let W = c.args.a.now in
    let A = content W in
    let r = c.args.r in
    let k = c.args.c in
    let i = c.loop-i.i in
    let matrix = c.cols-cols.ensures.matrix in
    let low = c.loop-i.invariant.0 in
    let below : i < A.rows = omega (arith, c.loop-i-test.true) in
    let first : r < A.rows = c.requires.in_rows in
    let within = c.requires.in_cols in
    let V = c.loop-i.a in
    let add = λ (x : ℕ) (U : EWindow). showing U (with_row (content U) i (row_sum (row (content U) i) (multiples U.field x c.args.table.now.row))) in (
      omega (arith, low),
      c.add_multiple.ensures ∙ ap (add c.get-entry.result) c.loop-i.invariant.1 ∙ sym (ap (λ (U : EWindow). showing W (content U)) (c.add_multiple.ensures ∙ ap (add c.get-entry.result) c.loop-i.invariant.1)),
      λ inverse is.
          let B = cleared inverse r k i A in
          let so_far : V ≡ showing W B = c.loop-i.invariant.2 inverse is in
          let own : row B i ≡ row A i = row-cleared_other inverse r k A matrix i i below (inr (omega arith)) in
          let same_first : row B r ≡ row A r = row-cleared_other inverse r k A matrix i r first (inl (omega arith)) in
          let entry : c.get-entry.result ≡ at A i k
          = c.get-entry.ensures.value ∙ ap (λ (U : EWindow). at (content U) i k) so_far ∙ at-cleared_other inverse r k A i i k below within (inr (omega arith)) in
          let made : row_sum (row B i) (multiples A.field c.get-entry.result c.args.table.now.row) ≡ cleared_row inverse r k B i
          = ap (λ (xs : List ℕ). row_sum xs (multiples A.field c.get-entry.result c.args.table.now.row)) own
          ∙ ap (λ (x : ℕ). row_sum (row A i) (multiples A.field x c.args.table.now.row)) entry
          ∙ cleared_by_multiple A (field_laws A.field matrix.over_field) matrix inverse r k i c.args.table.now.row is first below c.requires.behind within (λ left. c.requires.blank i low below left)
          ∙ cleared_row-same inverse r k A B i refl refl own same_first in
          c.add_multiple.ensures ∙ ap (add c.get-entry.result) so_far
          ∙ ap (λ (xs : List ℕ). showing W (with_row B i xs)) made
          ∙ ap (showing W) (cleared-more inverse r k A i low below within),
    )

pub returns : goal.returns
returns c inverse is =
    let last : c.loop-i.i ≡ c.args.a.now.rows = omega arith in
    subst (λ (k : ℕ). c.loop-i.a ≡ showing c.args.a.now (cleared inverse c.args.r c.args.c k (content c.args.a.now))) last (c.loop-i.invariant.2 inverse is)
