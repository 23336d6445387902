use Rattle.std.proofs.Common.{◌≡◌, ◌<◌, ℕ, ◌+◌, sym, ◌∙◌, ap, arith, List, [], length, drop, slice_index}
use Rattle.std.specs.List.{swap}
use Rattle.std.proofs.lemmas.List.{length-set, get_or-set_same}
use Rattle.m4_model.specs.Matrix.{row, with_row}
use Rattle.m4_model.specs.Shapes.{exchanged}
use Rattle.m4_mzed.specs.EWindow.{EWindow, content, showing}
use Rattle.m4_perm.proofs.OrderLemmas.{exchange_step, exchange_done}
use Rattle.m4_ple.proofs.ExchangedColumns.{with_row-again}
use Rattle.m4_ple.proofs.columns.exchange_in_row.Goals as goal

pub loop-k-preserved : goal.loop-k-preserved
loop-k-preserved c =
    let W = c.args.a.now in
    let A = content W in
    let i = c.args.i in
    let k = c.loop-k.k in
    let q = c.args.pivots.now in
    let B = content c.loop-k.a in
    let xs = row B i in
    let ys = swap xs k (slice_index q k) in
    let height = c.rows-rows.ensures.matrix.height in
    let long : length B.entries ≡ length A.entries = ap (λ (V : EWindow). length V.entries) c.loop-k.invariant.0 ∙ length-set A.entries i xs in
    let inside = c.requires.in_rows in
    let now : row (content c.swap_entries.new.a) i ≡ ys
    = ap (λ (V : EWindow). row (content V) i) c.swap_entries.ensures ∙ get_or-set_same B.entries i ys [] (omega (arith, long, height, inside)) in (
      c.swap_entries.ensures
          ∙ ap (λ (V : EWindow). showing V (with_row (content V) i ys)) c.loop-k.invariant.0
          ∙ ap (showing W) (with_row-again A i xs ys ∙ ap (with_row A i) (sym now)),
      ap (exchanged (k + 1) (drop (k + 1) q)) now ∙ sym (exchange_step k q xs (let e : k < length q = omega arith in e)) ∙ c.loop-k.invariant.1,
    )

pub returns : goal.returns
returns c =
    let W = c.args.a.now in
    let i = c.args.i in
    let xs = row (content c.loop-k.a) i in
    c.loop-k.invariant.0
    ∙ ap (λ (xs : List ℕ). showing W (with_row (content W) i xs))
    (sym (exchange_done c.loop-k.k c.args.pivots.now xs (omega arith)) ∙ c.loop-k.invariant.1)
