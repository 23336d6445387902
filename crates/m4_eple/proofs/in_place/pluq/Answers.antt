use Rattle.std.proofs.Common.{◌≡◌, ℕ, ◌∙◌, sym, subst, ap, arith, take, length, length-take}
use Rattle.m4_model.specs.Matrix.{Matrix}
use Rattle.m4_model.specs.Shapes.{swaps}
use Rattle.m4_model.proofs.FieldProofs.{field_laws}
use Rattle.m4_model.proofs.ExchangeLemmas.{rising_room, rising-at_least}
use Rattle.m4_model.proofs.RankLemmas.{pivots_of_ple}
use Rattle.m4_mzed.specs.EWindow.{EWindow, content, showing}
use Rattle.m4_ple.specs.Columns.{with_exchanged}
use Rattle.m4_ple.specs.Held.{HoldsPluq}
use Rattle.m4_ple.proofs.ExchangedColumns.{pluq_held}
use Rattle.m4_eple.proofs.in_place.pluq.Goals as goal

pub exchange_columns-requires-clause-in_rows : goal.exchange_columns-requires-clause-in_rows
exchange_columns-requires-clause-in_rows g c =
    let held = c.ple_by_halves-rank.ensures.factors in
    let within = held.factors.e_form.within in
    let rows = held.factors.e_shape.rows in
    let same = ap (λ (V : EWindow). V.rows) c.ple_by_halves-rank.ensures.kept in
    omega (arith, within, rows, same)

pub exchange_columns-requires-clause-room : goal.exchange_columns-requires-clause-room
exchange_columns-requires-clause-room g c =
    let held = c.ple_by_halves-rank.ensures.factors in
    let room = rising_room (take c.ple_by_halves-rank.result c.ple_by_halves-rank.new.q) held.e.cols held.factors.e_form.rising held.factors.e_form.columns in
    let cols = held.factors.e_shape.cols in
    let same = ap (λ (V : EWindow). V.cols) c.ple_by_halves-rank.ensures.kept in
    omega (arith, room, cols, same)

pub exchange_columns-requires-clause-in_cols : goal.exchange_columns-requires-clause-in_cols
exchange_columns-requires-clause-in_cols g c k inside =
    let held = c.ple_by_halves-rank.ensures.factors in
    let low = held.factors.e_form.columns k inside in
    let cols = held.factors.e_shape.cols in
    let same = ap (λ (V : EWindow). V.cols) c.ple_by_halves-rank.ensures.kept in
    omega (arith, low, cols, same)

pub returns-clause-kept : goal.returns-clause-kept
returns-clause-kept g c =
    let q = take c.ple_by_halves-rank.result c.ple_by_halves-rank.new.q in
    c.exchange_columns.ensures
    ∙ ap (λ (V : EWindow). showing V (with_exchanged q (length q) (content c.ple_by_halves-rank.new.a))) c.ple_by_halves-rank.ensures.kept
    ∙ ap (showing c.args.a.now) (sym (ap content c.exchange_columns.ensures))

pub returns-clause-factors : goal.returns-clause-factors
returns-clause-factors g c =
    let A = content c.args.a.now in
    let r = c.ple_by_halves-rank.result in
    let q = take r c.ple_by_halves-rank.new.q in
    let front = length-take r c.ple_by_halves-rank.new.q in
    let within = c.ple_by_halves-rank.ensures.rank in
    let long : length q ≡ r = omega (arith, front, within) in
    subst (λ (W : Matrix). HoldsPluq A (swaps A.rows c.ple_by_halves-rank.new.p) (swaps A.cols q) r W) (sym (ap content c.exchange_columns.ensures))
    (subst (λ (k : ℕ). HoldsPluq A (swaps A.rows c.ple_by_halves-rank.new.p) (swaps A.cols q) k (with_exchanged q (length q) (content c.ple_by_halves-rank.new.a))) long
    (pluq_held A (content c.ple_by_halves-rank.new.a) (swaps A.rows c.ple_by_halves-rank.new.p) q (field_laws A.field c.rows-rows.ensures.matrix.over_field) c.rows-rows.ensures.matrix c.ple_by_halves-rank.ensures.factors))

pub returns-clause-columns : goal.returns-clause-columns
returns-clause-columns g c =
    let held = c.ple_by_halves-rank.ensures.factors in
    let form = held.factors.e_form in
    let q = take c.ple_by_halves-rank.result c.ple_by_halves-rank.new.q in
    let cols = held.factors.e_shape.cols in
    let room = rising_room q held.e.cols form.rising form.columns in
    record {
      count = omega (arith, room, cols);
      behind = λ i inside. rising-at_least q i form.rising inside;
      below = λ i inside. let low = form.columns i inside in omega (arith, low, cols);
    }

pub returns-clause-pivots : goal.returns-clause-pivots
returns-clause-pivots g c =
    let A = content c.args.a.now in
    let held = c.ple_by_halves-rank.ensures.factors in
    let q = take c.ple_by_halves-rank.result c.ple_by_halves-rank.new.q in
    pivots_of_ple A _ q _ held.l held.e (field_laws A.field c.rows-rows.ensures.matrix.over_field) c.rows-rows.ensures.matrix held.factors
