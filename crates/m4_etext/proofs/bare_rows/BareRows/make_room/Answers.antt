use Rattle.std.proofs.Common.{◌≡◌, ◌+◌, refl, sym, ◌∙◌, ap, subst, arith}
use Rattle.m4_model.specs.Matrix.{Matrix}
use Rattle.m4_model.specs.Text.{IsWithinLimits}
use Rattle.m4_etext.specs.BareRows.{KeptRows, StandsForRows}
use Rattle.m4_etext.proofs.BareMoves.{bad_row_of_all, fewer_within, rows_longer}
use Rattle.m4_etext.proofs.bare_rows.BareRows.make_room.Goals as goal

pub returns-then-self-rows-clause-err : goal.returns-then-self-rows-clause-err
returns-then-self-rows-clause-err c = λ bytes stands more.
    let rows = ap (λ (k : KeptRows). k.matrix.rows) c.self.view_is in
    let row = ap (λ (k : KeptRows). k.row_next) c.self.view_is in
    bad_row_of_all c.args.self.now bytes stands c.args.rest.now more c.place.result (omega (arith, rows, row, c.rows-rows.ensures.rows)) c.requires.some c.requires.stops c.place.ensures

pub past_rows-requires-clause-most : goal.past_rows-requires-clause-most
past_rows-requires-clause-most c = λ limits.
    let k : KeptRows = c.args.self.now in
    let rows = ap (λ (k : KeptRows). k.matrix.rows) c.self.view_is in
    let wide : c.cols.result ≡ k.matrix.cols = c.cols.ensures.cols ∙ ap (λ (k : KeptRows). k.matrix.cols) c.self.view_is in
    let most = c.most_rows-most.result in
    c.most_rows-most.ensures.most (subst (IsWithinLimits 1 (most + 1)) (sym wide) (fewer_within (most + 1) (k.matrix.rows + 1) k.matrix.cols (omega (arith, rows, c.rows-rows.ensures.rows)) limits))

pub returns-clause-ok : goal.returns-clause-ok
returns-clause-ok c = λ bytes stands.
    let m = c.self.inside.m in
    let inner : KeptRows = record { matrix = c.self.inside.m; row_next = c.self.inside.row; place_next = c.self.inside.place } in
    let new : KeptRows = record { matrix = c.in_ok-self-inside.field-0; row_next = c.self.inside.row; place_next = c.self.inside.place } in
    let most = c.most_rows-most.result in
    let rows = c.rows-rows.ensures.rows in
    let more = c.min.ensures in
    let within = c.self.invariant in
    let limits = fewer_within (m.rows + c.min.result) most m.cols (omega (arith, rows, more)) (subst (IsWithinLimits 1 most) c.cols.ensures.cols c.most_rows-most.ensures.within) in
    rows_longer inner bytes (subst (λ (x : KeptRows). StandsForRows x bytes) (sym c.self.view_is) stands) new c.min.result (omega (arith, rows, more)) (omega (arith, rows, within.0)) limits
    c.in_ok-self-inside.ensures refl refl

pub returns-clause-more : goal.returns-clause-more
returns-clause-more c =
    let rows = c.rows-rows.ensures.rows in
    let same = ap (λ (k : KeptRows). k.matrix.rows) c.self.view_is in
    let more = c.min.ensures in
    let within = c.self.invariant in
    let longer = ap (λ (A : Matrix). A.rows) c.in_ok-self-inside.ensures in
    omega (arith, rows, same, more, within.2, longer)
