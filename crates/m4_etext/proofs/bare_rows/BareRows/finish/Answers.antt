use Rattle.std.proofs.Common.{ℕ, sym, ◌∙◌, ap, ap₂, subst, arith}
use Rattle.m4_model.specs.Shapes.{cut}
use Rattle.m4_etext.specs.BareRows.{KeptRows, StandsForRows}
use Rattle.m4_etext.proofs.BareMoves.{short_row, rows_read}
use Rattle.m4_etext.proofs.bare_rows.BareRows.finish.Goals as goal

pub returns-then-self-gt0-clause-err : goal.returns-then-self-gt0-clause-err
returns-then-self-gt0-clause-err c = λ bytes stands.
    let place = ap (λ (k : KeptRows). k.place_next) c.self.view_is in
    short_row c.args.self bytes stands c.place.result (omega (arith, place)) c.place.ensures

pub returns-clause-ok : goal.returns-clause-ok
returns-clause-ok c = λ bytes stands.
    let inner : KeptRows = record { matrix = c.self.inside.m; row_next = c.self.inside.row; place_next = c.self.inside.place } in
    rows_read inner bytes (subst (λ (x : KeptRows). StandsForRows x bytes) (sym c.self.view_is) stands) c.in_ok-esub.field-0 (omega arith)
    (c.in_ok-esub.ensures ∙ ap₂ (λ A (n : ℕ). cut A 0 0 c.self.inside.row n) c.all.ensures c.cols.ensures.cols)
