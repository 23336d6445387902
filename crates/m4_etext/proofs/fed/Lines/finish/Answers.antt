use Rattle.std.proofs.Common.{ap, arith}
use Rattle.m4_etext.specs.Pieces.{Kept}
use Rattle.m4_etext.proofs.Pieces.{lines_short}
use Rattle.m4_etext.proofs.fed.Lines.finish.Goals as goal

pub returns-then-self-rows-clause-err : goal.returns-then-self-rows-clause-err
returns-then-self-rows-clause-err c = λ bytes stands.
    let row = ap (λ (x : Kept). x.row_next) c.self.view_is in
    let rows = ap (λ (x : Kept). x.matrix.rows) c.self.view_is in
    lines_short c.args.self bytes c.place.result stands c.place.ensures (omega (arith, c.rows.ensures.rows, row, rows))
