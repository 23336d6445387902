use Rattle.std.proofs.Common.{refl, ◌∙◌, ap}
use Rattle.m4_etext.specs.BareRows.{KeptRows}
use Rattle.m4_etext.proofs.BareMoves.{past_large, past_bad}
use Rattle.m4_etext.proofs.bare_rows.BareRows.past_rows.Goals as goal

pub returns-then-begins_row : goal.returns-then-begins_row
returns-then-begins_row c = λ bytes rest stands some first more.
    let wide = c.cols.ensures.cols ∙ ap (λ (k : KeptRows). k.matrix.cols) c.self.view_is in
    past_large c.args.self.now c.cols.result c.args.byte wide c.requires.all c.requires.most bytes rest stands some first more (c.if-begins_row.ensures.0 refl)

pub returns-else-begins_row : goal.returns-else-begins_row
returns-else-begins_row c = λ bytes rest stands some first more.
    let wide = c.cols.ensures.cols ∙ ap (λ (k : KeptRows). k.matrix.cols) c.self.view_is in
    past_bad c.args.self.now c.cols.result c.args.byte wide c.requires.all c.requires.most bytes rest stands some first more c.place.result c.place.ensures (λ begins. let no = c.if-begins_row.ensures.1 begins in absurd (cc (no)))
