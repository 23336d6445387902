use Rattle.std.proofs.Common.{ℕ, List, length, sym, ◌∙◌, ap, subst}
use Rattle.m4_model.specs.Headed.{Reads}
use Rattle.m4_etext.specs.Pieces.{Kept, StandsForLines}
use Rattle.m4_etext.proofs.Readers.{told_itself, head_short, lines_read_as}
use Rattle.m4_etext.proofs.reader.HeadedReader.finish.Goals as goal

pub returns-in-Told-clause-err : goal.returns-in-Told-clause-err
returns-in-Told-clause-err c = λ bytes stands.
    told_itself c.args.self bytes c.in-Told.fault (sym c.self.view_is ∙ c.in-Told.is) stands

pub returns-in-AtHead-clause-err : goal.returns-in-AtHead-clause-err
returns-in-AtHead-clause-err c = λ bytes stands.
    head_short c.args.self c.in-AtHead.head bytes c.len.result (sym c.self.view_is ∙ c.in-AtHead.is)
    (c.len.ensures ∙ ap length c.in-AtHead.head-is) stands

pub returns-in-Ok-clause-ok : goal.returns-in-Ok-clause-ok
returns-in-Ok-clause-ok c = λ bytes stands.
    lines_read_as c.args.self c.in-AtLines.lines bytes c.in-Ok.m (sym c.self.view_is ∙ c.in-AtLines.is) stands
    (subst (λ (k : Kept). (bytes : List ℕ) → StandsForLines k bytes → Reads bytes c.in-Ok.m) c.in-AtLines.lines-is c.in-Ok.ensures.ok)
