use Rattle.std.proofs.Common.{ap, arith, ◌∙◌}
use Rattle.m4_area.proofs.PartLemmas.{swapped_turned}
use Rattle.m4_area.proofs.words.Words.swap_rows.Goals as goal

pub returns-else-r-s : goal.returns-else-r-s
returns-else-r-s c =
    let v = c.args.self.now in
    c.swap_apart-else-r-s.ensures ∙ ap (λ ws. record v { words = ws }) (swapped_turned v.words c.args.r c.args.s (omega arith))
