use Rattle.std.proofs.Common.{◌≡◌, arith, ap}
use Rattle.m4_area.proofs.TiedLemmas.{tied_below}
use Rattle.m4_area.proofs.words.Words.split_rows.Goals as goal

pub invariant_of-result-2 : goal.invariant_of-result-2
invariant_of-result-2 c =
    let rows : c.self.inside.rows ≡ c.args.self.rows = ap (λ v. v.rows) c.self.view_is in
    tied_below c.self.inside c.args.r c.cut_rows-above.result.1 c.self.invariant (omega (arith, c.requires)) c.cut_rows-above.ensures.below
