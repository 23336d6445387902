use Rattle.std.proofs.Common.{◌≡◌, ◌+◌, ◌*◌, arith, ap, ◌∙◌}
use Rattle.m4_area.proofs.TiedLemmas.{tied_folded}
use Rattle.m4_area.proofs.words.Words.fold.Goals as goal

pub invariant_of-result : goal.invariant_of-result
invariant_of-result c =
    let one : c.self.inside.rows ≡ 1 = ap (λ v. v.rows) c.self.view_is ∙ c.requires.one_row in
    let width : c.self.inside.width ≡ c.args.self.width = ap (λ v. v.width) c.self.view_is in
    let skip : c.self.inside.skip ≡ c.args.self.skip = ap (λ v. v.skip) c.self.view_is in
    tied_folded c.self.inside c.args.rows c.args.width c.max-stride.result c.fold.result c.self.invariant one (width ∙ c.requires.all_words)
    (omega (arith, c.requires.small)) c.max-stride.ensures c.fold.ensures
