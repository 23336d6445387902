use Rattle.std.proofs.Common.{◌≡◌, arith, ap}
use Rattle.m4_area.proofs.TiedLemmas.{tied_left, tied_right}
use Rattle.m4_area.proofs.words.Words.split_words.Goals as goal

pub invariant_of-result : goal.invariant_of-result
invariant_of-result c =
    let width : c.self.inside.width ≡ c.args.self.width = ap (λ v. v.width) c.self.view_is in
    tied_left c.self.inside c.args.w c.cut_words-left.result.0 c.self.invariant (omega (arith, c.requires)) c.cut_words-left.ensures.left

pub invariant_of-result-2 : goal.invariant_of-result-2
invariant_of-result-2 c =
    let width : c.self.inside.width ≡ c.args.self.width = ap (λ v. v.width) c.self.view_is in
    tied_right c.self.inside c.args.w c.cut_words-left.result.1 c.self.invariant (omega (arith, c.requires)) c.cut_words-left.ensures.right
