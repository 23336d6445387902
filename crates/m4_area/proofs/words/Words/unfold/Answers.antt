use Rattle.std.proofs.Common.{◌≡◌, ◌+◌, ◌*◌, ◌^◌, ◌<◌, arith, ap, sym, subst, ◌∙◌}
use Rattle.m4_area.specs.Tied.{rectangle}
use Rattle.m4_area.proofs.TiedLemmas.{tied_unfolded}
use Rattle.m4_area.proofs.words.Words.unfold.Goals as goal

pub invariant_of-result : goal.invariant_of-result
invariant_of-result c =
    let small = subst (λ v. v.skip + c.args.stride + v.rows * v.width < 2 ^ 60) (sym c.self.view_is) c.requires.small in
    tied_unfolded c.self.inside c.args.stride c.unfold.result c.self.invariant c.requires.some small c.unfold.ensures
