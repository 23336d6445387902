use Rattle.std.proofs.Common.{◌∙◌, subst}
use Rattle.m4_model.specs.Matrix.{Matrix}
use Rattle.m4_solve.specs.Answers.{TellsInverse}
use Rattle.m4_erasure.specs.Shards.{powers_of}
use Rattle.m4_erasure.specs.Restored.{points_of}
use Rattle.m4_erasure.proofs.Points.{never_singular}
use Rattle.m4_erasure.proofs.powers.inverse_of_powers.Goals as goal

pub unreachable-requires : goal.unreachable-requires
unreachable-requires c =
    let powers : Matrix = powers_of (points_of c.args.shards.now) in
    let told : TellsInverse powers c.in_ok-found.field-0 =
    subst (λ (A : Matrix). TellsInverse A c.in_ok-found.field-0) (c.all.ensures ∙ c.in_ok-powers.ensures) c.in_ok-found.ensures.inverse in
    never_singular (points_of c.args.shards.now) c.requires.differing (subst (TellsInverse powers) c.in-Singular.is told)
