use Rattle.m4_erasure.proofs.Points.{never_singular}
use Rattle.m4_erasure.proofs.laws.law_points.Goals as goal

pub returns : goal.returns
returns c = never_singular
