use Rattle.m4_mzd.proofs.HeldLemmas.{IsMatrix_held}
use Rattle.m4_mzd.proofs.mzd.Mzd.rows.Goals as goal

pub returns-clause-matrix : goal.returns-clause-matrix
returns-clause-matrix c = IsMatrix_held c.self.inside.words c.self.inside.cols c.args.self.now c.self.view_is c.self.invariant
