use Rattle.m4_mzd.proofs.SeenLemmas.{IsMatrix_shown}
use Rattle.m4_mzd.proofs.win.Win.rows.Goals as goal

pub returns-clause-matrix : goal.returns-clause-matrix
returns-clause-matrix c = IsMatrix_shown c.args.self.now
