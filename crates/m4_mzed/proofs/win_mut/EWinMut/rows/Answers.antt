use Rattle.std.proofs.Common.{subst}
use Rattle.m4_model.specs.Matrix.{IsMatrix}
use Rattle.m4_field.specs.Fields.{the_field}
use Rattle.m4_mzed.specs.EWindow.{EWindow, content}
use Rattle.m4_mzed.proofs.PartLemmas.{packed_matrix}
use Rattle.m4_mzed.proofs.win_mut.EWinMut.rows.Goals as goal

pub returns-clause-matrix : goal.returns-clause-matrix
returns-clause-matrix c =
    let P : EWindow → Type 0 = λ w. IsMatrix (content w) in
    subst P c.self.view_is (packed_matrix (the_field c.self.inside.field) c.self.inside.cols c.self.inside.bits c.self.invariant)
