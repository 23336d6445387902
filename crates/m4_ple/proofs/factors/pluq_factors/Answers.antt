use Rattle.std.proofs.Common.{ap}
use Rattle.m4_model.specs.Matrix.{Matrix}
use Rattle.std.proofs.Common.{refl, ◌∙◌}
use Rattle.m4_mzed.specs.ESeen.{e_shown}
use Rattle.m4_ple.proofs.FactorParts.{lower_stored_pluq, upper_stored}
use Rattle.m4_ple.proofs.factors.pluq_factors.Goals as goal

pub returns-clause-l : goal.returns-clause-l
returns-clause-l c L U l u held = c.in_ok-l.ensures ∙ lower_stored_pluq (e_shown c.args.a.now) l c.args.r u c.requires.in_cols held

pub returns-clause-u : goal.returns-clause-u
returns-clause-u c L U l u held = c.in_ok-e.ensures ∙ upper_stored c.args.r L U (e_shown c.args.a.now) u refl refl refl held

pub returns-clause-l_size : goal.returns-clause-l_size
returns-clause-l_size c = (ap (λ (M : Matrix). M.rows) c.in_ok-l.ensures, ap (λ (M : Matrix). M.cols) c.in_ok-l.ensures)

pub returns-clause-u_size : goal.returns-clause-u_size
returns-clause-u_size c = (ap (λ (M : Matrix). M.rows) c.in_ok-e.ensures, ap (λ (M : Matrix). M.cols) c.in_ok-e.ensures)
