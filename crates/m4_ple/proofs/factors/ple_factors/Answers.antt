use Rattle.std.proofs.Common.{ap}
use Rattle.m4_model.specs.Matrix.{Matrix}
use Rattle.std.proofs.Common.{sym, ◌∙◌}
use Rattle.m4_model.proofs.ShapeLemmas.{HasShape-own}
use Rattle.m4_model.proofs.ExchangeLemmas.{rising_room}
use Rattle.m4_mzed.specs.ESeen.{e_shown}
use Rattle.m4_ple.proofs.Echelons.{echelon_held}
use Rattle.m4_ple.proofs.FactorParts.{lower_stored}
use Rattle.m4_ple.proofs.factors.ple_factors.Goals as goal

pub lower_factor-requires-clause-in_cols : goal.lower_factor-requires-clause-in_cols
lower_factor-requires-clause-in_cols c = rising_room c.args.pivots.now (e_shown c.args.a.now).cols c.requires.rising c.requires.in_cols

pub returns-clause-l : goal.returns-clause-l
returns-clause-l c L E l e held =
    c.in_ok-l.ensures ∙ lower_stored (e_shown c.args.a.now) l c.args.pivots.now e c.requires.rising c.requires.in_cols held

pub returns-clause-e : goal.returns-clause-e
returns-clause-e c L E l e held =
    let A = e_shown c.args.a.now in
    c.in_ok-e.ensures ∙ sym (echelon_held c.args.pivots.now L E A e c.requires.rising (HasShape-own A c.cols-cols.ensures.matrix) held)

pub returns-clause-l_size : goal.returns-clause-l_size
returns-clause-l_size c = (ap (λ (M : Matrix). M.rows) c.in_ok-l.ensures, ap (λ (M : Matrix). M.cols) c.in_ok-l.ensures)

pub returns-clause-e_size : goal.returns-clause-e_size
returns-clause-e_size c = (ap (λ (M : Matrix). M.rows) c.in_ok-e.ensures, ap (λ (M : Matrix). M.cols) c.in_ok-e.ensures)
