use Rattle.std.proofs.Common.{◌≡◌, ◌∙◌, sym, subst, arith, min, take, length-take}
use Rattle.m4_model.specs.Matrix.{Matrix, IsMatrix}
use Rattle.m4_model.specs.Rank.{ArePivots}
use Rattle.m4_model.proofs.FieldProofs.{field_laws}
use Rattle.m4_model.proofs.RankLemmas.{pivots_of_ple}
use Rattle.m4_mzd.specs.Reach.{IsReached}
use Rattle.m4_mzed.specs.EWindow.{content}
use Rattle.m4_mzed.specs.ESeen.{e_shown}
use Rattle.m4_solve.proofs.forms.rank.Goals as goal

pub returns-clause-rank : goal.returns-clause-rank
returns-clause-rank g c =
    let A = content c.all_mut-all.result.0 in
    let same : A ≡ e_shown c.args.a.now = c.all_mut-all.ensures.content ∙ c.in_ok-copy.ensures in
    let matrix : IsMatrix A = subst IsMatrix (sym same) c.rows.ensures.matrix in
    let held = c.ple_by_halves-rank.ensures.factors in
    let r = c.ple_by_halves-rank.result in
    let q = c.ple_by_halves-rank.new.q in
    let front = length-take r q in
    let within = c.ple_by_halves-rank.ensures.rank in
    let pivots = pivots_of_ple A _ (take r q) _ held.l held.e (field_laws A.field matrix.over_field) matrix held.factors in
    (take r q, subst (λ (M : Matrix). ArePivots M (take r q)) same pivots, omega (arith, front, within))

pub ple_by_halves-rank-requires-clause-reached : goal.ple_by_halves-rank-requires-clause-reached
ple_by_halves-rank-requires-clause-reached g c =
    let S = e_shown c.args.a.now in
    let same : content c.all_mut-all.result.0 ≡ S = c.all_mut-all.ensures.content ∙ c.in_ok-copy.ensures in
    subst (λ (M : Matrix). IsReached (g.M.EAddMul.limits c.args.with.now.engine) M.rows (min M.rows M.cols) M.cols) (sym same)
    (c.requires.serves.reached (min S.rows S.cols) (omega arith) (omega arith))
