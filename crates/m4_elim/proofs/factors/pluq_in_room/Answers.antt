use Rattle.std.proofs.Common.{take, min, sym, subst, ap, ◌∙◌, arith}
use Rattle.m4_model.specs.Matrix.{Matrix}
use Rattle.m4_mzd.specs.Reach.{IsReached}
use Rattle.m4_mzed.specs.ESeen.{e_shown}
use Rattle.m4_elim.proofs.FactorsLemmas.{pluq_made}
use Rattle.m4_elim.proofs.factors.pluq_in_room.Goals as goal

pub pluq-rank-requires-clause-reached : goal.pluq-rank-requires-clause-reached
pluq-rank-requires-clause-reached g c =
    let A = c.args.a in
    subst (λ (M : Matrix). IsReached (g.M.EAddMul.limits c.args.with.now.engine) M.rows (min M.rows M.cols) M.cols) (sym c.all_mut-all.ensures.content)
    (c.requires.serves.reached (min A.rows A.cols) (omega arith) (omega arith))

pub returns : goal.returns
returns g c =
    let held = c.in_ok-factors.ensures in
    pluq_made c.args.a (e_shown c.all.result) c.all_mut-all.result.0 c.pluq-rank.new.a c.all_mut-all.ensures.content c.pluq-rank.ensures.kept (c.all.ensures ∙ c.put_all.ensures)
    c.rows.result c.cols.result c.pluq-rank.new.p (take c.pluq-rank.result c.pluq-rank.new.q) c.in_ok-from_swaps.field-0 c.in_ok-from_swaps-2.field-0 c.pluq-rank.result
    c.in_ok-factors.factors.l c.in_ok-factors.factors.e c.pluq-rank.ensures.factors
    c.in_ok-from_swaps.ensures.list (c.rows.ensures.rows ∙ ap (λ (M : Matrix). M.rows) (sym c.all.ensures))
    c.in_ok-from_swaps-2.ensures.list (c.cols.ensures.cols ∙ ap (λ (M : Matrix). M.cols) (sym c.all.ensures))
    (λ L U has_l has_u stored. held.l L U has_l has_u stored) (λ L U has_l has_u stored. held.u L U has_l has_u stored)
