use Rattle.std.proofs.Common.{take, min, sym, subst, ap, ◌∙◌, arith}
use Rattle.m4_model.specs.Matrix.{Matrix}
use Rattle.m4_mzd.specs.Reach.{IsReached}
use Rattle.m4_mzed.specs.ESeen.{e_shown}
use Rattle.m4_elim.proofs.FactorsLemmas.{ple_made}
use Rattle.m4_elim.proofs.factors.ple_in_room.Goals as goal

pub ple_by_halves-rank-requires-clause-reached : goal.ple_by_halves-rank-requires-clause-reached
ple_by_halves-rank-requires-clause-reached g c =
    let A = c.args.a in
    subst (λ (M : Matrix). IsReached (g.M.EAddMul.limits c.args.with.now.engine) M.rows (min M.rows M.cols) M.cols) (sym c.all_mut-all.ensures.content)
    (c.requires.serves.reached (min A.rows A.cols) (omega arith) (omega arith))

pub returns : goal.returns
returns g c =
    let held = c.in_ok-factors.ensures in
    ple_made c.args.a (e_shown c.all.result) c.all_mut-all.result.0 c.ple_by_halves-rank.new.a c.all_mut-all.ensures.content c.ple_by_halves-rank.ensures.kept (c.all.ensures ∙ c.put_all.ensures)
    c.rows.result c.ple_by_halves-rank.new.p (take c.ple_by_halves-rank.result c.ple_by_halves-rank.new.q) c.in_ok-from_swaps.field-0 c.in_ok-from_slice.field-0.items
    c.in_ok-factors.factors.l c.in_ok-factors.factors.e c.ple_by_halves-rank.ensures.factors
    c.in_ok-from_swaps.ensures.list (c.rows.ensures.rows ∙ ap (λ (M : Matrix). M.rows) (sym c.all.ensures)) c.in_ok-from_slice.ensures.items
    (λ L E has_l has_e stored. held.l L E has_l has_e stored) (λ L E has_l has_e stored. held.e L E has_l has_e stored)
