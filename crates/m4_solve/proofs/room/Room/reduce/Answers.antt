use Rattle.std.proofs.Common.{◌≡◌, ℕ, List, ◌∙◌, sym, subst, take}
use Rattle.m4_model.specs.Matrix.{Matrix}
use Rattle.m4_mzed.specs.EWindow.{content}
use Rattle.m4_solve.specs.Reduction.{IsReducedAt}
use Rattle.m4_solve.proofs.Fronts.{front_back}
use Rattle.m4_solve.proofs.room.Room.reduce.Goals as goal

pub returns-clause-reduced : goal.returns-clause-reduced
returns-clause-reduced g c =
    let q = c.reduce_window-rank.new.q in
    let now : c.put_all-3.new.self ≡ content c.reduce_window-rank.new.a = c.put_all-3.ensures in
    subst (λ (pivots : List ℕ). IsReducedAt c.put_all-3.new.self c.args.a.now pivots)
    (sym (front_back c.reduce_window-rank.result c.args.self.now.pivots.len q _ c.reduce_window-rank.ensures.rank (c.reduce_window-rank.ensures.room ∙ c.deref_mut-2.ensures.len)))
    (subst (λ (R : Matrix). IsReducedAt R c.args.a.now (take c.reduce_window-rank.result q)) (sym now)
    (subst (λ (A : Matrix). IsReducedAt (content c.reduce_window-rank.new.a) A (take c.reduce_window-rank.result q)) c.all_mut-all.ensures.content c.reduce_window-rank.ensures.reduced))
