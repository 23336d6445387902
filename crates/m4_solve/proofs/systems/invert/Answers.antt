use Rattle.std.proofs.Common.{◌∙◌, sym, subst, ap, length, min, arith}
use Rattle.std.proofs.Math.Nat.{min-le_left, min-le_right}
use Rattle.m4_model.specs.Matrix.{Matrix, HasShape, identity}
use Rattle.m4_model.specs.Shapes.{swaps}
use Rattle.m4_model.specs.Step.{reordered}
use Rattle.m4_mzd.specs.Reach.{IsReached}
use Rattle.m4_mzd.specs.declared.add_mul.Shape.{Shape}
use Rattle.m4_mzed.specs.ESeen.{e_shown}
use Rattle.m4_eple.specs.Halves.{IsBroughtUp}
use Rattle.m4_solve.specs.Factored.{IsFactored}
use Rattle.m4_solve.proofs.Reached.{reached_for}
use Rattle.m4_solve.proofs.Solved.{pivots_some, singular_is, inverse_is}
use Rattle.m4_solve.proofs.systems.invert.Goals as goal

pub new-requires-clause-reached : goal.new-requires-clause-reached
new-requires-clause-reached g c =
    let A = e_shown c.args.a.now in
    subst (λ (M : Matrix). IsReached (g.M.EAddMul.limits c.args.with.now.engine) M.rows (min M.rows M.cols) M.cols) (sym c.in_ok-copy.ensures)
    (reached_for (g.M.EAddMul.limits c.args.with.now.engine) A.rows A.cols A.rows (min A.rows A.cols) A.cols c.requires.serves.reached
    (omega arith) (min-le_left A.rows A.cols) (min-le_right A.rows A.cols) (omega arith))

pub bring_up-requires-clause-reached : goal.bring_up-requires-clause-reached
bring_up-requires-clause-reached g c =
    let A = e_shown c.args.a.now in
    let f = c.in_ok-factored.factored in
    let factored : IsFactored A f = subst (λ (M : Matrix). IsFactored M f) c.in_ok-copy.ensures c.in_ok-factored.ensures.factored in
    let square = c.requires.square in
    subst (λ (L : Shape). IsReached L c.in_ok-x.x.rows (length f.pivots.items) c.in_ok-x.x.cols) (sym c.in_ok-factored.ensures.reach)
    (subst (λ (M : Matrix). IsReached (g.M.EAddMul.limits c.args.with.now.engine) M.rows (length f.pivots.items) M.cols) (sym c.in_ok-x.ensures)
    (reached_for (g.M.EAddMul.limits c.args.with.now.engine) A.rows A.cols A.rows (length f.pivots.items) A.rows c.requires.serves.reached
    (omega arith) factored.few_rows factored.few_cols (omega (arith, square))))

pub solve_pivots-requires-clause-reached : goal.solve_pivots-requires-clause-reached
solve_pivots-requires-clause-reached g c =
    let A = e_shown c.args.a.now in
    let f = c.in_ok-factored.factored in
    let factored : IsFactored A f = subst (λ (M : Matrix). IsFactored M f) c.in_ok-copy.ensures c.in_ok-factored.ensures.factored in
    let cols = c.bring_up.ensures.shape.cols in
    let own = ap (λ (M : Matrix). M.cols) c.in_ok-x.ensures in
    let square = c.requires.square in
    subst (λ (L : Shape). IsReached L (length f.pivots.items) (length f.pivots.items) c.bring_up.new.y.cols) (sym (c.bring_up.ensures.reach ∙ c.in_ok-factored.ensures.reach))
    (reached_for (g.M.EAddMul.limits c.args.with.now.engine) A.rows A.cols (length f.pivots.items) (length f.pivots.items) c.bring_up.new.y.cols
    c.requires.serves.reached factored.few_rows factored.few_rows factored.few_cols (omega (arith, cols, own, square)))

pub solve_pivots-requires-clause-some : goal.solve_pivots-requires-clause-some
solve_pivots-requires-clause-some g c =
    let A = e_shown c.args.a.now in
    let f = c.in_ok-factored.factored in
    let factored : IsFactored A f = subst (λ (M : Matrix). IsFactored M f) c.in_ok-copy.ensures c.in_ok-factored.ensures.factored in
    pivots_some A f c.cols-n.ensures.matrix factored

pub returns-clause-inverse : goal.returns-clause-inverse
returns-clause-inverse g c =
    let A = e_shown c.args.a.now in
    let f = c.in_ok-factored.factored in
    let Y = c.bring_up.new.y in
    let Z = c.solve_pivots.new.y in
    let same = c.in_ok-x.ensures in
    let factored : IsFactored A f = subst (λ (M : Matrix). IsFactored M f) c.in_ok-copy.ensures c.in_ok-factored.ensures.factored in
    let y : HasShape A.field A.rows A.rows Y = subst (λ (M : Matrix). HasShape M.field M.rows M.cols Y) same c.bring_up.ensures.shape in
    let up : IsBroughtUp (length f.pivots.items) f.matrix (reordered (swaps A.rows f.exchanges.items) (identity A.field A.rows)) Y
    = subst (λ (M : Matrix). IsBroughtUp (length f.pivots.items) f.matrix (reordered (swaps M.rows f.exchanges.items) M) Y) same c.bring_up.ensures.up in
    let long = c.len.ensures in
    let width = c.cols-n.ensures.cols in
    let not_few = c.if-len-n.false in
    let all = f.pivots.ok.0 in
    inverse_is A f c.cols-n.ensures.matrix factored c.requires.square (omega (arith, long, width, not_few, all)) Y Z y up c.in_ok-solve_pivots.ensures.solved

pub returns-then-len-n-clause-inverse : goal.returns-then-len-n-clause-inverse
returns-then-len-n-clause-inverse g c =
    let A = e_shown c.args.a.now in
    let f = c.in_ok-factored.factored in
    let factored : IsFactored A f = subst (λ (M : Matrix). IsFactored M f) c.in_ok-copy.ensures c.in_ok-factored.ensures.factored in
    let long = c.len.ensures in
    let width = c.cols-n.ensures.cols in
    let few = c.if-len-n.true in
    let all = f.pivots.ok.0 in
    singular_is A f c.cols-n.ensures.matrix factored c.requires.square (omega (arith, long, width, few, all))
