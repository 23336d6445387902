use Rattle.std.proofs.Common.{◌<◌, ℕ, List, refl, ◌∙◌, sym, subst, ap, length, slice_index, min, max, arith}
use Rattle.std.proofs.Math.Nat.{le-max_left, le-max_right, min-le_left, min-le_right}
use Rattle.m4_model.specs.Matrix.{Matrix, HasShape}
use Rattle.m4_model.specs.Shapes.{swaps}
use Rattle.m4_model.specs.Rank.{IsRising}
use Rattle.m4_model.specs.Step.{reordered}
use Rattle.m4_mzd.specs.Reach.{IsReached}
use Rattle.m4_mzd.specs.declared.add_mul.Shape.{Shape}
use Rattle.m4_mzed.specs.ESeen.{e_shown}
use Rattle.m4_eple.specs.Halves.{IsBroughtUp}
use Rattle.m4_solve.specs.Equations.{IsPlaced, IsZeroFrom}
use Rattle.m4_solve.specs.Factored.{IsFactored}
use Rattle.m4_solve.proofs.Reached.{reached_for}
use Rattle.m4_solve.proofs.Solved.{are_pivots, pivots_some, none_is, solution_is}
use Rattle.m4_solve.proofs.systems.solve.Goals as goal

pub new-requires-clause-reached : goal.new-requires-clause-reached
new-requires-clause-reached g c =
    let A = e_shown c.args.a.now in
    let B = e_shown c.args.b.now in
    let low = min-le_left A.rows A.cols in
    let wide = min-le_right A.rows A.cols in
    let left = le-max_left A.cols B.cols in
    subst (λ (M : Matrix). IsReached (g.M.EAddMul.limits c.args.with.now.engine) M.rows (min M.rows M.cols) M.cols) (sym c.in_ok-copy.ensures)
    (reached_for (g.M.EAddMul.limits c.args.with.now.engine) A.rows (max A.cols B.cols) A.rows (min A.rows A.cols) A.cols c.requires.serves.reached
    (omega arith) low (omega (arith, wide, left)) left)

pub bring_up-requires-clause-reached : goal.bring_up-requires-clause-reached
bring_up-requires-clause-reached g c =
    let A = e_shown c.args.a.now in
    let B = e_shown c.args.b.now in
    let f = c.in_ok-factored.factored in
    let factored : IsFactored A f = subst (λ (M : Matrix). IsFactored M f) c.in_ok-copy.ensures c.in_ok-factored.ensures.factored in
    let rows = c.requires.same_rows in
    let left = le-max_left A.cols B.cols in
    let few = factored.few_cols in
    subst (λ (L : Shape). IsReached L c.in_ok-y.y.rows (length f.pivots.items) c.in_ok-y.y.cols) (sym c.in_ok-factored.ensures.reach)
    (subst (λ (M : Matrix). IsReached (g.M.EAddMul.limits c.args.with.now.engine) M.rows (length f.pivots.items) M.cols) (sym c.in_ok-y.ensures)
    (reached_for (g.M.EAddMul.limits c.args.with.now.engine) A.rows (max A.cols B.cols) B.rows (length f.pivots.items) B.cols c.requires.serves.reached
    (omega (arith, rows)) factored.few_rows (omega (arith, few, left)) (le-max_right A.cols B.cols)))

pub returns-then-not-is_zero_from-clause-solution : goal.returns-then-not-is_zero_from-clause-solution
returns-then-not-is_zero_from-clause-solution g c =
    let A = e_shown c.args.a.now in
    let B = e_shown c.args.b.now in
    let f = c.in_ok-factored.factored in
    let Y = c.bring_up.new.y in
    let same = c.in_ok-y.ensures in
    let factored : IsFactored A f = subst (λ (M : Matrix). IsFactored M f) c.in_ok-copy.ensures c.in_ok-factored.ensures.factored in
    let b : HasShape A.field A.rows B.cols B = record { is_matrix = c.cols-cols.ensures.matrix; over = c.requires.same_field; rows = c.requires.same_rows; cols = refl } in
    let y : HasShape B.field B.rows B.cols Y = subst (λ (M : Matrix). HasShape M.field M.rows M.cols Y) same c.bring_up.ensures.shape in
    let up : IsBroughtUp (length f.pivots.items) f.matrix (reordered (swaps B.rows f.exchanges.items) B) Y
    = subst (λ (M : Matrix). IsBroughtUp (length f.pivots.items) f.matrix (reordered (swaps M.rows f.exchanges.items) M) Y) same c.bring_up.ensures.up in
    let some = c.if-not-is_zero_from.ensures.some refl in
    let low = some.2 in
    let long = c.len.ensures in
    let all = f.pivots.ok.0 in
    none_is A f c.rows-rows.ensures.matrix factored B Y b y up some.0 some.1 (omega (arith, low, long, all)) some.3 some.4 some.5

pub solve_pivots-requires-clause-reached : goal.solve_pivots-requires-clause-reached
solve_pivots-requires-clause-reached g c =
    let A = e_shown c.args.a.now in
    let B = e_shown c.args.b.now in
    let f = c.in_ok-factored.factored in
    let factored : IsFactored A f = subst (λ (M : Matrix). IsFactored M f) c.in_ok-copy.ensures c.in_ok-factored.ensures.factored in
    let cols = c.bring_up.ensures.shape.cols in
    let own = ap (λ (M : Matrix). M.cols) c.in_ok-y.ensures in
    let left = le-max_left A.cols B.cols in
    let right = le-max_right A.cols B.cols in
    let few = factored.few_cols in
    subst (λ (L : Shape). IsReached L (length f.pivots.items) (length f.pivots.items) c.bring_up.new.y.cols) (sym (c.bring_up.ensures.reach ∙ c.in_ok-factored.ensures.reach))
    (reached_for (g.M.EAddMul.limits c.args.with.now.engine) A.rows (max A.cols B.cols) (length f.pivots.items) (length f.pivots.items) c.bring_up.new.y.cols
    c.requires.serves.reached factored.few_rows factored.few_rows (omega (arith, few, left)) (omega (arith, cols, own, right)))

pub solve_pivots-requires-clause-some : goal.solve_pivots-requires-clause-some
solve_pivots-requires-clause-some g c =
    let A = e_shown c.args.a.now in
    let f = c.in_ok-factored.factored in
    let factored : IsFactored A f = subst (λ (M : Matrix). IsFactored M f) c.in_ok-copy.ensures c.in_ok-factored.ensures.factored in
    pivots_some A f c.rows-rows.ensures.matrix factored

pub placed-requires-clause-rising : goal.placed-requires-clause-rising
placed-requires-clause-rising g c =
    let A = e_shown c.args.a.now in
    let f = c.in_ok-factored.factored in
    let factored : IsFactored A f = subst (λ (M : Matrix). IsFactored M f) c.in_ok-copy.ensures c.in_ok-factored.ensures.factored in
    subst IsRising (sym (c.as_slice.ensures.value ∙ c.solve_pivots.ensures.pivots)) (are_pivots A f c.rows-rows.ensures.matrix factored).rising

pub placed-requires-clause-below : goal.placed-requires-clause-below
placed-requires-clause-below g c =
    let A = e_shown c.args.a.now in
    let f = c.in_ok-factored.factored in
    let factored : IsFactored A f = subst (λ (M : Matrix). IsFactored M f) c.in_ok-copy.ensures c.in_ok-factored.ensures.factored in
    subst (λ (n : ℕ). (s : ℕ) → s < length c.as_slice.result.now → slice_index c.as_slice.result.now s < n) (sym c.cols.ensures.cols)
    (subst (λ (q : List ℕ). (s : ℕ) → s < length q → slice_index q s < A.cols) (sym (c.as_slice.ensures.value ∙ c.solve_pivots.ensures.pivots)) factored.in_cols)

pub returns-clause-solution : goal.returns-clause-solution
returns-clause-solution g c =
    let A = e_shown c.args.a.now in
    let B = e_shown c.args.b.now in
    let f = c.in_ok-factored.factored in
    let Y = c.bring_up.new.y in
    let Z = c.solve_pivots.new.y in
    let same = c.in_ok-y.ensures in
    let factored : IsFactored A f = subst (λ (M : Matrix). IsFactored M f) c.in_ok-copy.ensures c.in_ok-factored.ensures.factored in
    let b : HasShape A.field A.rows B.cols B = record { is_matrix = c.cols-cols.ensures.matrix; over = c.requires.same_field; rows = c.requires.same_rows; cols = refl } in
    let y : HasShape B.field B.rows B.cols Y = subst (λ (M : Matrix). HasShape M.field M.rows M.cols Y) same c.bring_up.ensures.shape in
    let up : IsBroughtUp (length f.pivots.items) f.matrix (reordered (swaps B.rows f.exchanges.items) B) Y
    = subst (λ (M : Matrix). IsBroughtUp (length f.pivots.items) f.matrix (reordered (swaps M.rows f.exchanges.items) M) Y) same c.bring_up.ensures.up in
    let none_left : IsZeroFrom (length f.pivots.items) Y = λ i j low below within. c.if-not-is_zero_from.ensures.zero refl i j (let long = c.len.ensures in let all = f.pivots.ok.0 in omega (arith, low, long, all)) below within in
    let placed : IsPlaced Z f.pivots.items A.cols c.in_ok-x.x
    = subst (λ (n : ℕ). IsPlaced Z f.pivots.items n c.in_ok-x.x) c.cols.ensures.cols
    (subst (λ (q : List ℕ). IsPlaced Z q c.cols.result c.in_ok-x.x) (c.as_slice.ensures.value ∙ c.solve_pivots.ensures.pivots) c.in_ok-x.ensures) in
    solution_is A f c.rows-rows.ensures.matrix factored B Y b y up Z c.in_ok-x.x none_left c.in_ok-solve_pivots.ensures.solved placed
