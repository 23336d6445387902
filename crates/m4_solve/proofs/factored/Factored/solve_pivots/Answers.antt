use Rattle.std.proofs.Common.{◌<◌, ℕ, List, subst, length, slice_index, arith}
use Rattle.m4_solve.specs.Equations.{IsScaledEquation}
use Rattle.m4_solve.specs.Factored.{IsUnitSolved}
use Rattle.m4_solve.proofs.ScaledEquations.{back_solved_from}
use Rattle.m4_solve.proofs.factored.Factored.solve_pivots.Goals as goal

pub returns-clause-solved : goal.returns-clause-solved
returns-clause-solved g c =
    let W = c.args.self.now.matrix in
    let Y = c.args.y.now in
    let W1 = c.make_ones.new.a in
    let Y1 = c.make_ones.new.y in
    let Z = c.solve_unit_pivots.new.y in
    let q : List ℕ = c.args.self.now.pivots.items in
    let rows = c.requires.rows in
    let rank_rows = c.requires.rank_rows in
    back_solved_from W Y W1 Y1 Z q c.rows-rows.ensures.matrix c.rows-rows_of_y.ensures.matrix c.requires.field (omega (arith, rows, rank_rows)) rank_rows c.requires.in_cols
    (subst (λ (q : List ℕ). (s : ℕ) → s < length q → IsScaledEquation (slice_index q s) s W Y W1 Y1) c.deref.ensures.value c.make_ones.ensures.scaled)
    c.make_ones.ensures.shape c.make_ones.ensures.right_shape
    (subst (λ (q : List ℕ). IsUnitSolved W1 q Y1 Z) c.deref-2.ensures.value c.in_ok-solve_unit_pivots.ensures.solved)
