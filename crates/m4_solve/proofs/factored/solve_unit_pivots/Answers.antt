use Rattle.std.proofs.Common.{◌≡◌, ◌≤◌, ◌-◌, refl, ◌∙◌, subst, ap, take, map, length, arith}
use Rattle.m4_model.specs.Matrix.{Matrix, product}
use Rattle.m4_model.specs.Shapes.{cut}
use Rattle.m4_mzed.specs.ESeen.{e_shown}
use Rattle.m4_trsm.specs.Triangles.{unit_upper}
use Rattle.m4_trsm.proofs.Quarters.{shows_top_left}
use Rattle.m4_solve.proofs.Gathers.{first_gathered, unit_solved}
use Rattle.m4_solve.proofs.factored.solve_unit_pivots.Goals as goal

pub returns-then-are_first-clause-solved : goal.returns-then-are_first-clause-solved
returns-then-are_first-clause-solved g c =
    let W = c.args.matrix.now in
    let Y = c.args.y.now in
    let Z = c.solve_first_rows.new.y in
    let q = c.args.pivots.now in
    let k = length q in
    let rows = c.requires.rows in
    let rank_rows = c.requires.rank_rows in
    let in_rows : k ≤ W.rows = omega (arith, rows, rank_rows) in
    let triangle : e_shown c.narrow.result ≡ cut W 0 0 k k =
    c.narrow.ensures
    ∙ ap (λ (A : Matrix). record A { cols = k; entries = map (take k) A.entries })
    (c.split_rows.ensures.above ∙ ap (λ (A : Matrix). record A { rows = k; entries = take k A.entries }) c.all.ensures)
    ∙ shows_top_left W c.cols-cols.ensures.matrix k k in_rows c.requires.rank_cols in
    unit_solved W Y Z (cut W 0 0 k k) q c.solve_first_rows.ensures.shape
    (first_gathered W q c.cols-cols.ensures.matrix in_rows c.requires.rank_cols (c.if-are_first.ensures refl)) (k - 0) (omega arith)
    (subst (λ (T : Matrix). product (unit_upper T) (cut Z 0 0 T.rows Z.cols) ≡ cut Y 0 0 T.rows Y.cols) triangle c.solve_first_rows.ensures.solved)
