use Rattle.std.proofs.Common.{refl, ap, ◌∙◌, arith}
use Rattle.m4_mzed.specs.EWindow.{EWindow, content}
use Rattle.m4_mzed.specs.ESeen.{e_shown}
use Rattle.m4_trsm.proofs.Triangles.{solved_right}
use Rattle.m4_trsm.proofs.by_rows.solve_right.Goals as goal

pub returns-clause-solved : goal.returns-clause-solved
returns-clause-solved c =
    let w = c.args.b.now in
    let now = c.loop-r in
    solved_right w.field c.rows-rows.ensures.matrix.over_field c.args.side (e_shown c.args.t.now) w.cols
    (record { is_matrix = c.rows-rows_of_t.ensures.matrix; over = c.requires.field; rows = c.requires.square ∙ c.requires.fits; cols = c.requires.fits })
    w.rows (content now.b) (content w)
    (record {
      is_matrix = c.rows-rows_after.ensures.matrix;
      over = ap (λ (x : EWindow). x.field) now.invariant.stays;
      rows = ap (λ (x : EWindow). x.rows) now.invariant.stays;
      cols = ap (λ (x : EWindow). x.cols) now.invariant.stays;
    })
    (record { is_matrix = c.rows-rows.ensures.matrix; over = refl; rows = refl; cols = refl })
    (λ i below. now.invariant.solved i (omega (arith, c.rows-r-end.ensures.rows)))
