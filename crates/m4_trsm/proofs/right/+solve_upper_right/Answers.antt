use Rattle.std.proofs.Common.{refl, ap, ◌∙◌, arith}
use Rattle.m4_mzed.specs.ESeen.{e_shown}
use Rattle.m4_trsm.proofs.Windows.{before, behind}
use Rattle.m4_trsm.proofs.Solves.{written_once, written_twice, solved_upper_right}
use Rattle.m4_trsm.proofs.right.+solve_upper_right.Goals as goal

pub returns-clause-solved : goal.returns-clause-solved
returns-clause-solved g t c =
    let w = c.args.b.now in
    let k = c.half-cut.result in
    solved_upper_right w.field c.rows-rows.ensures.matrix.over_field (e_shown c.args.t.now) (e_shown c.quarters.result.0) (e_shown c.quarters.result.3) w.cols k
    (record {
      within = omega (arith, c.half-cut.ensures.less, c.cols-cols.ensures.cols, c.requires.fits);
      shape = record { is_matrix = c.cols-cols.ensures.matrix; over = c.requires.field; rows = c.requires.square ∙ c.requires.fits; cols = c.requires.fits };
      first = c.quarters.ensures.first;
      last = c.quarters.ensures.last;
    })
    w c.split_cols-left.result.0 c.split_cols-left.result.1 c.solve_upper_right.new.b c.solve_upper_right-2.new.b c.put_back.new.self refl refl
    (c.split_cols-left.ensures.left ∙ ap (λ u. before u k) c.take.ensures.whole) (c.split_cols-left.ensures.right ∙ ap (λ u. behind u k) c.take.ensures.whole)
    (written_once c.cols-before.ensures.matrix c.cols-before-2.ensures.matrix c.solve_upper_right.ensures.stays)
    (written_twice c.cols-behind.ensures.matrix c.cols-behind-2.ensures.matrix c.addmul.ensures.sum c.solve_upper_right-2.ensures.stays)
    (c.put_back.ensures ∙ c.join_cols.ensures)
    c.addmul.new.c (e_shown c.quarters.result.1) (e_shown c.see.result) c.quarters.ensures.right c.see.ensures c.solve_upper_right.ensures.solved c.addmul.ensures.sum c.solve_upper_right-2.ensures.solved
