use Rattle.std.proofs.Common.{◌∙◌, sym}
use Rattle.m4_mzed.specs.EWindow.{content}
use Rattle.m4_solve.proofs.ScaledEquations.{row_stays}
use Rattle.m4_solve.proofs.ones.make_one.Goals as goal

pub returns-then-pivot-eq1-clause-scaled : goal.returns-then-pivot-eq1-clause-scaled
returns-then-pivot-eq1-clause-scaled c =
    row_stays (content c.args.a.now) (content c.args.y.now) c.args.c c.args.s c.rows-rows.ensures.matrix c.rows-rows_of_y.ensures.matrix c.requires.field c.requires.in_rows c.requires.in_right_sides
    c.requires.in_cols (sym c.get-pivot.ensures.value ∙ c.if-pivot-eq1.true)
