use Rattle.m4_strassen.proofs.QuarterLemmas.{read_shape, read_joined}
use Rattle.m4_strassen.proofs.level.quarters.Goals as goal

pub returns-clause-shape : goal.returns-clause-shape
returns-clause-shape c =
    read_shape c.args.whole c.split_rows.result.0 c.split_rows.result.1
    (record { top_left = c.split_cols.result.0; top_right = c.split_cols.result.1; bottom_left = c.split_cols-2.result.0; bottom_right = c.split_cols-2.result.1 })
    c.args.r c.args.c c.requires.rows c.requires.cols c.split_rows.ensures.above c.split_rows.ensures.below
    c.split_cols.ensures.left c.split_cols.ensures.right c.split_cols-2.ensures.left c.split_cols-2.ensures.right

pub returns-clause-joined : goal.returns-clause-joined
returns-clause-joined c =
    read_joined c.args.whole c.split_rows.result.0 c.split_rows.result.1
    (record { top_left = c.split_cols.result.0; top_right = c.split_cols.result.1; bottom_left = c.split_cols-2.result.0; bottom_right = c.split_cols-2.result.1 })
    c.args.r c.args.c c.requires.rows c.requires.cols c.split_rows.ensures.above c.split_rows.ensures.below
    c.split_cols.ensures.left c.split_cols.ensures.right c.split_cols-2.ensures.left c.split_cols-2.ensures.right
