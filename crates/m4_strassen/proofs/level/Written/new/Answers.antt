use Rattle.m4_strassen.proofs.QuarterLemmas.{written_shape, written_joined, written_back}
use Rattle.m4_strassen.proofs.level.Written.new.Goals as goal

pub returns-clause-shape : goal.returns-clause-shape
returns-clause-shape c =
    written_shape c.args.whole (record { top_left = c.quarter-top_left.result.0; top_right = c.quarter-top_left.result.1; bottom_left = c.quarter-top_left.result.2; bottom_right = c.quarter-top_left.result.3 }) c.args.r c.args.c
    c.rows-rows.ensures.shape c.requires.rows c.requires.cols
    c.quarter-top_left.ensures.top_left c.quarter-top_left.ensures.top_right c.quarter-top_left.ensures.bottom_left c.quarter-top_left.ensures.bottom_right
    c.rows-first.ensures.shape c.rows-second.ensures.shape c.rows-third.ensures.shape c.rows-fourth.ensures.shape

pub returns-clause-joined : goal.returns-clause-joined
returns-clause-joined c =
    written_joined c.args.whole (record { top_left = c.quarter-top_left.result.0; top_right = c.quarter-top_left.result.1; bottom_left = c.quarter-top_left.result.2; bottom_right = c.quarter-top_left.result.3 }) c.args.r c.args.c
    c.rows-rows.ensures.shape c.requires.rows c.requires.cols
    c.quarter-top_left.ensures.top_left c.quarter-top_left.ensures.top_right c.quarter-top_left.ensures.bottom_left c.quarter-top_left.ensures.bottom_right
    c.rows-first.ensures.shape c.rows-second.ensures.shape c.rows-third.ensures.shape c.rows-fourth.ensures.shape

pub returns-clause-back : goal.returns-clause-back
returns-clause-back c =
    written_back c.args.whole (record { top_left = c.quarter-top_left.result.0; top_right = c.quarter-top_left.result.1; bottom_left = c.quarter-top_left.result.2; bottom_right = c.quarter-top_left.result.3 }) c.args.r c.args.c
    c.rows-rows.ensures.shape c.requires.rows c.requires.cols
    c.quarter-top_left.ensures.top_left c.quarter-top_left.ensures.top_right c.quarter-top_left.ensures.bottom_left c.quarter-top_left.ensures.bottom_right
    c.rows-first.ensures.shape c.rows-second.ensures.shape c.rows-third.ensures.shape c.rows-fourth.ensures.shape
