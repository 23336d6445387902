use Rattle.std.proofs.Common.{◌-◌, ◌≤◌, take, drop, map, ap, ◌∙◌, arith}
use Rattle.m4_model.specs.Matrix.{Matrix}
use Rattle.m4_mzed.specs.ESeen.{e_shown}
use Rattle.m4_trsm.proofs.Quarters.{shows_top_left, shows_top_right, shows_bottom_left, shows_bottom_right}
use Rattle.m4_trsm.proofs.parts.quarters.Goals as goal
use Rattle.m4_trsm.proofs.parts.quarters.Goals.{After-rows-rows}

in_cols : (c : After-rows-rows) → c.args.k ≤ (e_shown c.args.t).cols
in_cols c = omega (arith, c.requires.square, c.requires.within)

pub returns-clause-first : goal.returns-clause-first
returns-clause-first c =
    let k = c.args.k in
    let start = (goal.at.returns-clause-first c).After-rows-rows in
    c.split_cols.ensures.left
    ∙ ap (λ (A : Matrix). record A { cols = k; entries = map (take k) A.entries }) c.split_rows.ensures.above
    ∙ shows_top_left (e_shown c.args.t) start.rows-rows.ensures.matrix k k c.requires.within (in_cols start)

pub returns-clause-right : goal.returns-clause-right
returns-clause-right c =
    let k = c.args.k in
    let start = (goal.at.returns-clause-right c).After-rows-rows in
    c.split_cols.ensures.right
    ∙ ap (λ (A : Matrix). record A { cols = A.cols - k; entries = map (drop k) A.entries }) c.split_rows.ensures.above
    ∙ shows_top_right (e_shown c.args.t) start.rows-rows.ensures.matrix k k c.requires.within (in_cols start)

pub returns-clause-below : goal.returns-clause-below
returns-clause-below c =
    let k = c.args.k in
    let start = (goal.at.returns-clause-below c).After-rows-rows in
    c.split_cols-2.ensures.left
    ∙ ap (λ (A : Matrix). record A { cols = k; entries = map (take k) A.entries }) c.split_rows.ensures.below
    ∙ shows_bottom_left (e_shown c.args.t) start.rows-rows.ensures.matrix k k c.requires.within (in_cols start)

pub returns-clause-last : goal.returns-clause-last
returns-clause-last c =
    let k = c.args.k in
    let start = (goal.at.returns-clause-last c).After-rows-rows in
    c.split_cols-2.ensures.right
    ∙ ap (λ (A : Matrix). record A { cols = A.cols - k; entries = map (drop k) A.entries }) c.split_rows.ensures.below
    ∙ shows_bottom_right (e_shown c.args.t) start.rows-rows.ensures.matrix k k c.requires.within (in_cols start)
