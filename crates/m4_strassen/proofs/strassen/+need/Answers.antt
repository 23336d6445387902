use Rattle.std.proofs.Common.{◌+◌, ap, sym, arith, ◌∙◌}
use Rattle.m4_model.specs.Recursion.{level_words}
use Rattle.m4_model.proofs.RecursionLemmas.{no_level}
use Rattle.m4_strassen.proofs.RoomLemmas.{quarter_sides}
use Rattle.m4_strassen.proofs.strassen.+need.Goals as goal

pub returns-then-not-is_cut-clause-words : goal.returns-then-not-is_cut-clause-words
returns-then-not-is_cut-clause-words t c =
    sym (no_level (λ m l n rest. level_words m l n + rest) 0 c.args.m c.args.l c.args.n c.args.cutoff
    (sym c.is_cut.ensures ∙ c.if-not-is_cut.true))

pub returns-clause-words : goal.returns-clause-words
returns-clause-words t c =
    let cut = c.cut_of-cut.result in
    ap (λ x. level_words cut.m cut.l cut.n + x) c.need.ensures.words ∙ c.cut_of-cut.ensures.words

pub returns-clause-few : goal.returns-clause-few
returns-clause-few t c =
    let cut = c.cut_of-cut.result in
    let within = c.cut_of-cut.ensures.within in
    let first = quarter_sides cut.m cut.l c.args.m c.args.l within.rows within.inner in
    let second = quarter_sides cut.l cut.n c.args.l c.args.n within.inner within.cols in
    let third = quarter_sides cut.m cut.n c.args.m c.args.n within.rows within.cols in
    omega (arith, first, second, third, c.need.ensures.few)
