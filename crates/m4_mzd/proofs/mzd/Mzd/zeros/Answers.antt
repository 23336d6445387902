use Rattle.std.proofs.Common.{◌≤◌, ◌*◌, arith, ◌∙◌}
use Rattle.m4_mzd.proofs.HeldLemmas.{new_rows, padded_zeros, held_zeros}
use Rattle.m4_mzd.proofs.mzd.Mzd.zeros.Goals as goal

pub of-requires-clause-padded : goal.of-requires-clause-padded
of-requires-clause-padded c =
    let v = c.from_vec.result in
    let rows = new_rows c.args.rows c.words_for-width.result _ v.words c.from_vec.ensures.words (c.in_ok-words.ensures.items_if_clones_equal (λ y is. is)) in
    padded_zeros v c.args.rows c.words_for-width.result c.args.cols rows

pub returns : goal.returns
returns c =
    let v = c.from_vec.result in
    let rows = new_rows c.args.rows c.words_for-width.result _ v.words c.from_vec.ensures.words (c.in_ok-words.ensures.items_if_clones_equal (λ y is. is)) in
    let enough : c.args.cols ≤ c.words_for-width.result * 64 = omega (arith, c.words_for-width.ensures) in
    c.of.ensures ∙ held_zeros v c.args.rows c.words_for-width.result c.args.cols c.from_vec.ensures.rows rows enough
