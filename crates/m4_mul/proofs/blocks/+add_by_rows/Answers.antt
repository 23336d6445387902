use Rattle.std.proofs.Common.{◌-◌, refl, sym, ap, ◌∙◌, arith}
use Rattle.m4_model.specs.Matrix.{Matrix}
use Rattle.m4_mzd.specs.Seen.{shown}
use Rattle.m4_mzd.proofs.PairLemmas.{upper, lower}
use Rattle.m4_mzd.proofs.BlockedLemmas.{rows_added}
use Rattle.m4_mul.proofs.blocks.+add_by_rows.Goals as goal

pub returns-clause-sum : goal.returns-clause-sum
returns-clause-sum g t c =
    let w = c.args.c.now in
    let A = shown c.args.a.now in
    let at = c.middle-middle.result in
    c.put_back.ensures ∙ c.join_rows.ensures
    ∙ rows_added w c.split_rows-top.result.0 c.split_rows-top.result.1 c.add_by_rows.new.c c.add_by_rows-2.new.c
    A (shown c.split_rows.result.0) (shown c.split_rows.result.1) (shown c.args.b.now) at A.cols
    (omega (arith, c.middle-middle.ensures.less, c.rows-2.ensures.rows))
    c.rows.ensures.shape c.rows-top.ensures.shape c.rows-bottom.ensures.shape c.rows-top-2.ensures.shape c.rows-bottom-2.ensures.shape
    (c.split_rows-top.ensures.above ∙ ap (λ z. upper z at) c.take.ensures.whole) (c.split_rows-top.ensures.below ∙ ap (λ z. lower z at) c.take.ensures.whole)
    (record { is_matrix = c.rows-a.ensures.matrix; over = refl; rows = c.requires.rows; cols = refl })
    (record { is_matrix = c.rows-first.ensures.matrix; over = refl; rows = ap (λ (M : Matrix). M.rows) c.split_rows.ensures.above; cols = ap (λ (M : Matrix). M.cols) c.split_rows.ensures.above })
    (record { is_matrix = c.rows-others.ensures.matrix; over = refl; rows = ap (λ (M : Matrix). M.rows) c.split_rows.ensures.below ∙ ap (λ n. n - at) c.requires.rows; cols = ap (λ (M : Matrix). M.cols) c.split_rows.ensures.below })
    (record { is_matrix = c.rows-b.ensures.matrix; over = refl; rows = sym c.requires.inner; cols = c.requires.cols })
    (ap (λ (M : Matrix). M.entries) c.split_rows.ensures.above) (ap (λ (M : Matrix). M.entries) c.split_rows.ensures.below)
    c.add_by_rows.ensures.sum c.add_by_rows-2.ensures.sum
