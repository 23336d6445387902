use Rattle.std.proofs.Common.{◌-◌, refl, sym, ap, ◌∙◌, arith}
use Rattle.m4_model.specs.Matrix.{Matrix}
use Rattle.m4_mzd.specs.Seen.{shown}
use Rattle.m4_mzd.proofs.BlockedLemmas.{before, behind, cols_added}
use Rattle.m4_mul.proofs.blocks.+add_in_blocks.Goals as goal

pub returns-clause-sum : goal.returns-clause-sum
returns-clause-sum g t c =
    let w = c.args.c.now in
    let A = shown c.args.a.now in
    let at = c.middle-middle.result in
    let inner = sym c.requires.inner in
    c.put_back.ensures ∙ c.join_cols.ensures
    ∙ cols_added w c.split_cols-left.result.0 c.split_cols-left.result.1 c.add_in_blocks.new.c c.add_in_blocks-2.new.c
    A (shown c.args.b.now) (shown c.split_cols.result.0) (shown c.split_cols.result.1) at A.cols
    (omega (arith, c.middle-middle.ensures.less, c.cols-2.ensures.cols))
    c.cols.ensures.shape c.cols-left.ensures.shape c.cols-right.ensures.shape c.cols-left-2.ensures.shape c.cols-right-2.ensures.shape
    (c.split_cols-left.ensures.left ∙ ap (λ z. before z at) c.take.ensures.whole) (c.split_cols-left.ensures.right ∙ ap (λ z. behind z at) c.take.ensures.whole)
    (record { is_matrix = c.rows-a.ensures.matrix; over = refl; rows = c.requires.rows; cols = refl })
    (record { is_matrix = c.rows-b.ensures.matrix; over = refl; rows = inner; cols = c.requires.cols })
    (record { is_matrix = c.rows-first.ensures.matrix; over = refl; rows = ap (λ (M : Matrix). M.rows) c.split_cols.ensures.left ∙ inner; cols = ap (λ (M : Matrix). M.cols) c.split_cols.ensures.left })
    (record { is_matrix = c.rows-others.ensures.matrix; over = refl; rows = ap (λ (M : Matrix). M.rows) c.split_cols.ensures.right ∙ inner; cols = ap (λ (M : Matrix). M.cols) c.split_cols.ensures.right ∙ ap (λ n. n - at) c.requires.cols })
    (ap (λ (M : Matrix). M.entries) c.split_cols.ensures.left) (ap (λ (M : Matrix). M.entries) c.split_cols.ensures.right)
    c.add_in_blocks.ensures.sum c.add_in_blocks-2.ensures.sum
