use Rattle.std.proofs.Common.{◌∙◌, sym, ap, subst, min}
use Rattle.m4_text.specs.Reading.{AreRowsToRead}
use Rattle.m4_text.proofs.Bares.{rows_to_read}
use Rattle.m4_text.proofs.bare.rows_to_read.Goals as goal

pub returns : goal.returns
returns c =
    let most = c.most_rows-most in
    subst (AreRowsToRead c.args.len c.args.cols) (sym (c.min.ensures ∙ ap (λ b. min b most.result) c.div_ceil-begun.ensures))
    (rows_to_read c.args.len c.args.cols most.result c.requires.some most.ensures.some most.ensures.within most.ensures.most)
