use Rattle.std.proofs.Common.{◌+◌, ◌*◌, get_or, ap, ◌∙◌}
use Rattle.m4_mzd.specs.Shown.{bits_within}
use Rattle.m4_mzd.proofs.WordLemmas.{row_in_words}
use Rattle.m4_mzd.proofs.win_mut.WinMut.word.Goals as goal

pub returns : goal.returns
returns c = λ j small.
    c.word_of.ensures j small
    ∙ ap (λ l. get_or (bits_within c.self.inside.cols l) (c.args.w * 64 + j) 0) c.row.ensures.words
    ∙ ap (λ l. get_or l (c.args.w * 64 + j) 0) (row_in_words c.self.inside.words c.self.inside.cols c.args.r c.args.self.now c.self.view_is c.self.invariant c.requires.in_rows)
