use Rattle.std.proofs.Common.{[], ◌∷◌, sym, ap, ◌∙◌}
use Rattle.m4_mzd.proofs.WindowLemmas.{framed_row}
use Rattle.m4_mzd.proofs.ManyLemmas.{words_at, rows_written, listed}
use Rattle.m4_mzd.proofs.win_mut.WinMut.add_five.Goals as goal

pub invariant_of-self : goal.invariant_of-self
invariant_of-self c =
    framed_row c.self.inside.words c.self.inside.cols c.args.r c.xor_from5.new.dst c.args.self.now c.self.view_is c.self.invariant c.requires.in_rows

pub returns : goal.returns
returns c =
    let sources = (λ i. c.numbered-a.ensures.words i ∷ c.numbered-b.ensures.words i ∷ c.numbered-c.ensures.words i ∷ c.numbered-d.ensures.words i ∷ c.numbered-e.ensures.words i ∷ []) ∙ ap (words_at c.args.from.now) (sym (listed c.args.numbers.now 5 c.requires.five)) in
    rows_written c.args.from.now c.self.inside.words c.self.inside.cols c.args.r c.mask-last.result c.row_mut.result.now c.xor_from5.new.dst _ c.args.numbers.now c.args.self.now
    c.self.view_is c.self.invariant c.requires.in_rows c.requires.same_cols c.requires.in_from sources c.mask-last.ensures c.row_mut.ensures.words c.xor_from5.ensures
