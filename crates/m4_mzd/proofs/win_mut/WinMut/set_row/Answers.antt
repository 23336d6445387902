use Rattle.std.proofs.Common.{sym, ap}
use Rattle.m4_mzd.specs.Window.{Window}
use Rattle.m4_mzd.proofs.WindowLemmas.{framed_row}
use Rattle.m4_mzd.proofs.WriteLemmas.{row_written, holds_own, holds_words, holds_at, wrote_copy}
use Rattle.m4_mzd.proofs.win_mut.WinMut.set_row.Goals as goal

pub invariant_of-self : goal.invariant_of-self
invariant_of-self c =
    framed_row c.self.inside.words c.self.inside.cols c.args.r c.copy_into.new.dst c.args.self.now c.self.view_is c.self.invariant c.requires.in_rows

pub returns : goal.returns
returns c =
    let v = c.self.inside.words in
    let cols = c.self.inside.cols in
    let w = c.args.self.now in
    let theirs = holds_at w.cols cols c.args.words.now _ (sym (ap (λ (x : Window). x.cols) c.self.view_is)) (holds_words w.cols c.args.words.now c.requires.wide) in
    let mine = holds_own v cols c.args.r c.row_mut.result.now w c.self.view_is c.self.invariant c.requires.in_rows c.row_mut.ensures.words in
    row_written v cols c.args.r c.row_mut.result.now c.copy_into.new.dst _ w c.self.view_is c.self.invariant c.requires.in_rows c.row_mut.ensures.words
    (wrote_copy cols c.mask-last.result c.row_mut.result.now c.args.words.now c.copy_into.new.dst _ _ c.mask-last.ensures c.copy_into.ensures mine theirs)
