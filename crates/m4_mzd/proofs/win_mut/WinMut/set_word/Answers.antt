use Rattle.std.proofs.Common.{arith}
use Rattle.m4_mzd.proofs.WindowLemmas.{framed_row}
use Rattle.m4_mzd.proofs.WriteLemmas.{row_written, holds_own}
use Rattle.m4_mzd.proofs.WordLemmas.{wrote_word}
use Rattle.m4_mzd.proofs.win_mut.WinMut.set_word.Goals as goal

pub invariant_of-self : goal.invariant_of-self
invariant_of-self c =
    framed_row c.self.inside.words c.self.inside.cols c.args.r c.put_word.new.row c.args.self.now c.self.view_is c.self.invariant c.requires.in_rows

pub returns : goal.returns
returns c =
    let v = c.self.inside.words in
    let cols = c.self.inside.cols in
    let w = c.args.self.now in
    let mine = holds_own v cols c.args.r c.row_mut.result.now w c.self.view_is c.self.invariant c.requires.in_rows c.row_mut.ensures.words in
    row_written v cols c.args.r c.row_mut.result.now c.put_word.new.row _ w c.self.view_is c.self.invariant c.requires.in_rows c.row_mut.ensures.words
    (wrote_word cols c.args.w c.args.value c.row_mut.result.now c.put_word.new.row _ mine (omega arith) c.put_word.ensures.written c.put_word.ensures.others c.put_word.ensures.kept)
