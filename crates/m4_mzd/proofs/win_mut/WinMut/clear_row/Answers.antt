use Rattle.m4_mzd.proofs.WindowLemmas.{framed_row}
use Rattle.m4_mzd.proofs.WriteLemmas.{row_written, holds_own, wrote_zeros}
use Rattle.m4_mzd.proofs.win_mut.WinMut.clear_row.Goals as goal

pub invariant_of-self : goal.invariant_of-self
invariant_of-self c =
    framed_row c.self.inside.words c.self.inside.cols c.args.r c.clear.new.dst c.args.self.now c.self.view_is c.self.invariant c.requires

pub returns : goal.returns
returns c =
    let v = c.self.inside.words in
    let cols = c.self.inside.cols in
    let w = c.args.self.now in
    let mine = holds_own v cols c.args.r c.row_mut.result.now w c.self.view_is c.self.invariant c.requires c.row_mut.ensures.words in
    row_written v cols c.args.r c.row_mut.result.now c.clear.new.dst _ w c.self.view_is c.self.invariant c.requires c.row_mut.ensures.words
    (wrote_zeros cols c.mask-last.result c.row_mut.result.now c.clear.new.dst _ w v c.self.view_is c.mask-last.ensures c.clear.ensures mine)
