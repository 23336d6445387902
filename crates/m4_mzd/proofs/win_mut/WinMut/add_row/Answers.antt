use Rattle.std.proofs.Common.{arith}
use Rattle.m4_mzd.proofs.WindowLemmas.{framed_row}
use Rattle.m4_mzd.proofs.WriteLemmas.{row_written, holds_own, holds_seen, wrote_sum}
use Rattle.m4_mzd.proofs.win_mut.WinMut.add_row.Goals as goal

pub invariant_of-self : goal.invariant_of-self
invariant_of-self g c =
    framed_row c.self.inside.words c.self.inside.cols c.args.r c.xor_into.new.dst c.args.self.now c.self.view_is c.self.invariant c.requires.in_rows

pub returns-clause-row : goal.returns-clause-row
returns-clause-row g c =
    let v = c.self.inside.words in
    let cols = c.self.inside.cols in
    let w = c.args.self.now in
    let theirs = holds_seen c.args.from.now cols c.args.s c.row-source.result.now w v c.self.view_is c.requires.in_from c.requires.same_cols c.row-source.ensures.words in
    let mine = holds_own v cols c.args.r c.row_mut.result.now w c.self.view_is c.self.invariant c.requires.in_rows c.row_mut.ensures.words in
    row_written v cols c.args.r c.row_mut.result.now c.xor_into.new.dst _ w c.self.view_is c.self.invariant c.requires.in_rows c.row_mut.ensures.words
    (wrote_sum cols _ c.row_mut.result.now c.row-source.result.now c.xor_into.new.dst _ _ (omega (arith, c.mask-last.ensures)) c.xor_into.ensures mine theirs)
