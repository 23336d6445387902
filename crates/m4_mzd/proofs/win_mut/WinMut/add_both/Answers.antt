use Rattle.m4_mzd.proofs.WindowLemmas.{framed_row}
use Rattle.m4_mzd.proofs.WriteLemmas.{row_of_two_written, wrote_both}
use Rattle.m4_mzd.proofs.win_mut.WinMut.add_both.Goals as goal

pub invariant_of-self : goal.invariant_of-self
invariant_of-self c =
    framed_row c.self.inside.words c.self.inside.cols c.args.r c.xor_from2.new.dst c.args.self.now c.self.view_is c.self.invariant c.requires.in_rows

pub returns : goal.returns
returns c =
    let own = c.row_mut.result.now in
    let first = c.row-first.result.now in
    let second = c.row-second.result.now in
    row_of_two_written c.self.inside.words c.self.inside.cols c.args.r c.args.i c.args.j c.args.a.now c.args.b.now c.args.self.now own first second c.xor_from2.new.dst _
    c.self.view_is c.self.invariant c.requires.in_rows c.row_mut.ensures.words c.requires.in_a c.requires.same_cols c.row-first.ensures.words c.requires.in_b c.requires.other_cols c.row-second.ensures.words
    (wrote_both c.self.inside.cols c.mask-last.result own first second c.xor_from2.new.dst _ _ _ c.mask-last.ensures c.xor_from2.ensures)
