use Rattle.std.proofs.Common.{◌<◌, arith, ap}
use Rattle.m4_mzd.specs.Window.{Window}
use Rattle.m4_mzd.proofs.WindowLemmas.{framed_row}
use Rattle.m4_mzd.proofs.WriteLemmas.{row_written, holds_own, wrote_bit}
use Rattle.m4_mzd.proofs.win_mut.WinMut.put.Goals as goal

pub invariant_of-self : goal.invariant_of-self
invariant_of-self c =
    framed_row c.self.inside.words c.self.inside.cols c.args.r c.put_bit.new.row c.args.self.now c.self.view_is c.self.invariant c.requires.in_rows

pub returns : goal.returns
returns c =
    let v = c.self.inside.words in
    let cols = c.self.inside.cols in
    let w = c.args.self.now in
    let within : c.args.c < cols = omega (arith, c.requires.in_cols, ap (λ (x : Window). x.cols) c.self.view_is) in
    let mine = holds_own v cols c.args.r c.row_mut.result.now w c.self.view_is c.self.invariant c.requires.in_rows c.row_mut.ensures.words in
    row_written v cols c.args.r c.row_mut.result.now c.put_bit.new.row _ w c.self.view_is c.self.invariant c.requires.in_rows c.row_mut.ensures.words
    (wrote_bit cols c.args.c c.row_mut.result.now c.put_bit.new.row _ _ mine (omega arith) within c.put_bit.ensures.value c.put_bit.ensures.others)
