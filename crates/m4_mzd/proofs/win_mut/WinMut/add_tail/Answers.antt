use Rattle.std.proofs.Common.{◌≤◌, arith, ap}
use Rattle.m4_mzd.specs.Window.{Window}
use Rattle.m4_mzd.proofs.WindowLemmas.{framed_row}
use Rattle.m4_mzd.proofs.WriteLemmas.{row_written, holds_own, holds_seen, wrote_tail}
use Rattle.m4_mzd.proofs.win_mut.WinMut.add_tail.Goals as goal

pub invariant_of-self : goal.invariant_of-self
invariant_of-self c =
    framed_row c.self.inside.words c.self.inside.cols c.args.r c.xor_from_column.new.dst c.args.self.now c.self.view_is c.self.invariant c.requires.in_rows

pub returns : goal.returns
returns c =
    let v = c.self.inside.words in
    let cols = c.self.inside.cols in
    let w = c.args.self.now in
    let theirs = holds_seen c.args.from.now cols c.args.s c.row-source.result.now w v c.self.view_is c.requires.in_from c.requires.same_cols c.row-source.ensures.words in
    let within : c.args.c ≤ cols = omega (arith, c.requires.in_cols, ap (λ (x : Window). x.cols) c.self.view_is) in
    let mine = holds_own v cols c.args.r c.row_mut.result.now w c.self.view_is c.self.invariant c.requires.in_rows c.row_mut.ensures.words in
    row_written v cols c.args.r c.row_mut.result.now c.xor_from_column.new.dst _ w c.self.view_is c.self.invariant c.requires.in_rows c.row_mut.ensures.words
    (wrote_tail cols c.mask-last.result c.args.c c.row_mut.result.now c.row-source.result.now c.xor_from_column.new.dst _ _ c.mask-last.ensures (omega arith) within c.xor_from_column.ensures.added c.xor_from_column.ensures.kept mine theirs)
