use Rattle.std.proofs.Common.{◌+◌, ◌≤◌, subst, sym, ap, arith}
use Rattle.m4_model.specs.Matrix.{row}
use Rattle.m4_mzd.specs.Window.{Window}
use Rattle.m4_mzd.specs.Seen.{shown}
use Rattle.m4_mzd.proofs.WindowLemmas.{framed_row}
use Rattle.m4_mzd.proofs.WriteLemmas.{Holds, row_written, holds_own, holds_shown}
use Rattle.m4_mzd.proofs.PlaceLemmas.{wrote_part}
use Rattle.m4_mzd.proofs.win_mut.WinMut.copy_part.Goals as goal

pub invariant_of-self : goal.invariant_of-self
invariant_of-self c =
    framed_row c.self.inside.words c.self.inside.cols c.args.r c.copy_bits.new.dst c.args.self.now c.self.view_is c.self.invariant c.requires.in_rows

pub returns : goal.returns
returns c =
    let v = c.self.inside.words in
    let cols = c.self.inside.cols in
    let w = c.args.self.now in
    let x = c.args.from.now in
    let mine = holds_own v cols c.args.r c.row_mut.result.now w c.self.view_is c.self.invariant c.requires.in_rows c.row_mut.ensures.words in
    let theirs = subst (λ l. Holds x.cols l (row (shown x) c.args.s)) (sym c.row-source.ensures.words) (holds_shown x c.args.s c.requires.in_from) in
    let room : c.args.c + c.args.count ≤ cols = omega (arith, c.requires.in_cols, ap (λ (y : Window). y.cols) c.self.view_is) in
    row_written v cols c.args.r c.row_mut.result.now c.copy_bits.new.dst _ w c.self.view_is c.self.invariant c.requires.in_rows c.row_mut.ensures.words
    (wrote_part cols x.cols c.args.c c.args.d c.args.count c.row_mut.result.now c.row-source.result.now c.copy_bits.new.dst _ _ mine theirs room c.requires.in_from_cols (omega arith) c.copy_bits.ensures)
