use Rattle.std.proofs.Common.{◌≤◌, arith, ap}
use Rattle.m4_mzd.specs.Window.{Window}
use Rattle.m4_mzd.proofs.WindowLemmas.{framed_row}
use Rattle.m4_mzd.proofs.WriteLemmas.{row_written, holds_own, holds_seen, holds_products, wrote_tail}
use Rattle.m4_mzd.proofs.win_mut.WinMut.add_products.Goals as goal

pub invariant_of-self : goal.invariant_of-self
invariant_of-self g c =
    framed_row c.self.inside.words c.self.inside.cols c.args.r c.add_products.new.dst c.args.self.now c.self.view_is c.self.invariant c.requires.in_rows

pub returns : goal.returns
returns g c = λ ys are.
    let v = c.self.inside.words in
    let cols = c.self.inside.cols in
    let w = c.args.self.now in
    let theirs = holds_seen c.args.from.now cols c.args.s c.row-source.result.now w v c.self.view_is c.requires.in_from c.requires.same_cols c.row-source.ensures.words in
    let within : c.args.c ≤ cols = omega (arith, c.requires.in_cols, ap (λ (x : Window). x.cols) c.self.view_is) in
    let mine = holds_own v cols c.args.r c.row_mut.result.now w c.self.view_is c.self.invariant c.requires.in_rows c.row_mut.ensures.words in
    row_written v cols c.args.r c.row_mut.result.now c.add_products.new.dst _ w c.self.view_is c.self.invariant c.requires.in_rows c.row_mut.ensures.words
    (wrote_tail cols c.mask-last.result c.args.c c.row_mut.result.now _ c.add_products.new.dst _ _ c.mask-last.ensures c.add_products.ensures.long within c.add_products.ensures.added c.add_products.ensures.kept mine
    (holds_products cols c.mask-last.result g.row.N c.args.low c.args.patterns.now c.row-source.result.now _ ys c.mask-last.ensures theirs are))
