use Rattle.std.proofs.Common.{◌≡◌, ◌-◌, ◌^◌, sym, ap, ◌∙◌}
use Rattle.m4_bits.specs.Bits.{last_bits}
use Rattle.m4_mzd.proofs.WindowLemmas.{framed_row}
use Rattle.m4_mzd.proofs.WriteLemmas.{row_written, holds_own, holds_at, same_columns, wrote_copy}
use Rattle.m4_mzd.proofs.win_mut.WinMut.swap_with.Goals as goal

pub invariant_of-self : goal.invariant_of-self
invariant_of-self c =
    framed_row c.self.inside.words c.self.inside.cols c.args.r c.swap_into.new.a c.args.self.now c.self.view_is c.self.invariant c.requires.in_rows

pub invariant_of-other : goal.invariant_of-other
invariant_of-other c =
    framed_row c.other.inside.words c.other.inside.cols c.args.s c.swap_into.new.b c.args.other.now c.other.view_is c.other.invariant c.requires.in_other

pub returns-clause-here : goal.returns-clause-here
returns-clause-here c =
    let v = c.self.inside.words in
    let u = c.other.inside.words in
    let m = c.self.inside.cols in
    let n = c.other.inside.cols in
    let same : n ≡ m = same_columns v u m n c.args.self.now c.args.other.now c.self.view_is c.other.view_is c.requires.same_cols in
    let mine = holds_own v m c.args.r c.row_mut-mine.result.now c.args.self.now c.self.view_is c.self.invariant c.requires.in_rows c.row_mut-mine.ensures.words in
    let theirs = holds_own u n c.args.s c.row_mut-theirs.result.now c.args.other.now c.other.view_is c.other.invariant c.requires.in_other c.row_mut-theirs.ensures.words in
    row_written v m c.args.r c.row_mut-mine.result.now c.swap_into.new.a _ c.args.self.now c.self.view_is c.self.invariant c.requires.in_rows c.row_mut-mine.ensures.words
    (wrote_copy m c.mask-last.result c.row_mut-mine.result.now c.row_mut-theirs.result.now c.swap_into.new.a _ _ c.mask-last.ensures c.swap_into.ensures.first mine (holds_at n m _ _ same theirs))

pub returns-clause-there : goal.returns-clause-there
returns-clause-there c =
    let v = c.self.inside.words in
    let u = c.other.inside.words in
    let m = c.self.inside.cols in
    let n = c.other.inside.cols in
    let same : n ≡ m = same_columns v u m n c.args.self.now c.args.other.now c.self.view_is c.other.view_is c.requires.same_cols in
    let mask : c.mask-last.result ≡ 2 ^ last_bits n - 1 = c.mask-last.ensures ∙ ap (λ k. 2 ^ last_bits k - 1) (sym same) in
    let mine = holds_own v m c.args.r c.row_mut-mine.result.now c.args.self.now c.self.view_is c.self.invariant c.requires.in_rows c.row_mut-mine.ensures.words in
    let theirs = holds_own u n c.args.s c.row_mut-theirs.result.now c.args.other.now c.other.view_is c.other.invariant c.requires.in_other c.row_mut-theirs.ensures.words in
    row_written u n c.args.s c.row_mut-theirs.result.now c.swap_into.new.b _ c.args.other.now c.other.view_is c.other.invariant c.requires.in_other c.row_mut-theirs.ensures.words
    (wrote_copy n c.mask-last.result c.row_mut-theirs.result.now c.row_mut-mine.result.now c.swap_into.new.b _ _ mask c.swap_into.ensures.second theirs (holds_at m n _ _ (sym same) mine))
