use Rattle.std.proofs.Common.{◌-◌, ◌+◌, ◌*◌, ◌/◌, arith}
use Rattle.m4_bits.proofs.ShiftLemmas.{copied_in_three}
use Rattle.m4_bits.proofs.shift.copy_bits.Goals as goal

pub returns : goal.returns
returns c =
    let head = c.min-head.result in
    let words = c.saturating_sub-words.result / 64 in
    copied_in_three c.args.dst.now c.copy_to_word.new.dst c.copy_words.new.dst c.copy_to_word-2.new.dst c.args.src.now c.args.to c.args.from
    head words (c.args.count - (head + 64 * words)) c.args.count (omega arith) (λ some. omega arith)
    c.copy_to_word.ensures c.copy_words.ensures c.copy_to_word-2.ensures
