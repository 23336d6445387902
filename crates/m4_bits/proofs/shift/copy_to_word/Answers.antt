use Rattle.std.proofs.Common.{arith}
use Rattle.m4_bits.proofs.ShiftLemmas.{part_copied}
use Rattle.m4_bits.proofs.shift.copy_to_word.Goals as goal

pub returns : goal.returns
returns c =
    rw (c.merge.ensures, c.mask.ensures)
    (part_copied c.args.dst.now c.args.src.now c.args.to c.args.from c.args.count c.word_from.result (omega arith) c.requires.one_word (omega arith) c.word_from.ensures)
