use Rattle.std.proofs.Common.{◌+◌, ◌-◌, ◌%◌, ap, ◌∙◌}
use Rattle.std.specs.Int.{bit_at}
use Rattle.m4_bits.proofs.ShiftLemmas.{word_of_two}
use Rattle.m4_bits.proofs.shift.word_from.Goals as goal

pub returns : goal.returns
returns c = λ j small.
    word_of_two c.args.row.now c.args.from c.word_across.result j small
    (λ i inside. c.word_across.ensures.lower i inside ∙ ap (λ w. bit_at w (c.args.from % 64 + i)) c.word_or_zero.ensures)
    (λ i below past. c.word_across.ensures.upper i below past ∙ ap (λ w. bit_at w (c.args.from % 64 + i - 64)) c.word_or_zero-2.ensures)
