use Rattle.std.proofs.Common.{◌%◌, ◌/◌, get_or, arith, ◌∙◌}
use Rattle.m4_bits.proofs.BitsLemmas.{bit-set_same, bit-set_other, bit_at-added_same, bit_at-added_other}
use Rattle.m4_bits.proofs.add_bit.Goals as goal

pub returns-clause-value : goal.returns-clause-value
returns-clause-value c =
    bit-set_same c.args.row.now c.args.j _ c.requires.within
    ∙ bit_at-added_same (get_or c.args.row.now (c.args.j / 64) 0) c.args.change (c.args.j % 64) c.requires.change (omega arith)

pub returns-clause-others : goal.returns-clause-others
returns-clause-others c = λ k other.
    bit-set_other c.args.row.now c.args.j k _ c.requires.within other
    (λ i within away.
    bit_at-added_other (get_or c.args.row.now (c.args.j / 64) 0) c.args.change (c.args.j % 64) i c.requires.change (omega arith) away)
