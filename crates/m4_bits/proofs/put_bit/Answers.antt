use Rattle.std.proofs.Common.{◌%◌, w64, arith, ◌∙◌}
use Rattle.std.proofs.lemmas.Nat.Bits.{bit_at_set_same, bit_at_set_other, bit_at_clear_same, bit_at_clear_other}
use Rattle.m4_bits.proofs.BitsLemmas.{bit-set_same, bit-set_other}
use Rattle.m4_bits.proofs.put_bit.Goals as goal

pub returns-then-bit_value-clause-value : goal.returns-then-bit_value-clause-value
returns-then-bit_value-clause-value c =
    rw c.if-bit_value.true
    (bit-set_same c.args.row.now c.args.j _ c.requires ∙ bit_at_set_same w64 _ (c.args.j % 64) (omega arith))

pub returns-then-bit_value-clause-others : goal.returns-then-bit_value-clause-others
returns-then-bit_value-clause-others c = λ k other.
    bit-set_other c.args.row.now c.args.j k _ c.requires other
    (λ i within away. bit_at_set_other w64 _ (c.args.j % 64) (omega arith) i away)

pub returns-else-bit_value-clause-value : goal.returns-else-bit_value-clause-value
returns-else-bit_value-clause-value c =
    rw c.if-bit_value.false
    (bit-set_same c.args.row.now c.args.j _ c.requires ∙ bit_at_clear_same w64 _ (c.args.j % 64) (omega arith))

pub returns-else-bit_value-clause-others : goal.returns-else-bit_value-clause-others
returns-else-bit_value-clause-others c = λ k other.
    bit-set_other c.args.row.now c.args.j k _ c.requires other
    (λ i within away. bit_at_clear_other w64 _ (c.args.j % 64) (omega arith) i within away)
