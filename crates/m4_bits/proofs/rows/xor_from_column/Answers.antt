use Rattle.std.proofs.Common.{◌/◌, ◌≤◌, length, arith, sym, ◌∙◌}
use Rattle.m4_model.specs.Matrix.{row_sum}
use Rattle.m4_bits.specs.Bits.{masked}
use Rattle.m4_bits.proofs.BitsLemmas.{bit_past, length-row_sum}
use Rattle.m4_bits.proofs.ColumnLemmas.{Column, bit-column_added, bit-column_kept}
use Rattle.m4_bits.proofs.rows.xor_from_column.Goals as goal

pub returns-then-place-dst-clause-added : goal.returns-then-place-dst-clause-added
returns-then-place-dst-clause-added c = λ k from.
    let none : length c.args.dst.now ≤ k / 64 = omega (arith, from, c.if-place-dst.true) in
    bit_past c.args.dst.now k none
    ∙ sym (bit_past (row_sum c.args.dst.now (masked c.args.src.now c.args.last)) k
    (omega (arith, length-row_sum c.args.dst.now (masked c.args.src.now c.args.last), none)))

pub returns-clause-added : goal.returns-clause-added
returns-clause-added c = λ k from.
    let h : Column c.args.dst.now c.args.src.now c.args.last c.args.first c.xor_into.new.dst c.merge.result =
    record { same = c.requires; within = c.if-place-dst.false; sum = c.xor_into.ensures; word = c.merge.ensures } in
    bit-column_added c.args.dst.now c.args.src.now c.args.last c.args.first c.xor_into.new.dst c.merge.result k h from

pub returns-clause-kept : goal.returns-clause-kept
returns-clause-kept c = λ k before.
    let h : Column c.args.dst.now c.args.src.now c.args.last c.args.first c.xor_into.new.dst c.merge.result =
    record { same = c.requires; within = c.if-place-dst.false; sum = c.xor_into.ensures; word = c.merge.ensures } in
    bit-column_kept c.args.dst.now c.args.src.now c.args.last c.args.first c.xor_into.new.dst c.merge.result k h before
