use Rattle.std.proofs.Common.{◌%◌, ap, arith}
use Rattle.m4_mzed.specs.EWindow.{content}
use Rattle.m4_etext.proofs.Rows.{row_is}
use Rattle.m4_etext.proofs.BitRows.{joined_small, bits_written}
use Rattle.m4_etext.proofs.bits.put_bits.Goals as goal

pub overflow_add-before : goal.overflow_add-before
overflow_add-before c =
    let value = c.args.value in
    let used = c.args.q % 64 in
    let j = joined_small value c.args.len used c.bits_before-before.result c.requires.small c.bits_before-before.ensures.small (let r = c.requires.in_word in omega (arith, r)) in
    omega (arith, j)

pub returns-clause-written : goal.returns-clause-written
returns-clause-written c =
    let old = c.args.whole.now in
    let A = content old in
    let value = c.args.value in
    let used = c.args.q % 64 in
    let before = c.bits_before-before.result in
    let j = joined_small value c.args.len used before c.requires.small c.bits_before-before.ensures.small (let r = c.requires.in_word in omega (arith, r)) in
    bits_written A (content c.set_word.new.whole) c.args.r c.args.q c.args.len value before _ c.requires.over_gf2 (row_is A c.args.r c.cols-cols.ensures.matrix c.requires.in_rows)
    c.requires.in_word c.bits_before-before.ensures.small c.bits_before-before.ensures.bits (omega (arith, j)) (ap content c.set_word.ensures)
