use Rattle.m4_mzed.specs.EWindow.{content}
use Rattle.m4_etext.proofs.Rows.{row_is}
use Rattle.m4_etext.proofs.BitRows.{bits_taken}
use Rattle.m4_etext.proofs.bits.take_few_bits.Goals as goal

pub returns-in-Some-clause-read : goal.returns-in-Some-clause-read
returns-in-Some-clause-read c = λ _.
    let A = content c.args.whole.now in
    bits_taken A (content c.put_bits.new.whole) c.args.r c.args.t c.args.count c.in-Some.word c.args.bytes.now (row_is A c.args.r c.cols-cols.ensures.matrix c.requires.in_rows)
    c.requires.in_line c.requires.within c.in-Some.ensures.word c.put_bits.ensures.written
