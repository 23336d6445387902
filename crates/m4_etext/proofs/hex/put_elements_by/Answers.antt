use Rattle.std.proofs.Common.{length}
use Rattle.m4_etext.proofs.TurnedWords.{few_digits, turned_digits}
use Rattle.m4_etext.proofs.hex.put_elements_by.Goals as goal

pub returns-then-count-width : goal.returns-then-count-width
returns-then-count-width c =
    let n = length c.args.digits.now in
    turned_digits c.args.width c.args.count c.args.word c.turned.result n c.put_fours.new.digits c.if-count-width.true
    (few_digits c.args.width c.args.count n c.requires.widths c.requires.some c.requires.most c.if-count-width.true c.requires.room) c.turned.ensures.there c.put_fours.ensures
