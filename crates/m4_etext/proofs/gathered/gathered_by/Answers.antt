use Rattle.std.proofs.Common.{◌*◌, ◌+◌, ◌^◌, ◌%◌, subst, sym, bit_xor, length, arith}
use Rattle.m4_etext.specs.ElementWords.{IsWordOfElements}
use Rattle.m4_etext.proofs.GatheredWords.{element_place, place_below, gathered_more}
use Rattle.m4_etext.proofs.gathered.gathered_by.Goals as goal

pub overflow_shl-word : goal.overflow_shl-word
overflow_shl-word c =
    place_below c.args.width c.loop-k.k c.requires.widths
    (element_place c.args.width c.args.count (length c.args.digits.now) c.loop-k.k c.requires.widths c.requires.some c.requires.room c.loop-k-test.true)

pub loop-k-preserved : goal.loop-k-preserved
loop-k-preserved c =
    let now = c.loop-k in
    let x = c.element_of-x.result in
    let place = element_place c.args.width c.args.count (length c.args.digits.now) now.k c.requires.widths c.requires.some c.requires.room c.loop-k-test.true in
    subst (λ y. IsWordOfElements c.args.digits.now c.args.width c.args.count c.args.end (now.k + 1) (bit_xor now.word (y * 2 ^ (now.k * c.args.width) % 2 ^ 64))) (sym c.from.ensures)
    (gathered_more c.args.digits.now c.args.width c.args.count c.args.end now.k now.word x c.requires.widths c.requires.some place c.requires.below now.invariant c.element_of-x.ensures (omega (arith, c.if-x-end.false)))
