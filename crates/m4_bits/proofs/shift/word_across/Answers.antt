use Rattle.m4_bits.proofs.ShiftLemmas.{across_lower, across_upper}
use Rattle.m4_bits.proofs.shift.word_across.Goals as goal

pub returns-clause-lower : goal.returns-clause-lower
returns-clause-lower c = λ j below. across_lower c.args.lower c.args.upper c.args.shift j below

pub returns-clause-upper : goal.returns-clause-upper
returns-clause-upper c = λ j small past. across_upper c.args.lower c.args.upper c.args.shift j c.ranges.lower.fits c.requires small past
