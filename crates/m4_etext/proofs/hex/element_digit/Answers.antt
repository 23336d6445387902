use Rattle.m4_etext.proofs.ElementWords.{digit_cut}
use Rattle.m4_etext.proofs.hex.element_digit.Goals as goal

pub returns-clause-digit : goal.returns-clause-digit
returns-clause-digit c = digit_cut c.args.width c.args.count c.args.word c.args.place c.requires.widths
