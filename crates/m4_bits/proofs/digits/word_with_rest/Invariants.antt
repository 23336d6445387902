use Rattle.m4_bits.proofs.DigitsLemmas.{Gathered}
use Rattle.m4_bits.proofs.digits.word_with_rest.Given as goal

abbrev pub invariant-loop-place : goal.invariant-loop-place
invariant-loop-place l = Gathered l.digits l.place l.word l.others
