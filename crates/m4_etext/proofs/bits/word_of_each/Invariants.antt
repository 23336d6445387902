use Rattle.m4_etext.proofs.BitRows.{IsWordOfFours}
use Rattle.m4_etext.proofs.bits.word_of_each.Given as goal

-- the word of the digits so far
abbrev pub invariant-loop-place : goal.invariant-loop-place
invariant-loop-place l = IsWordOfFours l.digits l.place l.word
