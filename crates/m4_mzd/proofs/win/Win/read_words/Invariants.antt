use Rattle.m4_mzd.specs.Seen.{shown}
use Rattle.m4_mzd.proofs.PlaceLemmas.{ReadTo}
use Rattle.m4_mzd.proofs.win.Win.read_words.Given as goal

abbrev pub invariant-loop-i : goal.invariant-loop-i
invariant-loop-i l = ReadTo (shown l.self) l.r l.w l.i l.words
