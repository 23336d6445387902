use Rattle.std.proofs.Common.{◌≡◌, length}
use Rattle.m4_ple.specs.Elimination.{IsEliminated}
use Rattle.m4_ple.specs.Words.{word_matrix}
use Rattle.m4_ple.proofs.words.ple_words.Given as goal

abbrev pub invariant-loop-c : goal.invariant-loop-c
invariant-loop-c l =
    (length l.words ≡ length l.fn.words) × (length l.q ≡ length l.fn.q)
    × IsEliminated (word_matrix l.cols l.fn.words) l.p l.q l.rank l.c (word_matrix l.cols l.words)
