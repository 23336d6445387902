use Rattle.std.proofs.Common.{◌≡◌, ◌+◌, drop}
use Rattle.m4_outcome.specs.Words.{understand, begun}
use Rattle.m4_words.specs.Texts.{texts}
use Rattle.m4_words.specs.Told.{understood, IsSound}
use Rattle.m4_words.proofs.words.told_by.Given as goal

abbrev pub invariant-loop-index : goal.invariant-loop-index
invariant-loop-index l = record {
  sound : IsSound l.told;
  told : understand 2 (texts l.behind) (begun l.fn.command) ≡ understand (l.index + 2) (drop l.index (texts l.behind)) (understood l.told);
}
