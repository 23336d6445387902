use Rattle.std.proofs.Common.{◌≡◌, ◌*◌, ◌^◌, ◌<◌, take}
use Rattle.m4_bits.specs.Digits.{digits_of}
use Rattle.m4_bits.proofs.digits.word_of_digits.Given as goal

abbrev pub invariant-loop-place : goal.invariant-loop-place
invariant-loop-place l = record {
  read : take (8 * l.place) l.digits ≡ digits_of l.word (8 * l.place);
  small : l.word < 2 ^ (8 * l.place);
}
