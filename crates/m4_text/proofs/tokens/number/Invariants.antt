use Rattle.std.proofs.Common.{◌≡◌, ◌<◌, ◌^◌, drop}
use Rattle.std.specs.Str.{all_ascii_digits}
use Rattle.std.specs.Str.Parse.{digits_value_after}
use Rattle.m4_text.proofs.tokens.number.Given as goal

-- the digits so far are worth the value
abbrev pub invariant-loop-digit : goal.invariant-loop-digit
invariant-loop-digit l = record {
  digits : all_ascii_digits l.digits ≡ all_ascii_digits (drop l.digit-index l.digits);
  worth : digits_value_after 10 0 l.digits ≡ digits_value_after 10 l.value (drop l.digit-index l.digits);
  small : l.value < 10 ^ l.digit-index;
}
