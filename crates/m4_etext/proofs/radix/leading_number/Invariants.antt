use Rattle.std.proofs.Common.{length, ◌≡◌, ◌≤◌, take, ◌^◌, ◌<◌, false}
use Rattle.std.specs.Fmt.{digits}
use Rattle.m4_etext.specs.Parsed.{base_of, most_of}
use Rattle.m4_etext.proofs.radix.leading_number.Given as goal

-- the digits so far spell the value
abbrev pub invariant-loop-len : goal.invariant-loop-len
invariant-loop-len l = record {
  within : l.len ≤ length l.bytes;
  few : l.len ≤ most_of l.radix;
  small : l.value < base_of l.radix ^ l.len;
  spelled : 0 < l.len → take l.len l.bytes ≡ digits (base_of l.radix) false l.value;
}
