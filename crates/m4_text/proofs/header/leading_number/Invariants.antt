use Rattle.std.proofs.Common.{length, ◌-◌, ◌≡◌, ◌≤◌, take, ◌^◌, ◌<◌, decimal}
use Rattle.m4_text.proofs.header.leading_number.Given as goal

-- the digits so far spell the value
abbrev pub invariant-loop-len : goal.invariant-loop-len
invariant-loop-len l = record {
  within : l.len ≤ length l.bytes;
  few : l.len ≤ 9;
  small : l.value < 10 ^ l.len;
  spelled : 0 < l.len → take l.len l.bytes ≡ decimal l.value;
}

abbrev pub decreases-loop-len : goal.decreases-loop-len
decreases-loop-len l = length l.bytes - l.len
