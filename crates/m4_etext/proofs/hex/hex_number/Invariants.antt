use Rattle.std.proofs.Common.{◌≡◌, ◌<◌, ◌≤◌, ◌^◌, ◌++◌, length, drop}
use Rattle.m4_model.specs.Headed.{hexadecimal}
use Rattle.m4_etext.proofs.HexNumbers.{hex_or_none}
use Rattle.m4_etext.proofs.hex.hex_number.Given as goal

-- what is left of the number stands before the digits that are written
abbrev pub invariant-loop-rest : goal.invariant-loop-rest
invariant-loop-rest l = record {
  within : l.start ≤ 7;
  long : length l.bytes ≡ 8;
  small : l.rest < 16 ^ l.start;
  spelled : hexadecimal l.n ≡ hex_or_none l.rest ++ drop l.start l.bytes;
}

abbrev pub decreases-loop-rest : goal.decreases-loop-rest
decreases-loop-rest l = l.rest
