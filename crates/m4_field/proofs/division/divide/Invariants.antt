use Rattle.std.proofs.Common.{◌≡◌, ◌+◌, ◌^◌, ◌<◌, bit_xor}
use Rattle.m4_model.specs.Field.{clmul}
use Rattle.m4_field.proofs.division.divide.Given as goal

abbrev pub invariant-loop-i : goal.invariant-loop-i
invariant-loop-i l = (l.c ≡ bit_xor (clmul l.a l.quotient) l.rest) × (l.rest < 2 ^ (l.top + l.i))
