use Rattle.std.proofs.Common.{◌≡◌, ◌<◌, ◌/◌, ◌%◌, ◌^◌, ℕ, false, length, get_or}
use Rattle.std.specs.Fmt.{digit_glyph}
use Rattle.m4_etext.proofs.hex.put_rest.Given as goal

-- the digits before the place are written
abbrev pub invariant-loop-place : goal.invariant-loop-place
invariant-loop-place l = record {
  long : length l.digits ≡ length l.fn.digits;
  written : (i : ℕ) → i < l.place → get_or l.digits i 0 ≡ digit_glyph false (l.word / 16 ^ i % 16);
}
