use Rattle.std.proofs.Common.{◌≡◌, ℕ, ◌*◌, ◌/◌, ◌%◌, ◌^◌, ◌<◌, false, get_or}
use Rattle.std.specs.Fmt.{digit_glyph}
use Rattle.m4_etext.proofs.hex.put_fours.Given as goal

-- the digits of the eights before the place are written
abbrev pub invariant-loop-place : goal.invariant-loop-place
invariant-loop-place l = (k : ℕ) → k < 8 * l.place → get_or l.digits k 0 ≡ digit_glyph false (l.word / 16 ^ k % 16)
