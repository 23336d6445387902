use Rattle.std.proofs.Common.{◌≡◌, ◌*◌, take}
use Rattle.m4_model.specs.Matrix.{row, with_row}
use Rattle.m4_bits.specs.Digits.{AreDigits}
use Rattle.m4_mzd.specs.Window.{content, showing}
use Rattle.m4_text.proofs.WordRows.{row_so_far}
use Rattle.m4_text.proofs.body.read_digits.Given as goal

-- the first w words are read
abbrev pub invariant-loop-w : goal.invariant-loop-w
invariant-loop-w l = record {
  digits : AreDigits (take (64 * l.w) l.digits);
  window : l.whole ≡ showing l.fn.whole (with_row (content l.fn.whole) l.r (row_so_far l.digits (row (content l.fn.whole) l.r) (64 * l.w)));
}
