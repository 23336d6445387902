use Rattle.std.proofs.Common.{◌≡◌, ◌/◌, ◌%◌, get_or, length}
use Rattle.std.specs.Int.{bit_at}
use Rattle.m4_model.specs.Field.{mul, width}
use Rattle.m4_model.specs.Matrix.{row, with_row}
use Rattle.m4_field.specs.Fields.{the_field}
use Rattle.m4_mzd.specs.Window.{content, showing}
use Rattle.m4_mzed.specs.Packed.{unpacked}
use Rattle.m4_mzed.proofs.SumLemmas.{SetTo}
use Rattle.m4_mzed.proofs.row.scale_by.Given as goal

abbrev pub invariant-loop-w : goal.invariant-loop-w
invariant-loop-w g l =
    (l.bits ≡ showing l.fn.bits (with_row (content l.fn.bits) l.r (row (content l.bits) l.r)))
    × SetTo l.fn.bits.cols l.w (λ p. bit_at (mul (the_field l.f) (get_or (unpacked (width (the_field l.f)) l.cols (row (content l.fn.bits) l.r)) (p / width (the_field l.f)) 0) l.x) (p % width (the_field l.f)))
    (row (content l.fn.bits) l.r) (row (content l.bits) l.r)
    × (length (row (content l.bits) l.r) ≡ l.fn.bits.cols)
