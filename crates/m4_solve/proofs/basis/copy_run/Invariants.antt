use Rattle.std.proofs.Common.{◌≡◌, slice_index}
use Rattle.m4_model.specs.Matrix.{row}
use Rattle.m4_mzd.specs.Parts.{part, with_part}
use Rattle.m4_mzed.specs.EWindow.{content, showing}
use Rattle.m4_mzed.specs.ESeen.{e_shown}
use Rattle.m4_solve.proofs.KernelRows.{AreMadeTo}
use Rattle.m4_solve.proofs.basis.copy_run.Given as goal

abbrev pub invariant-loop-t : goal.invariant-loop-t
invariant-loop-t l =
    (l.k ≡ showing l.fn.k (content l.k))
    × AreMadeTo (λ u xs. with_part l.c (part l.d l.count (row (e_shown l.turned) (slice_index l.free u))) xs) l.t (content l.fn.k) (content l.k)
