use Rattle.std.proofs.Common.{◌≡◌, slice_index, set}
use Rattle.m4_mzed.specs.EWindow.{content, showing}
use Rattle.m4_solve.proofs.KernelRows.{AreMadeTo}
use Rattle.m4_solve.proofs.basis.put_ones.Given as goal

abbrev pub invariant-loop-t : goal.invariant-loop-t
invariant-loop-t l = (l.k ≡ showing l.fn.k (content l.k)) × AreMadeTo (λ u xs. set xs (slice_index l.free u) 1) l.t (content l.fn.k) (content l.k)
