-- The matrices so far are over the field.
use Rattle.std.proofs.Common.{take}
use Rattle.m4_outcome.specs.Outcome.{AreOver}
use Rattle.m4_field.specs.Fields.{the_field}
use Rattle.m4_cmd.proofs.fits.are_over.Given as goal

abbrev pub invariant-loop-matrix : goal.invariant-loop-matrix
invariant-loop-matrix l = AreOver (the_field l.field) (take l.matrix-index l.matrices)
