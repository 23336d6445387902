use Rattle.std.proofs.Common.{◌^◌}
use Rattle.m4_model.specs.Matrix.{row}
use Rattle.m4_mzed.specs.ESeen.{e_shown}
use Rattle.m4_newton.specs.Entries.{AreEntries}
use Rattle.m4_newton.proofs.entries.put_entries.Given as goal

abbrev pub invariant-loop-u : goal.invariant-loop-u
invariant-loop-u l = AreEntries l.fn.m l.m (row (e_shown l.b) l.t) l.base l.shift (2 ^ l.u)
