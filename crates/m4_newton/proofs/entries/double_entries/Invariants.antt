use Rattle.std.proofs.Common.{◌≡◌, ◌+◌, ◌^◌}
use Rattle.m4_model.specs.Matrix.{row}
use Rattle.m4_mzed.specs.EWindow.{EWindow, content, showing}
use Rattle.m4_mzed.specs.ESeen.{e_shown}
use Rattle.m4_newton.specs.Entries.{AreEntries}
use Rattle.m4_newton.proofs.entries.double_entries.Given as goal

abbrev pub invariant-loop-y : goal.invariant-loop-y
invariant-loop-y l = record {
  kept : l.m ≡ showing l.fn.m (content l.m);
  entries : (first : EWindow) → AreEntries first l.fn.m (row (e_shown l.b) l.t) l.base l.shift (2 ^ l.u) → AreEntries first l.m (row (e_shown l.b) l.t) l.base l.shift (2 ^ l.u + l.y);
}
