use Rattle.std.proofs.Common.{◌≡◌, ℕ, ◌<◌}
use Rattle.m4_model.specs.Matrix.{at}
use Rattle.m4_cert.proofs.zeros.is_zero_row.Given as goal

-- the first c entries are zero
abbrev pub invariant-loop-c : goal.invariant-loop-c
invariant-loop-c l = (j : ℕ) → j < l.c → at l.m l.r j ≡ 0
