use Rattle.std.proofs.Common.{◌≡◌, bit_xor}
use Rattle.m4_model.specs.Matrix.{at}
use Rattle.m4_mzd.specs.Window.{content}
use Rattle.m4_mzd.specs.Seen.{shown}
use Rattle.m4_slice.specs.Sliced.{bits_spread}
use Rattle.m4_slice.proofs.LoadLemmas.{rows_taken}
use Rattle.m4_slice.proofs.join.spread_slices.Given as goal

abbrev pub invariant-loop-i : goal.invariant-loop-i
invariant-loop-i l = l.dst ≡ rows_taken l.fn.dst (λ i p. bit_xor (at (content l.fn.dst) i p) (at (bits_spread l.width l.count l.fn.dst.rows (shown l.slices)) i p)) l.i
