use Rattle.std.proofs.Common.{bit_xor}
use Rattle.m4_model.specs.Matrix.{at}
use Rattle.m4_mzd.specs.Window.{content}
use Rattle.m4_mzd.specs.Seen.{shown}
use Rattle.m4_slice.proofs.LoadLemmas.{RowSetTo}
use Rattle.m4_slice.proofs.JoinLemmas.{spread_bit}
use Rattle.m4_slice.proofs.join.spread_row.Given as goal

abbrev pub invariant-loop-q : goal.invariant-loop-q
invariant-loop-q l = RowSetTo l.fn.dst l.dst l.i l.q (λ p. bit_xor (at (content l.fn.dst) l.i p) (spread_bit l.width l.count l.rows (shown l.slices) l.i p))
