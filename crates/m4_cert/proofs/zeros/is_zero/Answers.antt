use Rattle.std.proofs.Common.{refl, arith}
use Rattle.m4_cert.proofs.ZeroLemmas.{zeros_from, no_nonzero}
use Rattle.m4_cert.proofs.zeros.is_zero.Goals as goal

pub returns-then-not-is_zero_row-clause-zeros : goal.returns-then-not-is_zero_row-clause-zeros
returns-then-not-is_zero_row-clause-zeros c = (
  λ zeros. absurd cc,
  λ zero. absurd (no_nonzero c.args.m.now zero (c.is_zero_row.ensures.nonzero c.if-not-is_zero_row.true)),
)

pub returns-clause-zeros : goal.returns-clause-zeros
returns-clause-zeros c = (
  λ zeros. zeros_from c.args.m.now c.rows-r-end.ensures.matrix (λ i j in_rows in_cols.
      c.loop-r.invariant i j (omega (arith, in_rows, c.loop-r-test.false, c.rows-r-end.ensures.rows)) in_cols),
  λ zero. refl,
)

pub returns-clause-nonzero : goal.returns-clause-nonzero
returns-clause-nonzero c = (
  λ nonzero. absurd cc,
  λ found. absurd (found.4 (c.loop-r.invariant found.0 found.1 (let within = found.2 in omega (arith, within, c.loop-r-test.false, c.rows-r-end.ensures.rows)) found.3)),
)
