use Rattle.m4_bits.proofs.EightLemmas.{read_at, other_at}
use Rattle.m4_bits.proofs.digits.bits_of_eight.Goals as goal

pub returns-then-bits-eq0-clause-bits : goal.returns-then-bits-eq0-clause-bits
returns-then-bits-eq0-clause-bits c =
    let byte = c.from_le_bytes-bits.ensures in
    rw byte (read_at c.args.digits.now c.args.start (λ k. (c.type_inv.digits k).fits) c.requires (rw byte at c.if-bits-eq0.true))

pub returns-else-bits-eq0-clause-other : goal.returns-else-bits-eq0-clause-other
returns-else-bits-eq0-clause-other c =
    let byte = c.from_le_bytes-bits.ensures in
    other_at c.args.digits.now c.args.start (λ k. (c.type_inv.digits k).fits) c.requires (rw byte at c.if-bits-eq0.false)
