use Rattle.m4_erasure.proofs.source.is_padded.Goals as goal

pub returns-clause-bytes : goal.returns-clause-bytes
returns-clause-bytes c = λ p. (c.type_inv.whole p).fits
