use Rattle.m4_bits.proofs.TransposeLemmas.{low_halves_32, low_halves_16, low_halves_8, transposed_8}
use Rattle.m4_bits.proofs.transpose.transpose_8.Goals as goal

pub exchange_squares-requires-clause-low : goal.exchange_squares-requires-clause-low
exchange_squares-requires-clause-low c = low_halves_32

pub exchange_squares-requires-2-clause-low : goal.exchange_squares-requires-2-clause-low
exchange_squares-requires-2-clause-low c = low_halves_16

pub exchange_squares-requires-3-clause-low : goal.exchange_squares-requires-3-clause-low
exchange_squares-requires-3-clause-low c = low_halves_8

pub returns : goal.returns
returns c =
    transposed_8 c.args.block.now c.exchange_squares.new.block c.exchange_squares-2.new.block c.exchange_squares-3.new.block
    c.exchange_squares.ensures c.exchange_squares-2.ensures c.exchange_squares-3.ensures
