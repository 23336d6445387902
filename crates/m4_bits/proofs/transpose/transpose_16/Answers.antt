use Rattle.m4_bits.proofs.TransposeLemmas.{low_halves_32, low_halves_16, low_halves_8, low_halves_4, transposed_4}
use Rattle.m4_bits.proofs.transpose.transpose_16.Goals as goal

pub exchange_squares-requires-clause-low : goal.exchange_squares-requires-clause-low
exchange_squares-requires-clause-low c = low_halves_32

pub exchange_squares-requires-2-clause-low : goal.exchange_squares-requires-2-clause-low
exchange_squares-requires-2-clause-low c = low_halves_16

pub exchange_squares-requires-3-clause-low : goal.exchange_squares-requires-3-clause-low
exchange_squares-requires-3-clause-low c = low_halves_8

pub exchange_squares-requires-4-clause-low : goal.exchange_squares-requires-4-clause-low
exchange_squares-requires-4-clause-low c = low_halves_4

pub returns : goal.returns
returns c =
    transposed_4 c.args.block.now c.exchange_squares.new.block c.exchange_squares-2.new.block c.exchange_squares-3.new.block c.exchange_squares-4.new.block
    c.exchange_squares.ensures c.exchange_squares-2.ensures c.exchange_squares-3.ensures c.exchange_squares-4.ensures
