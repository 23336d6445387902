use Rattle.m4_bits.proofs.TransposeLemmas.{low_halves_32, low_halves_16, transposed_16}
use Rattle.m4_bits.proofs.transpose.transpose_4.Goals as goal

pub exchange_squares-requires-clause-low : goal.exchange_squares-requires-clause-low
exchange_squares-requires-clause-low c = low_halves_32

pub exchange_squares-requires-2-clause-low : goal.exchange_squares-requires-2-clause-low
exchange_squares-requires-2-clause-low c = low_halves_16

pub returns : goal.returns
returns c =
    transposed_16 c.args.block.now c.exchange_squares.new.block c.exchange_squares-2.new.block
    c.exchange_squares.ensures c.exchange_squares-2.ensures
