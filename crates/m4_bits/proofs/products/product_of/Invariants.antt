use Rattle.std.proofs.Common.{◌≡◌, ◌/◌, ◌^◌, bit_and, slice_index}
use Rattle.m4_model.specs.Field.{sum_below}
use Rattle.m4_bits.specs.Products.{filled}
use Rattle.m4_bits.proofs.products.product_of.Given as goal

abbrev pub invariant-loop-i : goal.invariant-loop-i
invariant-loop-i g l = l.sum ≡ sum_below l.i (λ i. bit_and (filled g.row.N (bit_and (l.word / 2 ^ i) l.low)) (slice_index l.patterns i))
