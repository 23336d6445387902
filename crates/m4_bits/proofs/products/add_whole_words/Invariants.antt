use Rattle.std.proofs.Common.{◌≡◌, ℕ, ◌<◌, ◌≤◌, length, bit_xor, get_or}
use Rattle.m4_bits.specs.Products.{products}
use Rattle.m4_bits.proofs.products.add_whole_words.Given as goal

abbrev pub invariant-loop-k : goal.invariant-loop-k
invariant-loop-k g l =
    (length l.dst ≡ length l.fn.dst)
    × ((k : ℕ) → l.from ≤ k → k < l.k → get_or l.dst k 0 ≡ bit_xor (get_or l.fn.dst k 0) (products g.row.N l.low l.patterns (get_or l.src k 0)))
    × ((k : ℕ) → k < l.from → get_or l.dst k 0 ≡ get_or l.fn.dst k 0)
    × ((k : ℕ) → l.k ≤ k → get_or l.dst k 0 ≡ get_or l.fn.dst k 0)
