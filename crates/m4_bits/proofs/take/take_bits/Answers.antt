use Rattle.std.proofs.Common.{◌≡◌, ℕ, List, ◌+◌, ◌-◌, ◌*◌, ◌/◌, ◌%◌, ◌^◌, ◌<◌, get_or, bit_or, subst, sym, arith, ◌∙◌}
use Rattle.std.specs.Int.{bit_at}
use Rattle.m4_bits.specs.Bits.{bit}
use Rattle.m4_bits.proofs.TakeLemmas.{bit_in_word, bit_across}
use Rattle.m4_bits.proofs.take.take_bits.Goals as goal

-- two words that meet, however the place of the second is worked out
across_at : (row : List ℕ) (j i k : ℕ) → k ≡ j / 64 + 1 → get_or row (j / 64) 0 < 2 ^ 64 → i < 64 → 0 < j % 64
    → bit_at (bit_or (get_or row (j / 64) 0 / 2 ^ (j % 64)) (get_or row k 0 * 2 ^ (64 - j % 64) % 2 ^ 64)) i ≡ bit row (j + i)
across_at row j i k place fits small some =
    subst (λ n. bit_at (bit_or (get_or row (j / 64) 0 / 2 ^ (j % 64)) (get_or row n 0 * 2 ^ (64 - j % 64) % 2 ^ 64)) i ≡ bit row (j + i)) (sym place)
    (bit_across row j i fits small some)

pub returns-then-first-n-le64-clause-bits : goal.returns-then-first-n-le64-clause-bits
returns-then-first-n-le64-clause-bits c = λ i below.
    c.lowest_bits.ensures.bits i below ∙ bit_in_word c.args.row.now c.args.j i (omega arith)

pub returns-else-first-n-le64-clause-bits : goal.returns-else-first-n-le64-clause-bits
returns-else-first-n-le64-clause-bits c = λ i below.
    c.lowest_bits-else-first-n-le64.ensures.bits i below ∙ across_at c.args.row.now c.args.j i _ (omega arith) (omega arith) (omega arith) (omega arith)
