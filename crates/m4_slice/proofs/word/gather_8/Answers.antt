use Rattle.std.proofs.Common.{ℕ, ◌+◌, ◌*◌, max, refl, arith, lit<, bit_and}
use Rattle.std.specs.Int.{bit_at}
use Rattle.m4_slice.proofs.RunLemmas.{begun_at, closed_up, gathered, first_8, four_of_32, one_of_8, two_of_16}
use Rattle.m4_slice.proofs.word.gather_8.Goals as goal

pub returns : goal.returns
returns c =
    let x = c.args.word in
    let f : ℕ → ℕ = λ k. bit_at x (k * 8) in
    let ones = begun_at 8 8 x 0x101010101010101 one_of_8 in
    let twos = closed_up 4 1 8 7 f (bit_and x 0x101010101010101) c.close_up-twos.result 0x3000300030003 ones two_of_16 (omega arith) refl c.close_up-twos.ensures in
    let fours = closed_up 2 2 16 14 f c.close_up-twos.result c.close_up-fours.result 0xF0000000F twos four_of_32 (omega arith) refl c.close_up-fours.ensures in
    let all = closed_up 1 4 32 28 f c.close_up-fours.result c.close_up.result 0xFF fours first_8 (omega arith) refl c.close_up.ensures in
    gathered 8 8 x c.close_up.result 0xFF all refl (lit< tt) (λ j. max (bit_at c.close_up-fours.result j) (bit_at c.close_up-fours.result (28 + j))) c.close_up.ensures
