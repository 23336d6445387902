use Rattle.std.proofs.Common.{ℕ, ◌+◌, ◌*◌, max, refl, arith, lit<, bit_and}
use Rattle.std.specs.Int.{bit_at}
use Rattle.m4_slice.proofs.RunLemmas.{begun_at, closed_up, gathered, first_4, one_of_16, two_of_32}
use Rattle.m4_slice.proofs.word.gather_16.Goals as goal

pub returns : goal.returns
returns c =
    let x = c.args.word in
    let f : ℕ → ℕ = λ k. bit_at x (k * 16) in
    let ones = begun_at 4 16 x 0x1000100010001 one_of_16 in
    let twos = closed_up 2 1 16 15 f (bit_and x 0x1000100010001) c.close_up-twos.result 0x300000003 ones two_of_32 (omega arith) refl c.close_up-twos.ensures in
    let all = closed_up 1 2 32 30 f c.close_up-twos.result c.close_up.result 0xF twos first_4 (omega arith) refl c.close_up.ensures in
    gathered 16 4 x c.close_up.result 0xF all refl (lit< tt) (λ j. max (bit_at c.close_up-twos.result j) (bit_at c.close_up-twos.result (30 + j))) c.close_up.ensures
