use Rattle.std.proofs.Common.{ℕ, ◌+◌, ◌*◌, max, refl, arith, lit<, bit_and}
use Rattle.std.specs.Int.{bit_at}
use Rattle.m4_slice.proofs.RunLemmas.{begun_at, closed_up, gathered, eight_of_32, first_16, four_of_16, one_of_4, two_of_8}
use Rattle.m4_slice.proofs.word.gather_4.Goals as goal

pub returns : goal.returns
returns c =
    let x = c.args.word in
    let f : ℕ → ℕ = λ k. bit_at x (k * 4) in
    let ones = begun_at 16 4 x 0x1111111111111111 one_of_4 in
    let twos = closed_up 8 1 4 3 f (bit_and x 0x1111111111111111) c.close_up-twos.result 0x303030303030303 ones two_of_8 (omega arith) refl c.close_up-twos.ensures in
    let fours = closed_up 4 2 8 6 f c.close_up-twos.result c.close_up-fours.result 0xF000F000F000F twos four_of_16 (omega arith) refl c.close_up-fours.ensures in
    let eights = closed_up 2 4 16 12 f c.close_up-fours.result c.close_up-eights.result 0xFF000000FF fours eight_of_32 (omega arith) refl c.close_up-eights.ensures in
    let all = closed_up 1 8 32 24 f c.close_up-eights.result c.close_up.result 0xFFFF eights first_16 (omega arith) refl c.close_up.ensures in
    gathered 4 16 x c.close_up.result 0xFFFF all refl (lit< tt) (λ j. max (bit_at c.close_up-eights.result j) (bit_at c.close_up-eights.result (24 + j))) c.close_up.ensures
