use Rattle.std.proofs.Common.{ℕ, ◌+◌, ◌*◌, max, refl, arith, lit<, bit_and}
use Rattle.std.specs.Int.{bit_at}
use Rattle.m4_slice.proofs.RunLemmas.{begun_at, closed_up, gathered, eight_of_16, first_32, four_of_8, one_of_2, sixteen_of_32, two_of_4}
use Rattle.m4_slice.proofs.word.gather_2.Goals as goal

pub returns : goal.returns
returns c =
    let x = c.args.word in
    let f : ℕ → ℕ = λ k. bit_at x (k * 2) in
    let ones = begun_at 32 2 x 0x5555555555555555 one_of_2 in
    let twos = closed_up 16 1 2 1 f (bit_and x 0x5555555555555555) c.close_up-twos.result 0x3333333333333333 ones two_of_4 (omega arith) refl c.close_up-twos.ensures in
    let fours = closed_up 8 2 4 2 f c.close_up-twos.result c.close_up-fours.result 0xF0F0F0F0F0F0F0F twos four_of_8 (omega arith) refl c.close_up-fours.ensures in
    let eights = closed_up 4 4 8 4 f c.close_up-fours.result c.close_up-eights.result 0xFF00FF00FF00FF fours eight_of_16 (omega arith) refl c.close_up-eights.ensures in
    let sixteens = closed_up 2 8 16 8 f c.close_up-eights.result c.close_up-sixteens.result 0xFFFF0000FFFF eights sixteen_of_32 (omega arith) refl c.close_up-sixteens.ensures in
    let all = closed_up 1 16 32 16 f c.close_up-sixteens.result c.close_up.result 0xFFFFFFFF sixteens first_32 (omega arith) refl c.close_up.ensures in
    gathered 2 32 x c.close_up.result 0xFFFFFFFF all refl (lit< tt) (λ j. max (bit_at c.close_up-sixteens.result j) (bit_at c.close_up-sixteens.result (16 + j))) c.close_up.ensures
