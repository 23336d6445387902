use Rattle.std.proofs.Common.{refl, arith, bit_and}
use Rattle.std.specs.Int.{bit_at}
use Rattle.m4_slice.proofs.RunLemmas.{begun_first, drawn_apart, is_spread, first_8, four_of_32, one_of_8, two_of_16}
use Rattle.m4_slice.proofs.word.spread_8.Goals as goal

pub returns : goal.returns
returns c =
    let x = c.args.word in
    let first = begun_first 8 x 0xFF first_8 in
    let fours = drawn_apart 1 4 32 28 (bit_at x) (bit_and x 0xFF) c.draw_apart-fours.result 0xF0000000F first four_of_32 (omega arith) refl refl c.draw_apart-fours.ensures in
    let twos = drawn_apart 2 2 16 14 (bit_at x) c.draw_apart-fours.result c.draw_apart-twos.result 0x3000300030003 fours two_of_16 (omega arith) refl refl c.draw_apart-twos.ensures in
    let all = drawn_apart 4 1 8 7 (bit_at x) c.draw_apart-twos.result c.draw_apart.result 0x101010101010101 twos one_of_8 (omega arith) refl refl c.draw_apart.ensures in
    is_spread 8 8 x c.draw_apart.result all refl
