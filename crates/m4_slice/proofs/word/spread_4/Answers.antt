use Rattle.std.proofs.Common.{refl, arith, bit_and}
use Rattle.std.specs.Int.{bit_at}
use Rattle.m4_slice.proofs.RunLemmas.{begun_first, drawn_apart, is_spread, eight_of_32, first_16, four_of_16, one_of_4, two_of_8}
use Rattle.m4_slice.proofs.word.spread_4.Goals as goal

pub returns : goal.returns
returns c =
    let x = c.args.word in
    let first = begun_first 16 x 0xFFFF first_16 in
    let eights = drawn_apart 1 8 32 24 (bit_at x) (bit_and x 0xFFFF) c.draw_apart-eights.result 0xFF000000FF first eight_of_32 (omega arith) refl refl c.draw_apart-eights.ensures in
    let fours = drawn_apart 2 4 16 12 (bit_at x) c.draw_apart-eights.result c.draw_apart-fours.result 0xF000F000F000F eights four_of_16 (omega arith) refl refl c.draw_apart-fours.ensures in
    let twos = drawn_apart 4 2 8 6 (bit_at x) c.draw_apart-fours.result c.draw_apart-twos.result 0x303030303030303 fours two_of_8 (omega arith) refl refl c.draw_apart-twos.ensures in
    let all = drawn_apart 8 1 4 3 (bit_at x) c.draw_apart-twos.result c.draw_apart.result 0x1111111111111111 twos one_of_4 (omega arith) refl refl c.draw_apart.ensures in
    is_spread 4 16 x c.draw_apart.result all refl
