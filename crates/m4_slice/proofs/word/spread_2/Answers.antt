use Rattle.std.proofs.Common.{refl, arith, bit_and}
use Rattle.std.specs.Int.{bit_at}
use Rattle.m4_slice.proofs.RunLemmas.{begun_first, drawn_apart, is_spread, eight_of_16, first_32, four_of_8, one_of_2, sixteen_of_32, two_of_4}
use Rattle.m4_slice.proofs.word.spread_2.Goals as goal

pub returns : goal.returns
returns c =
    let x = c.args.word in
    let first = begun_first 32 x 0xFFFFFFFF first_32 in
    let sixteens = drawn_apart 1 16 32 16 (bit_at x) (bit_and x 0xFFFFFFFF) c.draw_apart-sixteens.result 0xFFFF0000FFFF first sixteen_of_32 (omega arith) refl refl c.draw_apart-sixteens.ensures in
    let eights = drawn_apart 2 8 16 8 (bit_at x) c.draw_apart-sixteens.result c.draw_apart-eights.result 0xFF00FF00FF00FF sixteens eight_of_16 (omega arith) refl refl c.draw_apart-eights.ensures in
    let fours = drawn_apart 4 4 8 4 (bit_at x) c.draw_apart-eights.result c.draw_apart-fours.result 0xF0F0F0F0F0F0F0F eights four_of_8 (omega arith) refl refl c.draw_apart-fours.ensures in
    let twos = drawn_apart 8 2 4 2 (bit_at x) c.draw_apart-fours.result c.draw_apart-twos.result 0x3333333333333333 fours two_of_4 (omega arith) refl refl c.draw_apart-twos.ensures in
    let all = drawn_apart 16 1 2 1 (bit_at x) c.draw_apart-twos.result c.draw_apart.result 0x5555555555555555 twos one_of_2 (omega arith) refl refl c.draw_apart.ensures in
    is_spread 2 32 x c.draw_apart.result all refl
