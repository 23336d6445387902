use Rattle.std.proofs.Common.{refl, arith, bit_and}
use Rattle.std.specs.Int.{bit_at}
use Rattle.m4_slice.proofs.RunLemmas.{begun_first, drawn_apart, is_spread, first_4, one_of_16, two_of_32}
use Rattle.m4_slice.proofs.word.spread_16.Goals as goal

pub returns : goal.returns
returns c =
    let x = c.args.word in
    let first = begun_first 4 x 0xF first_4 in
    let twos = drawn_apart 1 2 32 30 (bit_at x) (bit_and x 0xF) c.draw_apart-twos.result 0x300000003 first two_of_32 (omega arith) refl refl c.draw_apart-twos.ensures in
    let all = drawn_apart 2 1 16 15 (bit_at x) c.draw_apart-twos.result c.draw_apart.result 0x1000100010001 twos one_of_16 (omega arith) refl refl c.draw_apart.ensures in
    is_spread 16 4 x c.draw_apart.result all refl
