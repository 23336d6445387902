use Rattle.std.proofs.Common.{◌+◌, ◌*◌, arith, ap}
use Rattle.m4_model.specs.Matrix.{at}
use Rattle.m4_mzd.specs.Seen.{shown}
use Rattle.m4_slice.proofs.WidthLemmas.{fills}
use Rattle.m4_slice.proofs.LoadLemmas.{gathered_more, gathered_all, packed_place}
use Rattle.m4_slice.proofs.load.gathered_word.Goals as goal

pub loop-q-preserved : goal.loop-q-preserved
loop-q-preserved c =
    let w = c.args.width in
    let q = c.loop-q.q in
    let A = shown c.args.a.now in
    let fill = fills w c.requires.widths in
    let from = c.loop-q.auto.q in
    gathered_more (c.args.k * w) w q c.args.v fill c.requires.bit (omega (arith, from)) (λ j. at A c.args.r ((c.args.k * 64 + j) * w + c.args.v)) (λ i. at A c.args.r (q * 64 + i))
    c.loop-q.word c.word.result c.gather.result c.loop-q.invariant c.word.ensures c.gather.ensures
    (λ j r is _. ap (at A c.args.r) (packed_place w c.args.k q c.args.v j r fill (omega (arith, from)) is))

pub returns : goal.returns
returns c =
    let w = c.args.width in
    let A = shown c.args.a.now in
    gathered_all w c.args.k c.args.v c.loop-q.q A.cols c.min-end.result (λ j. at A c.args.r ((c.args.k * 64 + j) * w + c.args.v)) c.loop-q.word (fills w c.requires.widths) c.loop-q.invariant
    (omega (arith, c.loop-q-test.false)) (λ x near inside. omega (arith, near, inside, c.min-end.ensures, c.words_for.ensures, c.cols.ensures.cols))
