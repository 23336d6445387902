use Rattle.std.proofs.Common.{◌+◌, ◌*◌, ◌/◌, ◌%◌, ◌<◌, arith, ◌∙◌}
use Rattle.m4_model.specs.Matrix.{at, row}
use Rattle.m4_mzd.specs.Seen.{shown}
use Rattle.m4_slice.specs.Sliced.{bits_gathered}
use Rattle.m4_slice.proofs.WidthLemmas.{fills}
use Rattle.m4_slice.proofs.LoadLemmas.{taken_none, taken_more, taken_all, length-gathered, entry-gathered, slices_gathered}
use Rattle.m4_slice.proofs.load.gather_slices.Goals as goal

pub loop-p-init : goal.loop-p-init
loop-p-init c =
    let A = shown c.args.a.now in
    taken_none c.args.slices.now (λ p j. at A (p % A.rows) (j * c.args.width + p / A.rows)) c.rows-rows.ensures.shape.matrix

pub loop-p-preserved : goal.loop-p-preserved
loop-p-preserved c =
    let A = shown c.args.a.now in
    let w = c.args.width in
    let p = c.loop-p.p in
    let d = c.args.slices.now in
    let fill = fills w c.requires.widths in
    let inside : p < d.rows = omega (arith, c.loop-p-test.true, c.rows-p-end.ensures.rows) in
    let below : p < c.args.count * A.rows = omega (arith, inside, c.requires.rows) in
    taken_more d c.loop-p.slices c.gather_row.new.slices (λ p j. at A (p % A.rows) (j * w + p / A.rows)) p (row (bits_gathered w c.args.count A) p) inside
    (length-gathered w c.args.count d.cols p A fill.some c.requires.cols below) (entry-gathered w c.args.count d.cols p A fill.some c.requires.cols below)
    c.loop-p.invariant c.gather_row.ensures

pub returns : goal.returns
returns c =
    let A = shown c.args.a.now in
    let w = c.args.width in
    let d = c.args.slices.now in
    let fill = fills w c.requires.widths in
    c.loop-p.invariant
    ∙ taken_all d (λ p j. at A (p % A.rows) (j * w + p / A.rows)) c.loop-p.p (omega (arith, c.loop-p-test.false, c.rows-p-end.ensures.rows))
    ∙ slices_gathered d w c.args.count A fill.some c.requires.rows c.requires.cols
