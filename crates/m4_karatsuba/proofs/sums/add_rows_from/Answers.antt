use Rattle.std.proofs.Common.{arith, ◌∙◌}
use Rattle.m4_mzd.specs.Seen.{shown}
use Rattle.m4_karatsuba.proofs.RowLemmas.{from_none, from_more, from_all}
use Rattle.m4_karatsuba.proofs.sums.add_rows_from.Goals as goal

pub loop-r-init : goal.loop-r-init
loop-r-init c = from_none c.args.dst.now (shown c.args.src.now) c.args.first c.rows-dst_rows.ensures.shape.matrix

pub loop-r-preserved : goal.loop-r-preserved
loop-r-preserved c =
    from_more c.args.dst.now c.loop-r.dst c.add_tail.new.self (shown c.args.src.now) c.args.first c.loop-r.r c.rows-dst_rows.ensures.shape.matrix c.rows-r-end.ensures.matrix
    (omega (arith, c.loop-r-test.true, c.rows-r-end.ensures.rows)) c.requires.in_rows c.requires.same_cols c.loop-r.invariant c.add_tail.ensures

pub returns : goal.returns
returns c =
    c.loop-r.invariant
    ∙ from_all c.args.dst.now (shown c.args.src.now) c.args.first c.loop-r.r c.rows-r-end.ensures.matrix.height (omega (arith, c.loop-r-test.false, c.rows-r-end.ensures.rows))
