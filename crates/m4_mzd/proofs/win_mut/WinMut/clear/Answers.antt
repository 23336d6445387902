use Rattle.std.proofs.Common.{refl, arith, ◌∙◌}
use Rattle.m4_mzd.proofs.PairLemmas.{cleared_more, cleared_all}
use Rattle.m4_mzd.proofs.win_mut.WinMut.clear.Goals as goal

pub loop-r-init : goal.loop-r-init
loop-r-init c = record { so_far = refl; all = c.rows-r-end.ensures.rows }

pub loop-r-preserved : goal.loop-r-preserved
loop-r-preserved c = record {
  so_far = cleared_more c.args.self.now c.loop-r.self c.clear_row.new.self c.loop-r.r
      (omega (arith, c.rows-r-end.ensures.shape.matrix.height, c.rows-r-end.ensures.rows, c.loop-r-test.true))
      c.loop-r.invariant.so_far c.clear_row.ensures;
  all = c.rows-r-end.ensures.rows;
}

pub clear_row-requires : goal.clear_row-requires
clear_row-requires c = rw c.loop-r.invariant.so_far (omega (arith, c.rows-r-end.ensures.rows, c.loop-r-test.true))

pub returns : goal.returns
returns c =
    c.loop-r.invariant.so_far
    ∙ cleared_all c.args.self.now c.loop-r.r c.rows-r-end.ensures.shape (omega (arith, c.rows-r-end.ensures.rows, c.loop-r.auto.r-end, c.loop-r-test.false))
