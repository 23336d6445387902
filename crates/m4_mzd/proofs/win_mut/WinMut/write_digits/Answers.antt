use Rattle.std.proofs.Common.{refl, arith}
use Rattle.m4_mzd.specs.Rows.{bits_of_digits}
use Rattle.m4_mzd.proofs.ListedLemmas.{listed_more}
use Rattle.m4_mzd.proofs.win_mut.WinMut.write_digits.Goals as goal

pub loop-r-init : goal.loop-r-init
loop-r-init g c = record { so_far = refl; all = c.rows-r-end.ensures.rows }

pub loop-r-preserved : goal.loop-r-preserved
loop-r-preserved g c = record {
  so_far = listed_more c.index-rows-r.result bits_of_digits c.args.self.now c.loop-r.self c.write_digits_of_row.new.self c.args.rows.now c.loop-r.r
      (omega (arith, c.requires.as_many, c.rows-r-end.ensures.rows, c.loop-r-test.true))
      (omega (arith, c.rows-r-end.ensures.shape.matrix.height, c.rows-r-end.ensures.rows, c.loop-r-test.true))
      c.index-rows-r.is c.loop-r.invariant.so_far
      c.write_digits_of_row.ensures;
  all = c.rows-r-end.ensures.rows;
}
