use Rattle.std.proofs.Common.{refl, arith, ◌∙◌}
use Rattle.m4_mzd.specs.Seen.{shown}
use Rattle.m4_mzd.proofs.PairLemmas.{copied_more, copied_all}
use Rattle.m4_mzd.proofs.win_mut.WinMut.copy_rows.Goals as goal

pub loop-r-init : goal.loop-r-init
loop-r-init c = record { so_far = refl; all = c.rows-r-end.ensures.rows }

pub copy_row-requires : goal.copy_row-requires
copy_row-requires c = rw c.loop-r.invariant.so_far (record {
  in_rows = omega (arith, c.rows-r-end.ensures.rows, c.loop-r-test.true);
  in_from = omega (arith, c.rows-r-end.ensures.rows, c.requires.same_rows, c.loop-r-test.true);
  same_cols = c.requires.same_cols;
})

pub loop-r-preserved : goal.loop-r-preserved
loop-r-preserved c = record {
  so_far = copied_more c.args.self.now c.loop-r.self c.copy_row.new.self (shown c.args.from.now).entries c.loop-r.r
      (omega (arith, c.rows-rows.ensures.matrix.height, c.requires.same_rows, c.rows-r-end.ensures.rows, c.loop-r-test.true))
      (omega (arith, c.rows-r-end.ensures.shape.matrix.height, c.rows-r-end.ensures.rows, c.loop-r-test.true))
      c.loop-r.invariant.so_far c.copy_row.ensures;
  all = c.rows-r-end.ensures.rows;
}

pub returns : goal.returns
returns c =
    c.loop-r.invariant.so_far
    ∙ copied_all c.args.self.now (shown c.args.from.now).entries c.loop-r.r
    (omega (arith, c.rows-rows.ensures.matrix.height, c.requires.same_rows, c.rows-r-end.ensures.rows, c.loop-r.auto.r-end, c.loop-r-test.false))
    (omega (arith, c.rows-r-end.ensures.shape.matrix.height, c.rows-r-end.ensures.rows, c.loop-r.auto.r-end, c.loop-r-test.false))
