use Rattle.std.proofs.Common.{ℕ, set, refl, arith, ap, ◌∙◌}
use Rattle.m4_mzd.specs.Window.{Window}
use Rattle.m4_mzd.specs.Shown.{bits_within}
use Rattle.m4_mzd.proofs.ListedLemmas.{listed_more}
use Rattle.m4_mzd.proofs.win_mut.WinMut.write_rows.Goals as goal

pub loop-r-init : goal.loop-r-init
loop-r-init g c = record { so_far = refl; all = c.rows-r-end.ensures.rows }

pub loop-r-preserved : goal.loop-r-preserved
loop-r-preserved g c = record {
  so_far = listed_more c.index-rows-r.result (bits_within c.args.self.now.cols) c.args.self.now c.loop-r.self c.set_row.new.self c.args.rows.now c.loop-r.r
      (omega (arith, c.requires.as_many, c.rows-r-end.ensures.rows, c.loop-r-test.true))
      (omega (arith, c.rows-r-end.ensures.shape.matrix.height, c.rows-r-end.ensures.rows, c.loop-r-test.true))
      c.index-rows-r.is c.loop-r.invariant.so_far
      (c.set_row.ensures ∙ ap {B = Window} (λ (k : ℕ). record c.loop-r.self { bits = set c.loop-r.self.bits c.loop-r.r (bits_within k c.index-rows-r.result) }) (ap (λ (w : Window). w.cols) c.loop-r.invariant.so_far));
  all = c.rows-r-end.ensures.rows;
}
