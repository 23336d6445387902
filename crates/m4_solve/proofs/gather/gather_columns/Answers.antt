use Rattle.std.proofs.Common.{refl, ap, arith}
use Rattle.m4_mzed.specs.EWindow.{EWindow, content}
use Rattle.m4_mzed.specs.ESeen.{e_shown}
use Rattle.m4_trsm.proofs.Windows.{stays_more}
use Rattle.m4_solve.proofs.Gathers.{gathered_run, run_within}
use Rattle.m4_solve.proofs.gather.gather_columns.Goals as goal

pub loop-s-init : goal.loop-s-init
loop-s-init c = record {
  kept = refl;
  within = omega arith;
  columns = λ i u below before. absurd (omega (arith, before));
}

pub copy_columns-requires-clause-in_cols : goal.copy_columns-requires-clause-in_cols
copy_columns-requires-clause-in_cols c =
    let q = c.args.columns.now in
    run_within q c.loop-s.s c.run_from-count.result (e_shown c.args.w.now).cols c.run_from-count.ensures.some c.run_from-count.ensures.within c.run_from-count.ensures.run c.requires.in_cols

pub loop-s-preserved : goal.loop-s-preserved
loop-s-preserved c =
    let K1 = c.copy_columns.new.g in
    let rows = ap (λ (V : EWindow). V.rows) c.loop-s.invariant.kept in
    record {
      kept = stays_more c.args.g.now c.loop-s.g K1 (content K1) c.loop-s.invariant.kept c.copy_columns.ensures.kept;
      within = c.run_from-count.ensures.within;
      columns = gathered_run (e_shown c.args.w.now) (content c.loop-s.g) (content K1) c.args.columns.now c.args.g.now.rows c.loop-s.s c.run_from-count.result c.loop-s-test.true
          c.run_from-count.ensures.run c.loop-s.invariant.columns
          (λ i u below inside. c.copy_columns.ensures.copied i u (omega (arith, below, rows)) inside)
          (λ i j below left. c.copy_columns.ensures.before i j (omega (arith, below, rows)) left);
    }

pub returns-clause-columns : goal.returns-clause-columns
returns-clause-columns c i s below inside = c.loop-s.invariant.columns i s below (omega arith)
