use Rattle.std.proofs.Common.{ℕ, sym, ◌∙◌, refl, ap, subst, arith, List}
use Rattle.std.specs.List.{range_with_len}
use Rattle.m4_mzed.specs.EWindow.{EWindow, content, showing}
use Rattle.m4_ple.specs.Elimination.{IsEliminated}
use Rattle.m4_ple.proofs.Eliminated.{eliminated_start, eliminated_done, eliminated_before, rank_reached}
use Rattle.m4_ple.proofs.plain.ple_by_columns.Goals as goal

pub loop-c-init : goal.loop-c-init
loop-c-init g c =
    let A = content c.args.a.now in
    record {
      kept = refl;
      pivots = refl;
      eliminated = subst (λ (p : List ℕ). IsEliminated A p c.args.q.now 0 0 A) (sym (c.number.ensures ∙ ap (range_with_len 0) c.requires.exchanges))
          (eliminated_start A c.args.q.now c.rows-rows.ensures.matrix);
      serves = λ F cols before. before;
    }

pub eliminate_column-rank-requires-clause-reached : goal.eliminate_column-rank-requires-clause-reached
eliminate_column-rank-requires-clause-reached g c = rank_reached c.loop-c.invariant.eliminated

pub eliminate_column-rank-requires-clause-blank : goal.eliminate_column-rank-requires-clause-blank
eliminate_column-rank-requires-clause-blank g c i from below left =
    let old = c.loop-c.invariant.eliminated in
    let rows = old.shape.rows in
    eliminated_before old i c.loop-c.rank from (omega (arith, below, rows)) (omega arith) left

pub loop-c-preserved : goal.loop-c-preserved
loop-c-preserved g c =
    let step = c.eliminate_column-rank in
    record {
      kept = step.ensures.kept ∙ ap (λ (V : EWindow). showing V (content step.new.a)) c.loop-c.invariant.kept;
      pivots = step.ensures.pivots ∙ c.loop-c.invariant.pivots;
      eliminated = step.ensures.eliminated (content c.args.a.now) c.loop-c.invariant.eliminated;
      serves = λ F cols before. step.ensures.serves F cols (c.loop-c.invariant.serves F cols before);
    }

pub returns-clause-factors : goal.returns-clause-factors
returns-clause-factors g c = eliminated_done c.loop-c.invariant.eliminated (omega arith)
