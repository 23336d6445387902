use Rattle.std.proofs.Common.{◌≡◌, ◌∙◌, subst, ap}
use Rattle.std.proofs.lemmas.List.{take_at}
use Rattle.m4_model.specs.Matrix.{Matrix, IsMatrix, HasShape}
use Rattle.m4_mzed.specs.EWindow.{EWindow, content}
use Rattle.std.specs.Vec.{with_items}
use Rattle.m4_solve.specs.Factored.{IsFactored}
use Rattle.m4_solve.specs.declared.factored.Factored.{Factored}
use Rattle.m4_solve.proofs.Fronts.{front_back}
use Rattle.m4_solve.proofs.Solved.{factored_from}
use Rattle.m4_solve.proofs.factored.Factored.new.Goals as goal

pub returns-clause-factored : goal.returns-clause-factored
returns-clause-factored g c =
    let all0 = c.all_mut-all.result.0 in
    let all1 = c.ple_by_halves-rank.new.a in
    let p = c.ple_by_halves-rank.new.p in
    let q = c.ple_by_halves-rank.new.q in
    let r = c.ple_by_halves-rank.result in
    let given : content all0 ≡ c.args.a = c.all_mut-all.ensures.content in
    let kept = c.ple_by_halves-rank.ensures.kept in
    let shape : HasShape all0.field all0.rows all0.cols (content all1) = record {
      is_matrix = subst IsMatrix c.put_all-2.ensures c.rows-shape.ensures.matrix;
      over = ap (λ (V : EWindow). V.field) kept;
      rows = ap (λ (V : EWindow). V.rows) kept;
      cols = ap (λ (V : EWindow). V.cols) kept;
    } in
    let f : Factored = record { matrix = c.put_all-2.new.self; exchanges = with_items c.in_ok-exchanges.exchanges p; pivots = c.truncate.new.self } in
    subst (λ (A : Matrix). IsFactored A f) given
    (factored_from (content all0) (content all1) f p q r c.put_all-2.ensures
    (take_at p _ c.in_ok-exchanges.exchanges.len (c.ple_by_halves-rank.ensures.all ∙ c.deref_mut.ensures.len))
    (c.truncate.ensures.items ∙ front_back r c.in_ok-pivots.pivots.len q _ c.ple_by_halves-rank.ensures.rank (c.ple_by_halves-rank.ensures.room ∙ c.deref_mut-2.ensures.len))
    c.ple_by_halves-rank.ensures.rank shape c.ple_by_halves-rank.ensures.exchanges c.ple_by_halves-rank.ensures.few_rows c.ple_by_halves-rank.ensures.few_cols
    c.ple_by_halves-rank.ensures.in_cols c.ple_by_halves-rank.ensures.factors)
