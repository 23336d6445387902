use Rattle.std.proofs.Common.{List, ◌∷◌, ◌++◌, [], ◌∙◌, take, subst, sym, ap, Option}
use Rattle.std.proofs.lemmas.List.{take_all, take_more}
use Rattle.m4_model.specs.Matrix.{Matrix}
use Rattle.m4_examples.specs.Solved.{AreSolved}
use Rattle.m4_examples.proofs.SolvedLemmas.{solved_more}
use Rattle.m4_examples.proofs.equations.solve_each.Goals as goal

pub loop-side-preserved : goal.loop-side-preserved
loop-side-preserved c =
    let A = c.args.a.now in
    let before = take c.loop-side.side-index c.args.sides.now in
    let split = take_more c.args.sides.now c.loop-side.side-index c.side-item.result c.loop-side-test.true ∙ ap (λ (B : Matrix). before ++ B ∷ []) (sym c.side-item.is) in
    subst (λ (Bs : List Matrix). AreSolved A Bs c.push.new.self.items) (sym {A = List Matrix} split)
    (subst (λ (answers : List (Option Matrix)). AreSolved A (before ++ c.side-item.result ∷ []) answers) (sym c.in_ok-push.ensures.items)
    (solved_more A before c.loop-side.answers.items c.side-item.result c.in_ok-solution.field-0 c.loop-side.invariant c.in_ok-solution.ensures))

pub returns : goal.returns
returns c =
    subst (λ (Bs : List Matrix). AreSolved c.args.a.now Bs c.loop-side.answers.items) (take_all c.loop-side.side-index c.args.sides.now c.loop-side-test.false) c.loop-side.invariant
