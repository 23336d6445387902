use Rattle.std.proofs.Common.{[], ◌∙◌, map, subst, List, ℕ}
use Rattle.std.proofs.lemmas.List.{take_all, length-map}
use Rattle.std.proofs.lemmas.Result.{err_from_is_err_and}
use Rattle.m4_cmd.specs.Steps.{AreReadAs}
use Rattle.m4_cmd.proofs.StepLemmas.{read_next, fails_next}
use Rattle.m4_cmd.proofs.operands.read_operands.Goals as goal

pub returns-in_err-matrix-clause-fails : goal.returns-in_err-matrix-clause-fails
returns-in_err-matrix-clause-fails g c =
    let p = err_from_is_err_and c.from_residual.result c.from_residual.ensures.1 in
    rw (p.1, p.2)
    (fails_next (λ name. name.now) c.args.names.now c.loop-index.index (record { ref_ptr = (0, 0); now = [] }) (g.S.Shelf.stock c.args.shelf.now) (g.S.Shelf.stock c.loop-index.shelf)
    c.args.form c.loop-index.matrices.items c.loop-index.invariant.stock c.loop-index-test.true c.loop-index.invariant.read _ _ _ c.in_err-matrix.field-0.0 c.loop-index.invariant.kept
    c.in_err-matrix.ensures.fails)

pub loop-index-preserved : goal.loop-index-preserved
loop-index-preserved g c = record {
  stock = c.in_ok-matrix.ensures.stock ∙ c.loop-index.invariant.stock;
  kept = c.in_ok-matrix.ensures.kept ∙ c.loop-index.invariant.kept;
  read = read_next (λ name. name.now) c.args.names.now c.loop-index.index (record { ref_ptr = (0, 0); now = [] }) (g.S.Shelf.stock c.args.shelf.now) (g.S.Shelf.stock c.loop-index.shelf)
      c.args.form c.loop-index.matrices.items c.loop-index.invariant.stock c.loop-index-test.true c.loop-index.invariant.read c.in_ok-matrix.matrix c.push.new.self.items
      c.in_ok-push.ensures.items c.in_ok-matrix.ensures.read;
}

pub returns-clause-read : goal.returns-clause-read
returns-clause-read g c =
    let names = map (λ name. name.now) c.args.names.now in
    let P : List (List ℕ) → Type 0 = λ ns. AreReadAs (g.S.Shelf.stock c.args.shelf.now) c.args.form ns c.loop-index.matrices.items in
    subst P (take_all c.loop-index.index names (rw (length-map c.args.names.now (λ name. name.now)) c.loop-index-test.false)) c.loop-index.invariant.read
