use Rattle.std.proofs.Common.{sym, subst}
use Rattle.m4_cmd.specs.Steps.{OperandFails}
use Rattle.m4_cmd.proofs.StepLemmas.{read_as_file, fails_as_file}
use Rattle.m4_cmd.proofs.operands.read_operand.Goals as goal

pub returns-in-Ok-read_started-clause-read : goal.returns-in-Ok-read_started-clause-read
returns-in-Ok-read_started-clause-read g c =
    read_as_file (g.S.Shelf.stock c.args.shelf.now) c.args.form c.args.name.now _ c.in-Ok-read_started.matrix c.in-Ok.ensures.rest c.in-Ok-read_started.ensures.read

pub returns-in-Err-read_started-clause-fails : goal.returns-in-Err-read_started-clause-fails
returns-in-Err-read_started-clause-fails g c =
    subst (OperandFails (g.S.Shelf.stock c.args.shelf.now) c.args.form c.args.name.now c.args.number _ _) (sym c.of_operand.ensures)
    (fails_as_file (g.S.Shelf.stock c.args.shelf.now) c.args.form c.args.name.now c.args.number _ _ _ _ c.in-Err-read_started.fault c.in-Ok.ensures.rest c.in-Ok.ensures.kept
    c.in-Err-read_started.ensures.fails)
