use Rattle.std.proofs.Common.{subst}
use Rattle.m4_model.specs.Matrix.{Matrix, row}
use Rattle.m4_eple.specs.Clearing.{IsClearing}
use Rattle.m4_eple.proofs.by_tables.ByTablesClearBelow.clear_below.Goals as goal

pub returns-clause-cleared : goal.returns-clause-cleared
returns-clause-cleared c =
    c.clear_by_table.ensures c.args.inverse
    (subst (λ (M : Matrix). IsClearing M.field c.args.inverse c.args.r c.args.c (row M c.args.r) c.fill_from.new.table.row) c.see.ensures c.fill_from.ensures.clearing)
