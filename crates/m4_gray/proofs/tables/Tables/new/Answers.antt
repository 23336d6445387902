use Rattle.m4_gray.proofs.SlotLemmas.{slots-new}
use Rattle.m4_gray.proofs.tables.Tables.new.Goals as goal

pub invariant_of-result : goal.invariant_of-result
invariant_of-result c =
    slots-new c.args.k c.args.tables c.args.cols c.in_ok-entries.entries c.requires.some_k c.requires.small_k c.requires.some_tables c.requires.few_tables c.requires.few_cols
    c.in_ok-entries.ensures
