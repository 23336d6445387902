use Rattle.m4_area.proofs.TiedLemmas.{row_at}
use Rattle.m4_area.proofs.words.Words.row.Goals as goal

pub row-requires-clause-place : goal.row-requires-clause-place
row-requires-clause-place c = row_at c.self.inside c.args.r c.self.invariant
