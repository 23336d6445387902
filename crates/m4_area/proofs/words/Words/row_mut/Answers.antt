use Rattle.std.proofs.Common.{◌≡◌, arith, ap}
use Rattle.m4_area.proofs.TiedLemmas.{row_at, tied_row}
use Rattle.m4_area.proofs.words.Words.row_mut.Goals as goal

pub row_mut-requires-clause-place : goal.row_mut-requires-clause-place
row_mut-requires-clause-place c = row_at c.self.inside c.args.r c.self.invariant

pub invariant_of-self-lent : goal.invariant_of-self-lent
invariant_of-self-lent c =
    let rows : c.self.inside.rows ≡ c.args.self.now.rows = ap (λ v. v.rows) c.self.view_is in
    λ new. tied_row c.self.inside c.args.r new c.self.invariant (omega (arith, c.requires))
