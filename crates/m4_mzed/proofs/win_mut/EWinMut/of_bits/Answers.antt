use Rattle.std.proofs.Common.{ℕ, sym, subst}
use Rattle.m4_model.specs.Field.{Field, gf2}
use Rattle.m4_mzed.specs.Packed.{IsPacked}
use Rattle.m4_mzed.proofs.BitLemmas.{packed_gf2, shows_bits}
use Rattle.m4_mzed.proofs.win_mut.EWinMut.of_bits.Goals as goal

pub invariant_of-result : goal.invariant_of-result
invariant_of-result c =
    let P : Field → Type 0 = λ F. IsPacked F c.cols.result c.args.bits in
    let Q : ℕ → Type 0 = λ n. IsPacked gf2 n c.args.bits in
    subst P (sym c.gf2.ensures) (subst Q (sym c.cols.ensures.cols) (packed_gf2 c.args.bits c.rows-rows.ensures.shape))

pub returns-clause-content : goal.returns-clause-content
returns-clause-content c = shows_bits _ c.cols.result c.args.bits c.rows-rows.ensures.shape c.gf2.ensures c.cols.ensures.cols
