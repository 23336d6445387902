use Rattle.std.proofs.Common.{sym, arith}
use Rattle.std.proofs.lemmas.Bool.{true≢false}
use Rattle.m4_mzd.proofs.EqualLemmas.{same_words}
use Rattle.m4_mzd.proofs.mzd.equal.have_same_bits.Goals as goal

pub returns-then-a-place : goal.returns-then-a-place
returns-then-a-place c =
    let k = c.loop-place.place in (
      λ no. absurd (true≢false (sym no)),
      λ same. absurd (c.if-a-place.true (same_words c.args.a.now c.args.b.now k (omega (arith, c.type_inv.a k)) (omega (arith, c.type_inv.b k)) same)),
    )
