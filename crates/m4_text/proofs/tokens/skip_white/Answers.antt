use Rattle.std.proofs.Common.{arith, sym, ◌∙◌}
use Rattle.m4_text.proofs.TokenLemmas.{skip_one}
use Rattle.m4_text.proofs.tokens.skip_white.Goals as goal

pub loop-place-preserved : goal.loop-place-preserved
loop-place-preserved c = record {
  behind = omega (arith, c.loop-place.invariant.behind);
  within = omega arith;
  same = c.loop-place.invariant.same
      ∙ skip_one c.args.bytes.now c.loop-place.place c.loop-place-test.true (sym c.is_white.ensures ∙ c.if-is_white.true);
}
