use Rattle.std.proofs.Common.{◌∙◌, subst, sym}
use Rattle.std.proofs.lemmas.Bool.{eqb-true, eq-eqb}
use Rattle.m4_model.specs.Rank.{IsRank}
use Rattle.m4_model.proofs.RankLemmas.{same_rank}
use Rattle.m4_examples.proofs.codes.are_independent.Goals as goal

pub returns : goal.returns
returns c = (
  λ yes. subst (IsRank c.args.checks.now) (eqb-true _ _ yes ∙ c.rows.ensures.rows) c.in_ok-rank.ensures,
  λ is. eq-eqb _ _ (same_rank c.args.checks.now _ _ c.in_ok-rank.ensures is ∙ sym c.rows.ensures.rows),
)
