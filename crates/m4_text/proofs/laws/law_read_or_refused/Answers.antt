use Rattle.m4_text.proofs.Refusals.{read_or_refused}
use Rattle.m4_text.proofs.laws.law_read_or_refused.Goals as goal

pub returns : goal.returns
returns c = read_or_refused
