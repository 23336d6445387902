use Rattle.m4_text.proofs.Refusals.{length-text-le}
use Rattle.m4_text.proofs.laws.law_text_len.Goals as goal

pub returns : goal.returns
returns c = length-text-le
