use Rattle.m4_text.proofs.JcfBack.{read_back}
use Rattle.m4_text.proofs.laws.law_read_back.Goals as goal

pub returns : goal.returns
returns c = read_back
