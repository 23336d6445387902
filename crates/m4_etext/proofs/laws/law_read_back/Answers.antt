use Rattle.m4_etext.proofs.EachForm.{read_back}
use Rattle.m4_etext.proofs.laws.law_read_back.Goals as goal

pub returns : goal.returns
returns c = read_back
