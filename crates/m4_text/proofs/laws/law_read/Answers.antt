use Rattle.m4_text.proofs.Once.{read_or_not, never_both, one_matrix, one_fault}
use Rattle.m4_text.proofs.laws.law_read.Goals as goal

pub returns : goal.returns
returns c = record { either = read_or_not; never_both = never_both; one_matrix = one_matrix; one_fault = one_fault }
