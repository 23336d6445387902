use Rattle.m4_etext.proofs.EachForm.{never_both, one_matrix, one_fault}
use Rattle.m4_etext.proofs.laws.law_read.Goals as goal

pub returns : goal.returns
returns c = record { never_both = never_both; one_matrix = one_matrix; one_fault = one_fault }
