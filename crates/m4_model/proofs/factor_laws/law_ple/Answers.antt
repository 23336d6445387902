use Rattle.m4_model.proofs.FieldProofs.{field_laws}
use Rattle.m4_model.proofs.RankLemmas.{pivots_of_ple, rank_of_ple, same_pivots, same_rank}
use Rattle.m4_model.proofs.factor_laws.law_ple.Goals as goal

pub returns-clause-pivots : goal.returns-clause-pivots
returns-clause-pivots c = λ A p q r L E is_matrix ple. pivots_of_ple A p q r L E (field_laws A.field is_matrix.over_field) is_matrix ple

pub returns-clause-rank : goal.returns-clause-rank
returns-clause-rank c = λ A p q r L E is_matrix ple. rank_of_ple A p q r L E (field_laws A.field is_matrix.over_field) is_matrix ple

pub returns-clause-one_list : goal.returns-clause-one_list
returns-clause-one_list c = same_pivots

pub returns-clause-one_rank : goal.returns-clause-one_rank
returns-clause-one_rank c = same_rank
