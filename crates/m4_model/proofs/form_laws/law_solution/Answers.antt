use Rattle.m4_model.proofs.FieldProofs.{field_laws}
use Rattle.m4_model.proofs.FormLemmas.{same_solution}
use Rattle.m4_model.proofs.form_laws.law_solution.Goals as goal

pub returns-clause-one : goal.returns-clause-one
returns-clause-one c = λ X Y A B is_matrix. same_solution A (field_laws A.field is_matrix.over_field) is_matrix X Y B
