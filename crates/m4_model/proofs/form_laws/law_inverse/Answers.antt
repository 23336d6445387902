use Rattle.m4_model.proofs.FieldProofs.{field_laws}
use Rattle.m4_model.proofs.FormLemmas.{same_inverse, inverse_refuted}
use Rattle.m4_model.proofs.form_laws.law_inverse.Goals as goal

pub returns-clause-one : goal.returns-clause-one
returns-clause-one c = λ X Y A is_matrix. same_inverse A (field_laws A.field is_matrix.over_field) is_matrix X Y

pub returns-clause-none : goal.returns-clause-none
returns-clause-none c = λ X A is_matrix. inverse_refuted A (field_laws A.field is_matrix.over_field) is_matrix X
