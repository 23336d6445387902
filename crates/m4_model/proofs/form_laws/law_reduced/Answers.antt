use Rattle.m4_model.proofs.FieldProofs.{field_laws}
use Rattle.m4_model.proofs.FormLemmas.{same_reduced}
use Rattle.m4_model.proofs.form_laws.law_reduced.Goals as goal

pub returns : goal.returns
returns c = record { one = λ R S A is_matrix. same_reduced A (field_laws A.field is_matrix.over_field) is_matrix R S }
