use Rattle.m4_model.proofs.FieldProofs.{field_laws}
use Rattle.m4_model.proofs.FormLemmas.{same_kernel}
use Rattle.m4_model.proofs.form_laws.law_kernel.Goals as goal

pub returns : goal.returns
returns c = record { one = λ K M A is_matrix. same_kernel A (field_laws A.field is_matrix.over_field) is_matrix K M }
