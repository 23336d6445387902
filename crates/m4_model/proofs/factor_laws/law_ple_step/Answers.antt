use Rattle.m4_model.proofs.FieldProofs.{field_laws}
use Rattle.m4_model.proofs.StepLemmas.{ple_of_step}
use Rattle.m4_model.proofs.factor_laws.law_ple_step.Goals as goal

pub returns : goal.returns
returns c = record {
  step = λ A1 A2 X p1 q1 p2 q2 r1 r2 L1 E1 L2 E2 is_matrix a2 x first solves second.
      ple_of_step A1 A2 X p1 q1 p2 q2 r1 r2 L1 E1 L2 E2 (field_laws A1.field is_matrix.over_field) is_matrix a2 x first solves second;
}
