use Rattle.m4_model.proofs.FieldProofs.{field_laws}
use Rattle.m4_model.proofs.ShapeLemmas.{IsField-shape}
use Rattle.m4_model.proofs.WinogradLemmas.{product_winograd}
use Rattle.m4_model.proofs.recursion_laws.law_winograd.Goals as goal

pub returns : goal.returns
returns c = record {
  quarters = λ F m l n A B a b. product_winograd (field_laws F (IsField-shape a.top_left)) a b;
}
