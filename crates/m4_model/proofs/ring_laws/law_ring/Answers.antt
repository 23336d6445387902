use Rattle.m4_model.proofs.FieldProofs.{field_laws}
use Rattle.m4_model.proofs.ShapeLemmas.{IsField-shape}
use Rattle.m4_model.proofs.RingLemmas.{product_assoc, product-added_right, product-added_left}
use Rattle.m4_model.proofs.ring_laws.law_ring.Goals as goal

pub returns-clause-associative : goal.returns-clause-associative
returns-clause-associative c = λ F m k l n A B C a b third. product_assoc (field_laws F (IsField-shape a)) a b third

pub returns-clause-distributive : goal.returns-clause-distributive
returns-clause-distributive c = λ F m l n A B C a b third. product-added_right (field_laws F (IsField-shape a)) a b third

pub returns-clause-distributive_on_the_right : goal.returns-clause-distributive_on_the_right
returns-clause-distributive_on_the_right c = λ F m l n A B C a b third. product-added_left (field_laws F (IsField-shape a)) a b third
