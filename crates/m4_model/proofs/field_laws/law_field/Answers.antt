use Rattle.m4_model.proofs.FieldProofs.{field_laws}
use Rattle.m4_model.proofs.field_laws.law_field.Goals as goal

pub returns-clause-closed : goal.returns-clause-closed
returns-clause-closed c = λ F a b field. (field_laws F field).closed a b

pub returns-clause-commutative : goal.returns-clause-commutative
returns-clause-commutative c = λ F a b field. (field_laws F field).comm a b

pub returns-clause-associative : goal.returns-clause-associative
returns-clause-associative c = λ F a b d field. (field_laws F field).assoc a b d

pub returns-clause-distributive : goal.returns-clause-distributive
returns-clause-distributive c = λ F a b d field. (field_laws F field).distrib a b d

pub returns-clause-unit : goal.returns-clause-unit
returns-clause-unit c = λ F a field. (field_laws F field).unit a

pub returns-clause-inverse : goal.returns-clause-inverse
returns-clause-inverse c = λ F a field. (field_laws F field).inverse a
