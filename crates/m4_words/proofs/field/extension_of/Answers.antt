use Rattle.m4_words.proofs.FieldLemmas.{made-field, no_field}
use Rattle.m4_words.proofs.field.extension_of.Goals as goal

pub returns-in-Ok : goal.returns-in-Ok
returns-in-Ok c = made-field c.args.degree c.args.poly c.in-Ok.field c.in-Ok.ensures

pub returns-in-Err : goal.returns-in-Err
returns-in-Err c = no_field c.args.degree c.args.poly c.in-Err.field-0 c.in-Err.ensures
