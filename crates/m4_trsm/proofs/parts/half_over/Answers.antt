use Rattle.std.proofs.Common.{refl}
use Rattle.m4_model.specs.Field.{width}
use Rattle.m4_field.specs.Fields.{the_field}
use Rattle.m4_field.proofs.WidthLemmas.{width_facts}
use Rattle.m4_trsm.proofs.WordHalves.{half_is}
use Rattle.m4_trsm.proofs.parts.half_over.Goals as goal

pub returns-clause-some : goal.returns-clause-some
returns-clause-some c =
    let F = the_field c.args.field in
    (half_is c.args.rows (width F) c.width-width.result c.words_for.result _ c.width-width.ensures.width c.words_for.ensures refl (width_facts F c.width-width.ensures.field).whole c.requires.more).some

pub returns-clause-less : goal.returns-clause-less
returns-clause-less c =
    let F = the_field c.args.field in
    (half_is c.args.rows (width F) c.width-width.result c.words_for.result _ c.width-width.ensures.width c.words_for.ensures refl (width_facts F c.width-width.ensures.field).whole c.requires.more).less

pub returns-clause-whole_words : goal.returns-clause-whole_words
returns-clause-whole_words c =
    let F = the_field c.args.field in
    (half_is c.args.rows (width F) c.width-width.result c.words_for.result _ c.width-width.ensures.width c.words_for.ensures refl (width_facts F c.width-width.ensures.field).whole c.requires.more).whole_words

pub returns-clause-not_before_half : goal.returns-clause-not_before_half
returns-clause-not_before_half c =
    let F = the_field c.args.field in
    (half_is c.args.rows (width F) c.width-width.result c.words_for.result _ c.width-width.ensures.width c.words_for.ensures refl (width_facts F c.width-width.ensures.field).whole c.requires.more).not_before_half

pub returns-clause-not_behind_half : goal.returns-clause-not_behind_half
returns-clause-not_behind_half c =
    let F = the_field c.args.field in
    (half_is c.args.rows (width F) c.width-width.result c.words_for.result _ c.width-width.ensures.width c.words_for.ensures refl (width_facts F c.width-width.ensures.field).whole c.requires.more).not_behind_half
