use Rattle.std.proofs.Common.{◌∙◌}
use Rattle.m4_field.specs.Fields.{the_field}
use Rattle.m4_etext.proofs.TakenWords.{IsSet, set_packed, set_elements}
use Rattle.m4_etext.proofs.elements.set_elements.Goals.{After-set_word}
use Rattle.m4_etext.proofs.elements.set_elements.Goals as goal

-- what is known of the call
is_set : (c : After-set_word) → IsSet (the_field c.field-field.result) c.cols-cols.result c.take.result c.args.whole.now c.into_packed-bits.result c.set_word.new.self c.args.r c.args.w c.args.word
is_set c = record {
  whole = c.take.ensures.whole;
  packed = c.into_packed-bits.ensures.packed;
  shows = c.into_packed-bits.ensures.elements;
  field_is = c.field-field.ensures;
  cols_is = c.cols-cols.ensures.cols;
  shape = c.rows-rows.ensures.shape;
  in_rows = c.requires.in_rows;
  are = c.requires.elements;
  kept = c.set_word.ensures;
}

pub of_packed-requires : goal.of_packed-requires
of_packed-requires c =
    set_packed (the_field c.field-field.result) c.cols-cols.result c.take.result c.args.whole.now c.into_packed-bits.result c.set_word.new.self c.args.r c.args.w c.args.word
    (is_set (goal.at.of_packed-requires c).After-set_word)

pub returns : goal.returns
returns c =
    c.put_back.ensures ∙ c.of_packed.ensures
    ∙ set_elements (the_field c.field-field.result) c.cols-cols.result c.take.result c.args.whole.now c.into_packed-bits.result c.set_word.new.self c.args.r c.args.w c.args.word
    (is_set (goal.at.returns c).After-set_word)
