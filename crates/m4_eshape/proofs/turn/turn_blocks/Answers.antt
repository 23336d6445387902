use Rattle.std.proofs.Common.{refl, ◌∙◌}
use Rattle.m4_field.specs.Fields.{the_field}
use Rattle.m4_mzd.specs.Seen.{shown}
use Rattle.m4_mzed.specs.ESeen.{e_shown}
use Rattle.m4_eshape.proofs.TurnLemmas.{turned_packed, turned_elements}
use Rattle.m4_eshape.proofs.turn.turn_blocks.Goals as goal

pub of_packed-requires : goal.of_packed-requires
of_packed-requires c = turned_packed (the_field c.field-field.result) c.cols-cols.result c.width.result c.take.result c.args.dst.now c.into_packed-bits.result c.turn_numbers.new.dst (e_shown c.args.a.now) (shown c.packed-source.result)
    (record {
      whole = c.take.ensures.whole;
      packed = c.into_packed-bits.ensures.packed;
      shows = c.into_packed-bits.ensures.elements;
      field_is = c.field-field.ensures;
      cols_is = c.cols-cols.ensures.cols;
      shape = c.rows-rows.ensures.shape;
      new_shape = c.rows-new_rows.ensures.shape;
      source = c.packed-source.ensures.packed;
      source_matrix = c.rows-source_rows.ensures.matrix;
      source_over = refl;
      source_shows = c.packed-source.ensures.elements;
      same_field = c.requires.field;
      rows = c.requires.rows;
      cols = c.requires.cols;
      width_is = c.width.ensures.width;
      kept = c.turn_numbers.ensures;
    })

pub returns : goal.returns
returns c = c.put_back.ensures ∙ c.of_packed.ensures ∙ turned_elements (the_field c.field-field.result) c.cols-cols.result c.width.result c.take.result c.args.dst.now c.into_packed-bits.result c.turn_numbers.new.dst (e_shown c.args.a.now) (shown c.packed-source.result)
    (record {
      whole = c.take.ensures.whole;
      packed = c.into_packed-bits.ensures.packed;
      shows = c.into_packed-bits.ensures.elements;
      field_is = c.field-field.ensures;
      cols_is = c.cols-cols.ensures.cols;
      shape = c.rows-rows.ensures.shape;
      new_shape = c.rows-new_rows.ensures.shape;
      source = c.packed-source.ensures.packed;
      source_matrix = c.rows-source_rows.ensures.matrix;
      source_over = refl;
      source_shows = c.packed-source.ensures.elements;
      same_field = c.requires.field;
      rows = c.requires.rows;
      cols = c.requires.cols;
      width_is = c.width.ensures.width;
      kept = c.turn_numbers.ensures;
    })
