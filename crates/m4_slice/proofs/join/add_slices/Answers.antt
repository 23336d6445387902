use Rattle.std.proofs.Common.{refl, ◌∙◌}
use Rattle.m4_field.specs.Fields.{the_field}
use Rattle.m4_mzd.specs.Seen.{shown}
use Rattle.m4_slice.proofs.JoinedLemmas.{joined_packed, joined_sum}
use Rattle.m4_slice.proofs.join.add_slices.Goals as goal

pub of_packed-requires : goal.of_packed-requires
of_packed-requires c = joined_packed (the_field c.field-field.result) c.cols-cols.result c.e-degree.result c.width-width.result c.take.result c.args.dst.now c.into_packed-bits.result c.spread_slices.new.dst (shown c.args.slices.now)
    (record {
      whole = c.take.ensures.whole;
      packed = c.into_packed-bits.ensures.packed;
      shows = c.into_packed-bits.ensures.elements;
      field_is = c.field-field.ensures;
      cols_is = c.cols-cols.ensures.cols;
      degree = c.e-degree.ensures.degree;
      wide = c.width-width.ensures.width;
      shape = c.rows-rows.ensures.shape;
      new_shape = c.rows-new_rows.ensures.shape;
      slices = c.rows-slice_rows.ensures.matrix;
      over = refl;
      rows = c.requires.rows;
      cols = c.requires.cols;
      kept = c.spread_slices.ensures;
    })

pub returns : goal.returns
returns c = c.put_back.ensures ∙ c.of_packed.ensures ∙ joined_sum (the_field c.field-field.result) c.cols-cols.result c.e-degree.result c.width-width.result c.take.result c.args.dst.now c.into_packed-bits.result c.spread_slices.new.dst (shown c.args.slices.now)
    (record {
      whole = c.take.ensures.whole;
      packed = c.into_packed-bits.ensures.packed;
      shows = c.into_packed-bits.ensures.elements;
      field_is = c.field-field.ensures;
      cols_is = c.cols-cols.ensures.cols;
      degree = c.e-degree.ensures.degree;
      wide = c.width-width.ensures.width;
      shape = c.rows-rows.ensures.shape;
      new_shape = c.rows-new_rows.ensures.shape;
      slices = c.rows-slice_rows.ensures.matrix;
      over = refl;
      rows = c.requires.rows;
      cols = c.requires.cols;
      kept = c.spread_slices.ensures;
    })
