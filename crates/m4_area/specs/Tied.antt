-- The numbers of a rectangle, and the words that they name.
use Rattle.std.specs.Prelude.{◌≡◌, ◌+◌, ◌*◌}
use denote.RawPtr.{block_ptr, count_of}
use Rattle.m4_area.specs.Rectangle.{Rectangle, HasShape}
use Rattle.m4_area.specs.declared.words.Words.TheInside.{Inside}

abbrev pub rectangle : Inside → Rectangle
rectangle w = record {
  place = record { block = w.area.block; base = count_of w.base; stride = w.stride };
  skip = w.skip;
  rows = w.rows;
  width = w.width;
  words = w.area.rows;
}

-- The numbers name the words of the area.
pub record IsTied (w : Inside) : Type 0 where
  pub within : w.base ≡ block_ptr w.area.block (count_of w.base)
  pub first : w.area.first ≡ count_of w.base + w.skip * 8
  pub step : w.area.step ≡ w.stride * 8
  pub shape : HasShape (rectangle w)
