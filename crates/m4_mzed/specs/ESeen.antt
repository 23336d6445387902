-- What contracts see of a window for reading over any field.
use Rattle.std.specs.Prelude.{map}
use Rattle.m4_model.specs.Matrix.{Matrix}
use Rattle.m4_field.specs.Fields.{the_field}
use Rattle.m4_model.specs.Field.{width}
use Rattle.m4_mzed.specs.Packed.{unpacked}
use Rattle.m4_mzd.specs.Seen.{shown}
use Rattle.m4_mzed.specs.declared.win.EWin.{EWin}

-- The matrix that it shows.
abbrev pub e_shown : EWin → Matrix
e_shown w = record {
  field = the_field w.field;
  rows = (shown w.bits).rows;
  cols = w.cols;
  entries = map (unpacked (width (the_field w.field)) w.cols) (shown w.bits).entries;
}
