-- What contracts see of a window for reading.
use Rattle.std.specs.Prelude.{ℕ, List, map}
use Rattle.m4_model.specs.Field.{gf2}
use Rattle.m4_model.specs.Matrix.{Matrix}
use Rattle.m4_area.specs.View.{seen}
use Rattle.m4_mzd.specs.Shown.{bits_within}
use Rattle.m4_mzd.specs.declared.win.Win.{Win}

-- The rows of its entries.
unfoldable pub shown_rows : Win → List (List ℕ)
shown_rows w = map (bits_within w.cols) (seen w.view)

-- The matrix that it shows.
abbrev pub shown : Win → Matrix
shown w = record { field = gf2; rows = w.view.rows; cols = w.cols; entries = shown_rows w }
