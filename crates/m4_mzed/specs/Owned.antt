-- What a packed matrix that owns its words holds, and where its words go back to.
use Rattle.std.specs.Prelude.{◌≡◌, ℕ, ◌*◌, map, length, replicate}
use Rattle.std.specs.List.{All}
use Rattle.m4_model.specs.Field.{Field}
use Rattle.m4_model.specs.Matrix.{Matrix}
use Rattle.m4_model.specs.Text.{words_per_row}
use Rattle.m4_model.specs.Field.{width}
use Rattle.m4_mzd.specs.declared.mzd.windows.Home.{Home}
use Rattle.m4_mzed.specs.EWindow.{EWindow}
use Rattle.m4_mzed.specs.Packed.{unpacked}

-- The matrix of elements in a matrix of bits.
abbrev pub e_matrix : Field → ℕ → Matrix → Matrix
e_matrix F cols A = record { field = F; rows = A.rows; cols = cols; entries = map (unpacked (width F) cols) A.entries }

-- The words of the window go back there.
abbrev pub IsHomeOf : Home → EWindow → Type 0
IsHomeOf home w = home.storage ≡ record { place = w.place; skip = w.skip; rows = w.rows; width = words_per_row (w.cols * width w.field) }

-- Every bit past the last column is 0.
abbrev pub IsPadded : EWindow → Type 0
IsPadded w = All (λ row. row ≡ replicate (length row) 0) w.past
