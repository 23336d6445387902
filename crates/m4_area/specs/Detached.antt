-- The words of a `Vec`, taken out as rows.
use Rattle.std.specs.Prelude.{◌≡◌, ℕ, ◌*◌, List}
use denote.RawPtr.{Ptr, block_ptr}
use Rattle.m4_area.specs.Storage.{Frame, rows_of}
use Rattle.m4_area.specs.declared.area.Area.{Area}

-- The rows of the area are those of the words, and the storage waits for them.
pub record DetachedAs (from : Ptr) (words : List ℕ) (rows width stride : ℕ) (area : Area) (storage : Frame) : Type 0 where
  pub within : from ≡ block_ptr area.block area.first
  pub step : area.step ≡ stride * 8
  pub words_in_rows : area.rows ≡ rows_of rows width words
  pub waits : storage ≡ record { place = record { block = area.block; base = area.first; stride = stride }; skip = 0; rows = rows; width = width }
