-- Shelves and sinks in memory, as contracts see them.
use Rattle.std.specs.Prelude.{ℕ, ◌+◌, ◌-◌, ◌^◌, ◌<◌, ◌≤◌, min, List, [], length, drop, map, Contains, Option, slice_index_or, string_bytes}
use Rattle.std.specs.declared.alloc.Global.{Global}
use Rattle.std.specs.declared.vec.Vec.{Vec}
use Rattle.std.specs.declared.string.String.{String}
use Rattle.m4_model.specs.Stock.{Stock}
use Rattle.m4_io.specs.declared.mem_shelf.Place.{Place}

-- The calls of a shelf or a sink, numbered from 0: the numbers of those that are to fail, the number of the call that
-- comes next, and how many faults were counted. A number that stands at the end of its type stays there.
pub record Tally : Type 0 where
  pub fail : List ℕ
  pub calls : ℕ
  pub faults : ℕ

-- One more, up to the end of the type.
abbrev pub one_more : ℕ → ℕ
one_more n = min (n + 1) (2 ^ 64 - 1)

-- The tally at the beginning.
abbrev pub new_tally : List ℕ → Tally
new_tally fail = record { fail = fail; calls = 0; faults = 0 }

-- The next call is to fail.
abbrev pub IsToFail : Tally → Type 0
IsToFail tally = Contains tally.fail tally.calls

-- The tally after a call that counted no fault.
abbrev pub called : Tally → Tally
called tally = record tally { calls = one_more tally.calls }

-- The tally after one more fault.
abbrev pub faulted : Tally → Tally
faulted tally = record tally { faults = one_more tally.faults }

-- A shelf in memory: its files, the most bytes that a read gives, the bytes that are left of the started file, if one
-- is started, and the tally of its calls.
pub record MemFiles : Type 0 where
  pub stock : Stock
  pub step : ℕ
  pub rest : Option (List ℕ)
  pub tally : Tally

-- A sink in memory: the bytes that it took, how many more it takes, and the tally of its calls.
pub record MemBytes : Type 0 where
  pub taken : List ℕ
  pub room : ℕ
  pub tally : Tally

-- The files as a stock: each name's bytes, with the file's bytes.
abbrev pub stock_of : List (String Global × Vec ℕ Global) → Stock
stock_of files = map (λ file. (string_bytes file.0, file.1.items)) files

-- The bytes of the file of this number.
abbrev pub file_bytes : Stock → ℕ → List ℕ
file_bytes stock number = (slice_index_or stock number ([], [])).1

-- There is such a file, and such a byte in it or the end after it.
abbrev pub IsPlaceIn : Stock → Place → Type 0
IsPlaceIn stock place = (place.file < length stock) × (place.byte ≤ length (file_bytes stock place.file))

-- The bytes from this place to the end of its file.
abbrev pub bytes_from : Stock → Place → List ℕ
bytes_from stock place = drop place.byte (file_bytes stock place.file)
