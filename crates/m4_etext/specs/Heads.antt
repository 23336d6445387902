-- A header line that is fed in pieces.
use Rattle.std.specs.Prelude.{◌≡◌, ℕ, ◌<◌, ◌≤◌, List, ◌++◌, length, take}
use Rattle.m4_model.specs.Headed.{IsHeader}
use Rattle.m4_etext.specs.Place.{GoesWrong, IsHeaderOf}
use Rattle.m4_etext.specs.Parsed.{spelling_of}
use Rattle.m4_etext.specs.declared.head.Parsed.{Parsed}
use Rattle.m4_etext.specs.declared.head.Parsed.TheVariants.{Short, Whole, Wrong}

-- The bytes begin a header line, and aren't one yet.
abbrev pub BeginsHeader : List ℕ → Type 0
BeginsHeader bytes = GoesWrong IsHeader bytes (length bytes)

-- What a piece makes of the front of a header line: still a front, a whole header line and where it ends in the piece, or
-- the place where the bytes go wrong in it.
abbrev pub IsOpenedBy : List ℕ → List ℕ → List ℕ → Parsed → Type 0
IsOpenedBy old new piece Short = (new ≡ old ++ piece) × BeginsHeader (old ++ piece)
IsOpenedBy old new piece (Whole header end) =
    (end ≤ length piece) × IsHeaderOf (old ++ take end piece) (spelling_of header.opening) header.rows header.cols header.len
    × (header.len ≡ length (old ++ take end piece))
IsOpenedBy old new piece (Wrong at) = (at < length (old ++ piece)) × GoesWrong IsHeader (old ++ piece) at
