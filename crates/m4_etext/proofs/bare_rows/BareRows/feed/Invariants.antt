use Rattle.std.proofs.Common.{ℕ, ◌-◌, ◌<◌, ◌≤◌, List, ◌++◌, length, take, drop}
use Rattle.m4_model.specs.Headed.{Bits}
use Rattle.m4_etext.specs.Pieces.{Stops}
use Rattle.m4_etext.specs.BareRows.{StandsForRows}
use Rattle.m4_etext.proofs.bare_rows.BareRows.feed.Given as goal

-- the bytes before the place are taken, and the byte there doesn't go on with the rows that are there
abbrev pub invariant-loop-len : goal.invariant-loop-len
invariant-loop-len l = record {
  within : l.len ≤ length l.piece;
  read : (bytes : List ℕ) → StandsForRows l.fn.self bytes → StandsForRows l.self (bytes ++ take l.len l.piece);
  stops : l.len < length l.piece → Stops Bits l.self.matrix.rows l.self.matrix.cols l.self.row_next l.self.place_next (drop l.len l.piece);
}

abbrev pub decreases-loop-len : goal.decreases-loop-len
decreases-loop-len l = 65536 - l.self.matrix.rows
