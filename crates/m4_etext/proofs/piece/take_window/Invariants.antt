use Rattle.std.proofs.Common.{◌≡◌, ℕ, ◌≤◌, ◌-◌, List, ◌++◌, length, take}
use Rattle.m4_mzed.specs.EWindow.{content, showing}
use Rattle.m4_etext.specs.Pieces.{BodySoFar, digits_in}
use Rattle.m4_etext.specs.Kinds.{spelled_by}
use Rattle.m4_etext.proofs.piece.take_window.Given as goal

-- the bytes before the place are taken
abbrev pub invariant-loop-next : goal.invariant-loop-next
invariant-loop-next l = record {
  within : l.next.len ≤ length l.piece;
  in_rows : l.next.row ≤ l.fn.whole.rows;
  in_line : l.next.place ≤ digits_in (spelled_by l.fn.kind l.fn.whole.field) l.fn.whole.cols;
  read : (body : List ℕ) → BodySoFar (spelled_by l.fn.kind l.fn.whole.field) (content l.fn.whole) l.fn.row l.fn.place body
      → BodySoFar (spelled_by l.fn.kind l.fn.whole.field) (content l.whole) l.next.row l.next.place (body ++ take l.next.len l.piece);
  stays : l.whole ≡ showing l.fn.whole (content l.whole);
}

abbrev pub decreases-loop-next : goal.decreases-loop-next
decreases-loop-next l = length l.piece - l.next.len
