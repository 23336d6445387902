-- What the putting of bytes does that go to a sink in larger pieces.
use Rattle.std.specs.Prelude.{◌≡◌, ℕ, List, ◌++◌, Option, Result, OnOk, OnErr}
use Rattle.m4_io.specs.Outside.{WritesAll}
use Rattle.m4_io.specs.declared.failed.Failed.{Failed}

-- By its answer: to the bytes that the sink took, where they are told, to its count of faults, and to those that wait. Ok:
-- a front of what waited and was put went to the sink, whole, and the rest waits. Err: the writing of what waited and was
-- put failed.
pub record Puts (old new : Option (List ℕ)) (before now : ℕ) (waited waiting : List ℕ) (result : Result (Unit {0}) Failed) (bytes : List ℕ) : Type 0 where
  pub ok : OnOk result ((went : List ℕ) × WritesAll old new before now result went × (waited ++ bytes ≡ went ++ waiting))
  pub err : OnErr result (WritesAll old new before now result (waited ++ bytes))
