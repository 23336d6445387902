-- Shelves over real files and sinks over real streams, as contracts see them: no clause knows their bytes.
use Rattle.std.specs.Prelude.{ℕ, Bool}

-- A shelf over real files: whether a file is started, and how many faults were counted.
pub record RealFiles : Type 0 where
  pub started : Bool
  pub faults : ℕ

-- A sink over a real stream: how many faults were counted.
pub record RealStream : Type 0 where
  pub faults : ℕ
