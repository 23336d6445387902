-- Lemmas on the reading of whole files.
use Rattle.std.proofs.Common.{◌≡◌, ℕ, ◌<◌, List, ◌++◌, length, Bool, IsTrue, Option, Some, None, sym, ap, ◌∙◌, append-nil, inl, inr}
use Rattle.std.specs.Io.KnownBytes.{Consumes, IsAtEnd}
use Rattle.m4_model.specs.Stock.{Stock}
use Rattle.m4_io.specs.Reading.{IsRestOrLong}

-- What a loop that reads a started file keeps.
pub record ReadsSoFar (stock_then stock_now : Option Stock) (started_now : Bool) (rest_then rest_now : Option (List ℕ)) (before now : ℕ) (bytes : List ℕ) : Type 0 where
  pub stock : stock_now ≡ stock_then
  pub started : IsTrue started_now
  pub taken : Consumes rest_then rest_now bytes
  pub kept : now ≡ before
