-- What is taken where nobody asks for something else.
use Rattle.std.specs.Prelude.{◌≡◌, ℕ, None, nat_le, ◌&&◌, if◌then◌else◌}
use Rattle.m4_model.specs.declared.algo.Algo.{Algo}
use Rattle.m4_model.specs.declared.algo.Algo.TheVariants.{Table, Strassen}
use Rattle.m4_mzd.specs.declared.add_mul.Shape.{Shape}
use Rattle.m4_elim.specs.declared.how.How.{How}
use Rattle.m4_elim.specs.declared.chosen.TheConstants.{HALVES_PAY, LARGE_TABLES_PAY}

-- Nothing is asked for.
pub record IsOpen (how : How) : Type 0 where
  pub algo : how.algo ≡ None
  pub k : how.k ≡ None
  pub tables : how.tables ≡ None
  pub cutoff : how.cutoff ≡ None

-- The algorithm of products of this shape: halves pay where no side is below a border.
abbrev pub fastest_algo : Shape → Algo
fastest_algo shape =
    if nat_le HALVES_PAY shape.m && nat_le HALVES_PAY shape.l && nat_le HALVES_PAY shape.n then Strassen else Table

-- The rows that share a table: a table is filled once and used for each row of the product, so large ones pay for many rows.
abbrev pub fastest_k : Shape → ℕ
fastest_k shape = if nat_le LARGE_TABLES_PAY shape.m then 8 else 6
