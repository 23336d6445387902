-- The engines that multiply: which one is asked for, in which sizes, how large the products are that it takes, and when it can
-- be called.
use Rattle.std.specs.Prelude.{◌≡◌, ℕ, ⊤}
use Rattle.m4_model.specs.declared.algo.Algo.{Algo}
use Rattle.m4_model.specs.declared.algo.Algo.TheVariants as algos
use Rattle.m4_mzd.specs.declared.TheConstants.{MOST_SIDE}
use Rattle.m4_mzd.specs.declared.add_mul.Shape.{Shape}
use Rattle.m4_strassen.specs.Engine.{CanRecurse}
use Rattle.m4_elim.specs.declared.engine.Engine.{Engine}
use Rattle.m4_elim.specs.declared.engine.Engine.TheVariants as engines

-- The largest number of each kind that tables of so many columns take.
abbrev pub table_limits : ℕ → Shape
table_limits cols = record { m = MOST_SIDE; l = MOST_SIDE; n = cols }

-- The largest number of each kind that an engine takes.
abbrev pub engine_limits : Engine → Shape
engine_limits (engines.Plain plain) = record { m = MOST_SIDE; l = MOST_SIDE; n = MOST_SIDE }
engine_limits (engines.Table table) = table_limits table.cols
engine_limits (engines.Strassen halves) = halves.reach

-- It can be called: where products are halved, there is memory for it.
abbrev pub can_multiply : Engine → Type 0
can_multiply (engines.Strassen halves) = CanRecurse (table_limits halves.base.cols) ⊤ halves.reach halves.cutoff halves.scratch
can_multiply engine = ⊤

-- The engine is that of this algorithm, for products up to this shape; tables are so many, of so many rows each, and products
-- whose sides are below twice the cutoff are not halved.
abbrev pub IsEngine : Algo → ℕ → ℕ → ℕ → Shape → Engine → Type 0
IsEngine algos.Plain k tables cutoff shape (engines.Plain plain) = ⊤
IsEngine algos.Table k tables cutoff shape (engines.Table table) = table ≡ record { cols = shape.n; k = k; tables = tables }
IsEngine algos.Strassen k tables cutoff shape (engines.Strassen halves) =
    (halves.base ≡ record { cols = shape.n; k = k; tables = tables }) × ((halves.reach ≡ shape) × (halves.cutoff ≡ cutoff))
IsEngine algo k tables cutoff shape engine = ⊥
