-- How many row additions a product by tables takes.
use Rattle.std.specs.Prelude.{ℕ, ◌+◌, ◌-◌, ◌*◌, ◌/◌, ◌%◌, ◌^◌, ◌==◌, if◌then◌else◌}

-- Of the first matrix, of m rows and l columns, k columns are taken at a time: each time all sums of k rows of the second
-- are made, each but the empty one by one addition, and one of them is added to each of the m rows. The columns that are
-- left over are taken last, if there are any.
abbrev pub additions : ℕ → ℕ → ℕ → ℕ
additions m l k = l / k * (2 ^ k - 1 + m) + (if l % k == 0 then 0 else 2 ^ (l % k) - 1 + m)
