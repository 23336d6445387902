use Rattle.std.proofs.Common.{◌≡◌, ℕ, ◌-◌, ◌*◌, ◌<◌, ◌≤◌}
use Rattle.m4_model.specs.Field.{rem}
use Rattle.m4_field.specs.Fields.{the_field}
use Rattle.m4_mzd.specs.Window.{content, showing}
use Rattle.m4_karatsuba.specs.Polynomials.{polynomial}
use Rattle.m4_karatsuba.proofs.reduce.reduce.Given as goal

abbrev pub invariant-loop-v : goal.invariant-loop-v
invariant-loop-v l =
    (l.field.degree ≤ l.v)
    × (l.c ≡ showing l.fn.c (content l.c))
    × ((i j : ℕ) → i < l.shape.m → j < l.shape.n
    → rem (the_field l.field) (polynomial l.v l.shape.m (content l.c) i j) ≡ rem (the_field l.field) (polynomial (2 * l.field.degree - 1) l.shape.m (content l.fn.c) i j))
