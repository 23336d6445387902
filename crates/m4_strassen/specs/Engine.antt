-- When the recursion can be called.
use Rattle.std.specs.Prelude.{ℕ, ◌^◌, ◌≤◌}
use Rattle.m4_model.specs.Recursion.{need}
use Rattle.m4_mzd.specs.Reach.{IsReached}
use Rattle.m4_mzd.specs.declared.add_mul.Shape.{Shape}

-- The engine below can be called and reaches as far, and the scratch has as many words as the largest product needs.
pub record CanRecurse (limits : Shape) (ready : Type 0) (reach : Shape) (cutoff words : ℕ) : Type 0 where
  pub base : ready
  pub reached : IsReached limits reach.m reach.l reach.n
  pub enough : need reach.m reach.l reach.n cutoff ≤ words
  pub least : 64 ≤ cutoff
  pub few : cutoff ≤ 2 ^ 16
