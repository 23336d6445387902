-- What the windows of a level show after a product or a sum.
use Rattle.std.proofs.Common.{◌≡◌, ℕ, ◌∙◌}
use Rattle.m4_model.specs.Field.{gf2}
use Rattle.m4_model.specs.Matrix.{Matrix, HasShape, zero_matrix, added}
use Rattle.m4_model.proofs.RingLemmas.{added-zero_right, added_comm}
use Rattle.m4_model.proofs.ShapeLemmas.{IsField-shape, HasShape-zero_matrix}

-- a sum to which nothing was added before
pub from_zero : {m n : ℕ} {P : Matrix} → HasShape gf2 m n P → added (zero_matrix gf2 m n) P ≡ P
from_zero {m} {n} p = added_comm (HasShape-zero_matrix gf2 m n (IsField-shape p)) p ∙ added-zero_right p
