-- The basis of a kernel, and its limit, which is looked at before it is made.
use Rattle.std.proofs.Common.{◌≡◌, ℕ, ◌-◌, [], ◌∷◌, subst}
use Rattle.std.proofs.lemmas.List.Elements.{All-nil}
use Rattle.m4_model.specs.Field.{width}
use Rattle.m4_model.specs.Matrix.{Matrix}
use Rattle.m4_model.specs.Rank.{IsRank}
use Rattle.m4_model.specs.Text.{IsWithinLimits}
use Rattle.m4_outcome.specs.Outcome.{ShareField}
use Rattle.m4_outcome.specs.declared.command.Command.TheVariants.{Kernel}
use Rattle.m4_model.proofs.RankLemmas.{same_rank}
use Rattle.m4_cmd.specs.Steps.{PassesBounds}

-- one matrix is over one field
pub alone : (A : Matrix) → ShareField (A ∷ [])
alone A = All-nil (λ (M : Matrix). M.field ≡ A.field)

-- it passes the limits with any rank where it does with one
pub basis_past_bounds : (A : Matrix) (r : ℕ) → IsRank A r → (IsWithinLimits (width A.field) (A.cols - r) A.cols → ⊥) → PassesBounds Kernel (A ∷ [])
basis_past_bounds A r rank past = record {
  shared = alone A;
  fits = tt;
  large = λ bounds.
      let P : ℕ → Type 0 = λ n. IsWithinLimits (width A.field) (A.cols - n) A.cols in
      past (subst P (same_rank A bounds.0 r bounds.1 rank) bounds.2);
}
