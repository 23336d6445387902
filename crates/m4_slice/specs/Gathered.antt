-- Every w-th bit of a word, gathered side by side, and bits that are spread w places apart.
use Rattle.std.specs.Prelude.{◌≡◌, ℕ, ◌+◌, ◌*◌, ◌/◌, ◌<◌, ◌≤◌}
use Rattle.std.specs.Int.{bit_at}

-- The bits 0, w, 2 w and so on of the word stand side by side in the new one, and zeros after them.
pub record IsGathered (w word new : ℕ) : Type 0 where
  pub gathered : (k : ℕ) → k < 64 / w → bit_at new k ≡ bit_at word (k * w)
  pub rest : (k : ℕ) → 64 / w ≤ k → bit_at new k ≡ 0

-- The first bits of the word stand at the places 0, w, 2 w and so on of the new one, and zeros between them.
pub record IsSpread (w word new : ℕ) : Type 0 where
  pub spread : (k : ℕ) → k < 64 / w → bit_at new (k * w) ≡ bit_at word k
  pub between : (k u : ℕ) → k < 64 / w → 1 ≤ u → u < w → bit_at new (k * w + u) ≡ 0
