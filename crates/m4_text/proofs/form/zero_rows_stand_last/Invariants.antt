use Rattle.std.proofs.Common.{◌≡◌, ℕ, ◌<◌, true}
use Rattle.m4_model.specs.Jcf.{IsZeroRow}
use Rattle.m4_text.proofs.form.zero_rows_stand_last.Given as goal

-- of the rows so far those of zeros stand last
abbrev pub invariant-loop-r : goal.invariant-loop-r
invariant-loop-r l = record {
  order : (i j : ℕ) → i < j → j < l.r → IsZeroRow l.m i → IsZeroRow l.m j;
  known : (i : ℕ) → i < l.r → IsZeroRow l.m i → l.zero_before ≡ true;
  some : l.zero_before ≡ true → (i : ℕ) × (i < l.r) × IsZeroRow l.m i;
}
