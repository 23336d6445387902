-- What a slice above the degree stands for in the slices below it.
use Rattle.std.specs.Prelude.{ℕ, ◌*◌, ◌^◌}
use Rattle.std.specs.Int.{bit_at}
use Rattle.m4_model.specs.Field.{Field, sum_below}

-- b times x^first times the field's polynomial without its highest term.
abbrev pub terms_of : Field → ℕ → ℕ → ℕ
terms_of F first b = sum_below F.degree (λ t. bit_at F.poly t * (b * 2 ^ first * 2 ^ t))
