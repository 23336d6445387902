-- How many products over GF(2) a product of polynomials takes, and how many words its sums and products of halves.
use Rattle.std.specs.Prelude.{ℕ, zero, suc, ◌+◌, ◌-◌, ◌*◌, ◌/◌, nat_le, if◌then◌else◌}
use Rattle.m4_model.specs.Text.{words_per_row}
use Rattle.m4_mzd.specs.declared.add_mul.Shape.{Shape}

-- One for one coefficient. For more, with no more than so many halvings: twice as many as for the larger half, and as many as for
-- the smaller one.
unfoldable pub karatsuba_within : ℕ → ℕ → ℕ
karatsuba_within zero e = 1
karatsuba_within (suc most) e =
    if nat_le e 1 then 1 else 2 * karatsuba_within most ((e + 1) / 2) + karatsuba_within most (e - (e + 1) / 2)

-- The products that two polynomials of e coefficients each take.
abbrev pub karatsuba : ℕ → ℕ
karatsuba e = karatsuba_within e e

-- The words of one slice of each factor and two of the product.
abbrev pub slice_words : Shape → ℕ
slice_words s = s.m * words_per_row s.l + s.l * words_per_row s.n + 2 * (s.m * words_per_row s.n)
