-- The words that products of slices work in.
use Rattle.std.specs.Prelude.{◌≡◌, ℕ, ◌+◌, ◌-◌, ◌*◌, ◌<◌}
use Rattle.m4_model.specs.Text.{words_per_row}
use Rattle.m4_mzd.specs.Window.{Window, content}
use Rattle.m4_mzd.specs.Span.{Span, IsFolded, window_words, without_first}
use Rattle.m4_mzd.specs.declared.add_mul.Shape.{Shape}
use Rattle.m4_karatsuba.specs.Counts.{slice_words}
use Rattle.m4_karatsuba.specs.Factors.{HasSlices}
use Rattle.m4_karatsuba.specs.Polynomials.{polynomial}

-- For a product of e slices each.
abbrev pub room_words : ℕ → Shape → ℕ
room_words e s = 2 * (e - 1) * slice_words s

-- For such a product that is kept in the room itself.
abbrev pub words_with_product : ℕ → Shape → ℕ
words_with_product e s = (2 * e - 1) * s.m * words_per_row s.n + room_words e s

-- For such a product of sums that are kept there too.
abbrev pub words_with_sums : ℕ → Shape → ℕ
words_with_sums e s = e * s.m * words_per_row s.l + e * s.l * words_per_row s.n + words_with_product e s

-- The window was cut from the beginning of the room.
pub record IsCut (w : Window) (old new : Span) : Type 0 where
  pub folded : IsFolded w old
  pub first : w.skip ≡ old.skip
  pub rest : new ≡ without_first (window_words w) old

-- The window's polynomials are those of g i j.
pub record HoldsProduct (count : ℕ) (s : Shape) (w : Window) (g : ℕ → ℕ → ℕ) : Type 0 where
  pub slices : HasSlices count s w
  pub entries : (i j : ℕ) → i < s.m → j < s.n → polynomial count s.m (content w) i j ≡ g i j
