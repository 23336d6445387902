-- Whether two matrices are the same, over whatever fields.
use Rattle.std.specs.Prelude.{Bool, nat_eq}
use Rattle.std.specs.Ordering.{on, eq_of_both}
use Rattle.std.specs.Cmp.{IsEquivalence, IsPartialEquivalence, on_equiv, and_equiv, nat_eq_equiv, partial_equiv_from_equiv}
use Rattle.m4_model.specs.Matrix.{Matrix}
use Rattle.m4_mzd.specs.Equal.{are_equal as have_equal_entries, are_equal-equivalence as have_equal_entries-equivalence}

-- They are over one field, and have as many rows, as many columns, and the same rows of entries.
abbrev pub are_equal : Matrix → Matrix → Bool
are_equal = eq_of_both (on (λ A. A.field.degree) nat_eq) (eq_of_both (on (λ A. A.field.poly) nat_eq) have_equal_entries)

-- It is an equivalence.
pub are_equal-equivalence : IsEquivalence are_equal
are_equal-equivalence =
    and_equiv (on_equiv (λ A. A.field.degree) nat_eq_equiv) (and_equiv (on_equiv (λ A. A.field.poly) nat_eq_equiv) have_equal_entries-equivalence)

pub are_equal-partial : IsPartialEquivalence are_equal
are_equal-partial = partial_equiv_from_equiv are_equal-equivalence
