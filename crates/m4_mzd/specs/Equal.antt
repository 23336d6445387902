-- Whether two matrices over one field are the same.
use Rattle.std.specs.Prelude.{Bool, nat_eq}
use Rattle.std.specs.Ordering.{on, eq_of_both}
use Rattle.std.specs.Cmp.{IsEquivalence, IsPartialEquivalence, on_equiv, and_equiv, nat_eq_equiv, partial_equiv_from_equiv}
use Rattle.std.specs.Cmp.Lexicographic.{pointwise, lists_equiv, nat_list_eq_equiv}
use Rattle.m4_model.specs.Matrix.{Matrix}

-- They have as many rows, as many columns, and the same rows of entries.
abbrev pub are_equal : Matrix → Matrix → Bool
are_equal = eq_of_both (on (λ A. A.rows) nat_eq) (eq_of_both (on (λ A. A.cols) nat_eq) (on (λ A. A.entries) (pointwise (pointwise nat_eq))))

-- It is an equivalence.
pub are_equal-equivalence : IsEquivalence are_equal
are_equal-equivalence =
    and_equiv (on_equiv (λ A. A.rows) nat_eq_equiv) (and_equiv (on_equiv (λ A. A.cols) nat_eq_equiv) (on_equiv (λ A. A.entries) (lists_equiv nat_list_eq_equiv)))

pub are_equal-partial : IsPartialEquivalence are_equal
are_equal-partial = partial_equiv_from_equiv are_equal-equivalence
