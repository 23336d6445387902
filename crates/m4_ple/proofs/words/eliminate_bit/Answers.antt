use Rattle.std.proofs.Common.{ℕ, List, ◌≡◌, ◌+◌, ◌<◌, ⊎_elim, sym, ◌∙◌, ap, subst, arith, length, set, swap}
use Rattle.std.proofs.lemmas.List.Edits.{length-swap}
use Rattle.m4_model.specs.Field.{Field, IsElement, gf2, mul}
use Rattle.m4_model.specs.Matrix.{at}
use Rattle.m4_ple.specs.Elimination.{IsEliminated, cleared, with_swapped}
use Rattle.m4_ple.specs.Words.{word_matrix, IsClearedTo}
use Rattle.m4_ple.proofs.Eliminated.{eliminated_skip, eliminated_pivot}
use Rattle.m4_ple.proofs.WordLemmas.{at-words, one_element, times_one, words_swapped, words_cleared}
use Rattle.m4_ple.proofs.words.eliminate_bit.Goals as goal

pub returns-in_default-clause-eliminated : goal.returns-in_default-clause-eliminated
returns-in_default-clause-eliminated c cols A narrow column old =
    let rows = old.shape.rows in
    let wide = old.shape.cols in
    eliminated_skip old (omega (arith, column, wide)) (λ i from below.
    at-words cols c.args.words.now i c.args.c (omega (arith, below, rows)) column ∙ c.in_default.ensures.none i from (omega (arith, below, rows)))

pub returns-clause-eliminated : goal.returns-clause-eliminated
returns-clause-eliminated c cols A narrow column old =
    let words = c.args.words.now in
    let W = word_matrix cols words in
    let r = c.args.rank in
    let k = c.args.c in
    let s = c.in-Some.row in
    let rows = old.shape.rows in
    let wide = old.shape.cols in
    let below = c.in-Some.ensures.in_rows in
    let from = c.in-Some.ensures.behind in
    let reached = c.requires.reached in
    let first : r < length words = omega (arith, below, from) in
    let room : r < length c.args.q.now
    = ⊎_elim (λ same. omega (arith, same, from, below)) (λ more. omega (arith, more, reached)) c.requires.pivots in
    let long = length-swap words r s in
    let made : word_matrix cols c.clear_below.new.words ≡ cleared 1 r k (length words) (with_swapped W r s)
    = words_cleared cols (swap words r s) c.clear_below.new.words r k narrow column (omega (arith, first, long))
    (subst (λ (now : List ℕ). IsClearedTo r k (length now) now c.clear_below.new.words) c.swap.ensures.after c.clear_below.ensures)
    ∙ (λ i. cleared 1 r k (long i) (words_swapped cols words r s first below i)) in
    subst (IsEliminated A (set c.args.p.now r s) (set c.args.q.now r k) (r + 1) (k + 1)) (sym made)
    (eliminated_pivot old s from (omega (arith, below, rows)) (omega (arith, column, wide)) 1
    (subst (λ (F : Field). IsElement F 1) old.shape.over one_element)
    (subst (λ (F : Field). mul F (at W s k) 1 ≡ 1) old.shape.over
    (ap (λ (x : ℕ). mul gf2 x 1) (at-words cols words s k below column ∙ c.in-Some.ensures.one) ∙ times_one 1 one_element))
    room)
