use Rattle.std.proofs.Common.{◌≡◌, ℕ, ◌+◌, ◌<◌, ◌≤◌, ⊎_elim, sym, ◌∙◌, ap, subst, arith, length, slice_set, swap}
use Rattle.m4_model.specs.Field.{Field, IsElement, mul}
use Rattle.m4_model.specs.Matrix.{at}
use Rattle.m4_field.specs.Fields.{the_field}
use Rattle.m4_mzed.specs.EWindow.{EWindow, content}
use Rattle.m4_ple.specs.Elimination.{IsEliminated, cleared}
use Rattle.m4_ple.proofs.Eliminated.{eliminated_skip, eliminated_pivot, swapped_blank}
use Rattle.m4_ple.proofs.plain.eliminate_column.Goals as goal

pub returns-in_default-clause-eliminated : goal.returns-in_default-clause-eliminated
returns-in_default-clause-eliminated g c A old =
    let rows = old.shape.rows in
    let cols = old.shape.cols in
    let within = c.requires.in_cols in
    eliminated_skip old (omega (arith, within, cols)) (λ i from below. c.in_default.ensures.none i from (omega (arith, below, rows)))

pub returns-clause-eliminated : goal.returns-clause-eliminated
returns-clause-eliminated g c A old =
    let rows = old.shape.rows in
    let cols = old.shape.cols in
    let within = c.requires.in_cols in
    let s = c.in-Some.row in
    let below = c.in-Some.ensures.in_rows in
    let from = c.in-Some.ensures.behind in
    let reached = c.requires.reached in
    let room : c.args.rank < length c.args.q.now
    = ⊎_elim (λ same. omega (arith, same, from, below)) (λ wide. omega (arith, wide, reached, within)) c.requires.pivots in
    let inverse = c.inv-inverse.result in
    let over = c.field.ensures ∙ old.shape.over in
    let element : IsElement A.field inverse = subst (λ (F : Field). IsElement F inverse) over c.inv-inverse.ensures.element in
    let inverts : mul A.field (at (content c.args.a.now) s c.args.c) inverse ≡ 1
    = subst (λ (F : Field). mul F (at (content c.args.a.now) s c.args.c) inverse ≡ 1) over
    (ap (λ (x : ℕ). mul (the_field c.field.result) x inverse) (sym c.get.ensures.value) ∙ c.inv-inverse.ensures.inverse) in
    let made : content c.clear_below.new.a ≡ cleared inverse c.args.rank c.args.c (content c.args.a.now).rows (record (content c.args.a.now) { entries = swap c.args.a.now.entries c.args.rank s })
    = ap content c.clear_below.ensures.cleared ∙ ap (λ (V : EWindow). cleared inverse c.args.rank c.args.c V.rows (content V)) c.swap_rows.ensures in
    subst (IsEliminated A (slice_set c.args.p.now c.args.rank s) (slice_set c.args.q.now c.args.rank c.args.c) (c.args.rank + 1) (c.args.c + 1)) (sym made)
    (eliminated_pivot old s from (omega (arith, below, rows)) (omega (arith, within, cols)) inverse element inverts room)

pub overflow_add-result : goal.overflow_add-result
overflow_add-result g c =
    let above = c.in-Some.ensures.behind in
    let within = c.in-Some.ensures.in_rows in
    let few = c.rows-rows.ensures.few_rows in
    omega (arith, above, within, few)

pub clear_below-requires-clause-blank : goal.clear_below-requires-clause-blank
clear_below-requires-clause-blank g c i low in_rows left =
    let W = c.args.a.now in
    let r = c.args.rank in
    let height = c.rows-rows.ensures.matrix.height in
    let tall = ap (λ (V : EWindow). V.rows) c.swap_rows.ensures in
    let blank = λ (i : ℕ) (from : r ≤ i) (below : i < W.rows). c.requires.blank i from below left in
    ap (λ (V : EWindow). at (content V) i r) c.swap_rows.ensures
    ∙ swapped_blank (content W) r c.in-Some.row r height c.in-Some.ensures.behind c.in-Some.ensures.in_rows blank i (omega (arith, low)) (omega (arith, in_rows, tall))
