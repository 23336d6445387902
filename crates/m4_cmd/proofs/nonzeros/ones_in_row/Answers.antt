use Rattle.std.proofs.Common.{◌≡◌, ℕ, ◌+◌, ◌*◌, ◌<◌, ◌≤◌, length, get_or, arith, ap, sym, ◌∙◌, subst}
use Rattle.std.specs.Int.{bit_at}
use Rattle.std.proofs.lemmas.Nat.{ones-le}
use Rattle.m4_model.specs.Field.{Field, width}
use Rattle.m4_model.specs.Matrix.{Matrix, row, at}
use Rattle.m4_mzd.specs.declared.TheConstants.{MOST_SIDE}
use Rattle.m4_cmd.proofs.OnesLemmas.{ones_of_more, ones_of_all, few_ones}
use Rattle.m4_cmd.proofs.nonzeros.ones_in_row.Goals as goal

pub overflow_add-count : goal.overflow_add-count
overflow_add-count c =
    let entries = row c.args.matrix.now c.args.r in
    let wide : length entries ≡ c.cols.result = c.cols.ensures.matrix.width c.args.r c.requires.in_rows ∙ sym c.cols.ensures.cols in
    let few = few_ones entries c.cols.result (c.loop-w.w * 64) wide in
    let ones = ones-le 64 c.word.result c.word.type_inv in
    let narrow = subst (λ (F : Field). c.args.matrix.now.cols * width F ≤ MOST_SIDE) c.requires.over_gf2 c.cols.ensures.few_bits in
    omega (arith, few, ones, narrow, c.loop-w.invariant, c.cols.ensures.cols)

pub loop-w-preserved : goal.loop-w-preserved
loop-w-preserved c =
    let entries = row c.args.matrix.now c.args.r in
    let w = c.loop-w.w in
    let bits : (j : ℕ) → j < 64 → bit_at c.word.result j ≡ get_or entries (w * 64 + j) 0 =
    λ j small. c.word.ensures j small ∙ ap (λ (M : Matrix). at M c.args.r (w * 64 + j)) (c.into_bits-entries.ensures ∙ c.all.ensures) in
    let more = ones_of_more entries w c.word.result c.word.type_inv bits in
    omega (arith, more, c.loop-w.invariant)

pub returns-clause-count : goal.returns-clause-count
returns-clause-count c =
    let entries = row c.args.matrix.now c.args.r in
    let wide : length entries ≡ c.cols.result = c.cols.ensures.matrix.width c.args.r c.requires.in_rows ∙ sym c.cols.ensures.cols in
    c.loop-w.invariant ∙ ones_of_all entries c.cols.result c.loop-w.w wide (omega (arith, c.words_for-w-end.ensures))
