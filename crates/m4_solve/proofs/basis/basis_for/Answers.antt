use Rattle.std.proofs.Common.{◌≡◌, ℕ, ◌*◌, ◌≤◌, sym, ◌∙◌, ap, subst, arith, length, slice_index}
use Rattle.m4_model.specs.Field.{Field, width}
use Rattle.m4_model.specs.Matrix.{Matrix, at}
use Rattle.m4_model.specs.Shapes.{transposed}
use Rattle.m4_model.proofs.ShapeLemmas.{HasShape-own, at-zero_matrix}
use Rattle.m4_model.proofs.RingLemmas.{transposed_twice}
use Rattle.m4_model.proofs.ExchangeLemmas.{rising_room}
use Rattle.m4_field.proofs.WidthLemmas.{width_facts}
use Rattle.m4_field.specs.Fields.{the_field}
use Rattle.m4_mzd.specs.declared.TheConstants.{MOST_SIDE}
use Rattle.m4_mzed.specs.EWindow.{EWindow, content}
use Rattle.m4_mzed.specs.ESeen.{e_shown}
use Rattle.m4_solve.specs.Kernel.{IsKernelRow, AreFilledTo}
use Rattle.m4_solve.proofs.KernelRows.{top_rows, row_of_top}
use Rattle.m4_solve.proofs.basis.basis_for.Goals as goal

-- what is no more than n fits where n does
fewer_fit : (m n w most : ℕ) → m ≤ n → n * w ≤ most → m * w ≤ most
fewer_fit m n w most few fits = let less : m * w ≤ n * w = grind (arith, few) in omega (arith, less, fits)

-- a number that fits with its width fits
alone_fits : (m n w most : ℕ) → m ≤ n → 1 ≤ w → n * w ≤ most → m ≤ most
alone_fits m n w most few some fits = let more : n * 1 ≤ n * w = grind (arith, some) in omega (arith, few, more, fits)

pub etranspose-requires-clause-few_bits : goal.etranspose-requires-clause-few_bits
etranspose-requires-clause-few_bits c =
    let R = c.args.r.now in
    let q = c.args.pivots.now in
    let top : e_shown c.split_rows.result.0 ≡ top_rows (length q) R = c.split_rows.ensures.above ∙ ap (top_rows (length q)) c.all.ensures in
    let room = rising_room q R.cols c.requires.rising c.requires.in_cols in
    subst (λ (M : Matrix). M.rows * width M.field ≤ MOST_SIDE) (sym top) (fewer_fit (length q) R.cols (width R.field) MOST_SIDE room c.cols-cols.ensures.few_bits)

pub overflow_cast-free : goal.overflow_cast-free
overflow_cast-free c =
    let R = c.args.r.now in
    let g = c.args.free.now in
    let room = rising_room g R.cols c.requires.free.rising c.requires.free.below in
    let some : 1 ≤ width R.field = subst (λ (F : Field). 1 ≤ width F) c.field.ensures (width_facts (the_field c.field.result) c.field.result.carried).some in
    let few = alone_fits (length g) R.cols (width R.field) MOST_SIDE room some c.cols-cols.ensures.few_bits in
    omega (arith, few)

pub zeros-requires-clause-few_rows : goal.zeros-requires-clause-few_rows
zeros-requires-clause-few_rows c =
    let R = c.args.r.now in
    let g = c.args.free.now in
    let room = rising_room g R.cols c.requires.free.rising c.requires.free.below in
    let some : 1 ≤ width R.field = subst (λ (F : Field). 1 ≤ width F) c.field.ensures (width_facts (the_field c.field.result) c.field.result.carried).some in
    alone_fits (length g) R.cols (width R.field) MOST_SIDE room some c.cols-cols.ensures.few_bits

pub fill_rows-requires-clause-zeros : goal.fill_rows-requires-clause-zeros
fill_rows-requires-clause-zeros c i j below within =
    let same = c.all_mut-all.ensures.content ∙ c.in_ok-k.ensures in
    let rows = ap (λ (M : Matrix). M.rows) same in
    let cols = ap (λ (M : Matrix). M.cols) same in
    ap (λ (M : Matrix). at M i j) same
    ∙ at-zero_matrix (the_field c.field.result) (length c.args.free.now) c.cols-cols.result i j (omega (arith, below, rows)) (omega (arith, within, cols))

pub returns : goal.returns
returns c =
    let R = c.args.r.now in
    let q = c.args.pivots.now in
    let g = c.args.free.now in
    let S = e_shown c.split_rows.result.0 in
    let made = content c.fill_rows.new.k in
    let top : S ≡ top_rows (length q) R = c.split_rows.ensures.above ∙ ap (top_rows (length q)) c.all.ensures in
    let back : transposed (e_shown c.all-2.result) ≡ top_rows (length q) R
    = ap transposed c.all-2.ensures ∙ ap transposed c.in_ok-turned.ensures ∙ transposed_twice (HasShape-own S c.rows-rows_of_top.ensures.matrix) ∙ top in
    let filled : AreFilledTo (top_rows (length q) R) q g (length q) made
    = subst (λ (M : Matrix). AreFilledTo M q g (length q) made) back c.fill_rows.ensures.filled in
    let now : c.put_all.new.self ≡ made = c.put_all.ensures in
    let over : made.field ≡ R.field
    = ap (λ (V : EWindow). V.field) c.fill_rows.ensures.kept ∙ ap (λ (M : Matrix). M.field) (c.all_mut-all.ensures.content ∙ c.in_ok-k.ensures) ∙ c.field.ensures in
    record {
      shape = record {
        is_matrix = c.rows-shape.ensures.matrix;
        over = ap (λ (M : Matrix). M.field) now ∙ over;
        rows = ap (λ (M : Matrix). M.rows) now ∙ filled.rows;
        cols = ap (λ (M : Matrix). M.cols) now ∙ filled.cols;
      };
      rows = λ t inside. subst (λ (K : Matrix). IsKernelRow R q (slice_index g t) t K) (sym now) (row_of_top R q (slice_index g t) t made (filled.filled t inside));
    }
