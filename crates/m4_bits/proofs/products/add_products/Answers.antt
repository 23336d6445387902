use Rattle.std.proofs.Common.{◌≡◌, ℕ, ◌-◌, ◌/◌, ◌≤◌, length, arith, sym, ◌∙◌}
use Rattle.m4_model.specs.Matrix.{row_sum}
use Rattle.m4_bits.specs.Bits.{masked}
use Rattle.m4_bits.specs.Products.{row_products}
use Rattle.m4_bits.proofs.BitsLemmas.{bit_past, length-row_sum}
use Rattle.m4_bits.proofs.ProductLemmas.{Made, bit-products_added, bit-products_kept}
use Rattle.m4_bits.proofs.products.add_products.Goals as goal

pub returns-then-place-dst-clause-added : goal.returns-then-place-dst-clause-added
returns-then-place-dst-clause-added g c = λ k from.
    let none : length c.args.dst.now ≤ k / 64 = omega (arith, from, c.if-place-dst.true) in
    let sources = masked (row_products g.row.N c.args.low c.args.patterns.now c.args.src.now c.args.last) c.args.last in
    bit_past c.args.dst.now k none
    ∙ sym (bit_past (row_sum c.args.dst.now sources) k (omega (arith, length-row_sum c.args.dst.now sources, none)))

pub returns-clause-added : goal.returns-clause-added
returns-clause-added g c = λ k from.
    let h : Made g.row.N c.args.low c.args.patterns.now c.args.dst.now c.args.src.now c.args.first c.args.last c.add_whole_words.new.dst c.merge.result c.merge-2.result =
    record {
      same = c.requires.same;
      within = c.if-place-dst.false;
      long = c.add_whole_words.ensures.long;
      added = c.add_whole_words.ensures.added;
      kept = c.add_whole_words.ensures.kept;
      tail_is = rw c.product_of.ensures at c.merge.ensures;
      head_is = c.merge-2.ensures;
    } in
    bit-products_added g.row.N c.args.low c.args.patterns.now c.args.dst.now c.args.src.now c.args.first c.args.last c.add_whole_words.new.dst c.merge.result c.merge-2.result h k from

pub returns-clause-kept : goal.returns-clause-kept
returns-clause-kept g c = λ k before.
    let h : Made g.row.N c.args.low c.args.patterns.now c.args.dst.now c.args.src.now c.args.first c.args.last c.add_whole_words.new.dst c.merge.result c.merge-2.result =
    record {
      same = c.requires.same;
      within = c.if-place-dst.false;
      long = c.add_whole_words.ensures.long;
      added = c.add_whole_words.ensures.added;
      kept = c.add_whole_words.ensures.kept;
      tail_is = rw c.product_of.ensures at c.merge.ensures;
      head_is = c.merge-2.ensures;
    } in
    bit-products_kept g.row.N c.args.low c.args.patterns.now c.args.dst.now c.args.src.now c.args.first c.args.last c.add_whole_words.new.dst c.merge.result c.merge-2.result h k before
