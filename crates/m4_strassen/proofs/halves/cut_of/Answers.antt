use Rattle.std.proofs.Common.{◌+◌, ◌*◌, arith, ◌∙◌}
use Rattle.m4_model.specs.Recursion.{need, products, level_words}
use Rattle.m4_model.proofs.RecursionLemmas.{sides_cut, need-level, products-level}
use Rattle.m4_strassen.proofs.halves.cut_of.Goals as goal

pub returns-clause-cut : goal.returns-clause-cut
returns-clause-cut c =
    let sides = sides_cut c.args.m c.args.l c.args.n c.args.cutoff c.requires.cut in
    record {
      least = c.requires.least;
      few = c.requires.few;
      some_rows = omega (arith, c.half.ensures, sides.rows, c.requires.least);
      whole_inner = omega (arith, c.half-2.ensures);
      whole_cols = omega (arith, c.half-3.ensures);
    }

pub returns-clause-within : goal.returns-clause-within
returns-clause-within c = record {
  rows = omega (arith, c.half.ensures);
  inner = omega (arith, c.half-2.ensures);
  cols = omega (arith, c.half-3.ensures);
}

pub returns-clause-words : goal.returns-clause-words
returns-clause-words c =
    (λ i. level_words (c.half.ensures i) (c.half-2.ensures i) (c.half-3.ensures i) + need (c.half.ensures i) (c.half-2.ensures i) (c.half-3.ensures i) c.args.cutoff)
    ∙ need-level c.args.m c.args.l c.args.n c.args.cutoff c.requires.cut

pub returns-clause-products : goal.returns-clause-products
returns-clause-products c =
    (λ i. 7 * products (c.half.ensures i) (c.half-2.ensures i) (c.half-3.ensures i) c.args.cutoff + 3)
    ∙ products-level c.args.m c.args.l c.args.n c.args.cutoff c.requires.cut
