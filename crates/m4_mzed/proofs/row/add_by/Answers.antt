use Rattle.std.proofs.Common.{◌<◌, arith}
use Rattle.std.proofs.lemmas.List.Elements.{All-from_get_or}
use Rattle.m4_model.specs.Matrix.{row}
use Rattle.m4_field.specs.Fields.{the_field}
use Rattle.m4_mzd.specs.Seen.{shown}
use Rattle.m4_mzed.specs.Rows.{packed_multiples}
use Rattle.m4_mzed.proofs.IndexLemmas.{AreBits}
use Rattle.m4_mzed.proofs.ProductLemmas.{are_factors, are_products}
use Rattle.m4_mzed.proofs.row.add_by.Goals as goal

pub returns : goal.returns
returns g c =
    let F = the_field c.args.f.now in
    let zs = row (shown c.args.from.now) c.args.s in
    let bits : AreBits zs = All-from_get_or (λ b. b < 2) zs 0 (λ j within. c.rows-from.ensures.matrix.elements c.args.s j c.requires.in_from (let l = c.rows-from.ensures.matrix.width c.args.s c.requires.in_from in omega (arith, l, within))) in
    let factors = are_factors F c.width.ensures.field g.row.N c.ones-low.result c.width.result c.args.x c.factors.result c.patterns-list.result c.requires.elements c.width.ensures.width
    c.ones-low.ensures.word c.ones-low.ensures.ones c.factors.ensures.powers c.factors.ensures.elements c.factors.ensures.rest c.patterns-list.ensures in
    c.add_products.ensures (packed_multiples F c.args.cols c.args.x zs) (are_products F g.row.N c.ones-low.result c.args.x c.factors.result c.patterns-list.result factors c.args.cols zs c.requires.source bits)
