use Rattle.std.proofs.Common.{◌*◌, take, ap, sym, ◌∙◌}
use Rattle.m4_model.specs.Field.{Field}
use Rattle.m4_model.specs.Matrix.{Matrix, added}
use Rattle.m4_field.specs.Fields.{the_field}
use Rattle.m4_mzd.specs.Seen.{shown}
use Rattle.m4_mzd.specs.Window.{Window}
use Rattle.m4_mzed.specs.EWindow.{content, showing}
use Rattle.m4_slice.specs.Sliced.{joined}
use Rattle.m4_karatsuba.proofs.ProductLemmas.{joined_remainders}
use Rattle.m4_karatsuba.proofs.product.add_remainders.Goals as goal

pub returns-clause-sum : goal.returns-clause-sum
returns-clause-sum g c =
    let F = the_field c.args.field in
    let f = c.args.factors.now in
    let w = c.args.c.now in
    let S = shown c.split_rows.result.0 in
    c.add_slices.ensures
    ∙ ap (λ (H : Field). showing w (added (content w) (joined H H.degree w.rows S))) c.requires.field
    ∙ ap (λ (M : Matrix). showing w (added (content w) M))
    (joined_remainders F f c.product_in_room-product.result c.reduce.new.c S w.rows (sym c.requires.count) c.requires.rows
    (ap (λ (M : Matrix). M.cols) c.split_rows.ensures.above ∙ ap (λ (M : Matrix). M.cols) c.see.ensures ∙ ap (λ (x : Window). x.cols) c.reduce.ensures.kept ∙ c.product_in_room-product.ensures.product.slices.cols)
    c.product_in_room-product.ensures.product c.reduce.ensures.remainders
    (ap (λ (M : Matrix). M.entries) c.split_rows.ensures.above ∙ ap (λ (M : Matrix). take (f.count * f.shape.m) M.entries) c.see.ensures))
