use Rattle.std.proofs.Common.{◌≡◌, ◌-◌, ◌*◌, take, ap, ◌∙◌, arith}
use Rattle.m4_model.specs.Matrix.{Matrix}
use Rattle.m4_field.specs.Fields.{the_field}
use Rattle.m4_mzd.specs.Window.{Window}
use Rattle.m4_mzd.specs.Seen.{shown}
use Rattle.m4_mzd.proofs.PairLemmas.{upper, lower}
use Rattle.m4_karatsuba.proofs.ReductionLemmas.{fold_remainder}
use Rattle.m4_karatsuba.proofs.reduce.fold_slice.Goals as goal

pub returns-clause-remainders : goal.returns-clause-remainders
returns-clause-remainders c =
    let m = c.args.shape.m in
    let v = c.args.v in
    let e = c.e-degree.result in
    let low = c.split_rows-low.result.0 in
    let now = c.add_terms.new.c in
    let top : low ≡ upper c.args.c.now (v * m) = c.split_rows-low.ensures.above ∙ ap (λ (z : Window). upper z (v * m)) c.take.ensures.whole in
    fold_remainder (the_field c.args.field) (v - e) v c.args.shape c.args.c.now low now c.split_rows-low.result.1 c.put_back.new.self
    (shown c.split_rows.result.0) c.e-degree.ensures.field (omega (arith, c.requires.high, c.e-degree.ensures.degree)) top
    (c.split_rows-low.ensures.below ∙ ap (λ (z : Window). lower z (v * m)) c.take.ensures.whole) c.add_terms.ensures
    (c.rows-low_rows.ensures.shape.matrix.height ∙ ap (λ (z : Window). z.rows) c.add_terms.ensures.kept ∙ ap (λ (z : Window). z.rows) top)
    (c.put_back.ensures ∙ c.join_rows.ensures)
    (ap (λ (M : Matrix). M.entries) c.split_rows.ensures.above ∙ ap (λ (M : Matrix). take m M.entries) c.see.ensures)
