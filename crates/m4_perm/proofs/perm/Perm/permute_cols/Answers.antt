use Rattle.std.proofs.Common.{ℕ, sym, subst, ap, ◌∙◌}
use Rattle.m4_model.specs.Shapes.{transposed}
use Rattle.m4_model.specs.Step.{reordered}
use Rattle.m4_model.specs.Factors.{IsOrder}
use Rattle.m4_mzd.specs.Seen.{shown}
use Rattle.m4_perm.proofs.RowsLemmas.{turned_columns}
use Rattle.m4_perm.proofs.perm.Perm.permute_cols.Goals as goal

pub returns : goal.returns
returns c =
    let A = shown c.args.a.now in
    let p = c.args.self.now in
    c.in_ok-transpose.ensures ∙ ap transposed (c.all-2.ensures ∙ c.in_ok-moved.ensures ∙ ap (reordered p) (c.all.ensures ∙ c.in_ok-turned.ensures))
    ∙ turned_columns p A (subst (λ (n : ℕ). IsOrder n p) (sym c.requires) c.as_list-order.ensures.order)
