use Rattle.std.proofs.Common.{refl, ap, ◌∙◌}
use Rattle.m4_model.specs.Matrix.{Matrix}
use Rattle.m4_mzd.specs.Window.{content}
use Rattle.m4_mzd.specs.Seen.{shown}
use Rattle.m4_shape.proofs.PlacedLemmas.{whole_laid}
use Rattle.m4_shape.proofs.part.sub.Goals as goal

pub returns : goal.returns
returns c =
    let empty = c.all_mut-whole.ensures.content ∙ c.in_ok-m.ensures in
    c.put_all.ensures ∙ ap content c.copy_columns.ensures
    ∙ whole_laid c.all_mut-whole.result.0 (shown c.args.a.now) c.args.rect.r0 c.args.rect.c0 c.args.rect.r1 c.args.rect.c1 refl c.requires.in_order c.requires.in_order_across
    (ap (λ (A : Matrix). A.rows) empty) (ap (λ (A : Matrix). A.cols) empty)
