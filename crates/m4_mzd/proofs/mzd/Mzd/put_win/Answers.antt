use Rattle.std.proofs.Common.{◌≡◌, subst, ap, ◌∙◌}
use Rattle.m4_area.specs.Rectangle.{Rectangle, HasShape}
use Rattle.m4_mzd.specs.declared.mzd.around.Around.{Around}
use Rattle.m4_mzd.proofs.AroundFacts.{stacked, beside, joined, put_replaces, put_is_held}
use Rattle.m4_mzd.proofs.mzd.Mzd.put_win.Goals as goal

-- the part and what lies around it, joined again piece by piece
whole : (around : Around) (part : Rectangle) {first rows upper all new : Rectangle} → first ≡ beside around.left part → rows ≡ beside first around.right
    → upper ≡ stacked around.above rows → all ≡ stacked upper around.below → new ≡ all → new ≡ joined around part
whole around part left right above below is =
    is ∙ below ∙ ap (λ (x : Rectangle). stacked x around.below) (above ∙ ap (stacked around.above) (right ∙ ap (λ (x : Rectangle). beside x around.right) left))

pub invariant_of-self : goal.invariant_of-self
invariant_of-self c =
    let f = c.requires.fits in
    put_is_held c.args.around c.args.part f.rect f.matrix c.part.inside.words c.put.new.self c.part.inside.cols f.is c.part.view_is c.part.invariant
    (subst HasShape c.words.ensures c.rows-rows.ensures.shape)
    (whole c.args.around c.part.inside.words c.join_words.ensures c.join_words-rows.ensures c.join_rows.ensures c.join_rows-2.ensures c.put.ensures)

pub returns : goal.returns
returns c = λ rect A h.
    put_replaces c.args.around c.args.part rect A c.part.inside.words c.put.new.self c.part.inside.cols h c.part.view_is c.part.invariant
    (subst HasShape c.words.ensures c.rows-rows.ensures.shape)
    (whole c.args.around c.part.inside.words c.join_words.ensures c.join_words-rows.ensures c.join_rows.ensures c.join_rows-2.ensures c.put.ensures)
