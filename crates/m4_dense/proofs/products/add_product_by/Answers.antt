use Rattle.std.proofs.Common.{◌∙◌, sym, subst, ap, ap₂}
use Rattle.m4_model.specs.Matrix.{added, product}
use Rattle.m4_model.specs.Shapes.{cut, replace}
use Rattle.m4_mzed.specs.EWindow.{EWindow, content}
use Rattle.m4_mzed.specs.ESeen.{e_shown}
use Rattle.m4_mzed.specs.Taken.{IsAround}
use Rattle.m4_dense.proofs.products.add_product_by.Goals as goal

pub put_win-requires : goal.put_win-requires
put_win-requires g c =
    let C = c.args.c.now in
    let sum = added (content c.win_mut-part.result.0) (product (e_shown c.all.result) (e_shown c.all-2.result)) in
    let P : EWindow → Type 0 = λ w. IsAround c.win_mut-part.result.1 w c.args.rect C in
    record { fits = record { rect = c.args.rect; matrix = C; is = subst P (sym c.addmul.ensures.sum) (c.win_mut-part.ensures.whatever_it_shows sum) } }

pub returns : goal.returns
returns g c =
    let C = c.args.c.now in
    let rect = c.args.rect in
    let sum = added (content c.win_mut-part.result.0) (product (e_shown c.all.result) (e_shown c.all-2.result)) in
    let P : EWindow → Type 0 = λ w. IsAround c.win_mut-part.result.1 w rect C in
    c.put_win.ensures rect C (subst P (sym c.addmul.ensures.sum) (c.win_mut-part.ensures.whatever_it_shows sum))
    ∙ ap (replace C rect.r0 rect.c0)
    (ap content c.addmul.ensures.sum
    ∙ (ap (λ W. added W (product (e_shown c.all.result) (e_shown c.all-2.result))) c.win_mut-part.ensures.content
    ∙ ap₂ (λ X Y. added (cut C rect.r0 rect.c0 rect.r1 rect.c1) (product X Y)) c.all.ensures c.all-2.ensures))
