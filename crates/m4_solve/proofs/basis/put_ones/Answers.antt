use Rattle.std.proofs.Common.{ℕ, ◌+◌, ◌^◌, ◌<◌, ◌∙◌, refl, sym, ap, subst, arith, List, slice_index, set}
use Rattle.m4_model.specs.Field.{Field}
use Rattle.m4_model.specs.Matrix.{with_entry}
use Rattle.m4_mzed.specs.EWindow.{EWindow, content}
use Rattle.m4_trsm.proofs.Triangles.{one_element}
use Rattle.m4_trsm.proofs.Windows.{stays_more}
use Rattle.m4_solve.proofs.KernelRows.{AreMadeTo, made_none, made_more, one_put, one_beside}
use Rattle.m4_solve.proofs.basis.put_ones.Goals as goal

pub loop-t-init : goal.loop-t-init
loop-t-init c = (refl, made_none (λ u xs. set xs (slice_index c.args.free.now u) 1) (content c.args.k.now))

pub put-requires-clause-element : goal.put-requires-clause-element
put-requires-clause-element c =
    let field = ap (λ (V : EWindow). V.field) c.loop-t.invariant.0 in
    let one = subst (λ (F : Field). 1 < 2 ^ F.degree) (sym field) (one_element c.args.k.now.field c.rows-rows.ensures.matrix.over_field) in
    omega (arith, one)

pub loop-t-preserved : goal.loop-t-preserved
loop-t-preserved c =
    let K0 = content c.args.k.now in
    let K = content c.loop-t.k in
    let t = c.loop-t.t in
    let g = c.args.free.now in
    let f : ℕ → List ℕ → List ℕ = λ u xs. set xs (slice_index g u) 1 in
    let height = c.rows-rows.ensures.matrix.height in
    let inside = c.loop-t-test.true in
    let rows = c.requires.rows in (
      stays_more c.args.k.now c.loop-t.k c.put.new.self (with_entry K t (slice_index g t) 1) c.loop-t.invariant.0 c.put.ensures,
      subst (AreMadeTo f (t + 1) K0) (sym (ap content c.put.ensures)) (made_more f t K0 K (omega (arith, inside, height, rows)) c.loop-t.invariant.1),
    )

pub returns-clause-ones : goal.returns-clause-ones
returns-clause-ones c t inside =
    let K0 = content c.args.k.now in
    let rows = c.requires.rows in
    let wide = c.rows-rows.ensures.matrix.width t (omega (arith, inside, rows)) in
    let low = c.requires.in_cols t inside in
    one_put K0 (content c.loop-t.k) c.args.free.now t (c.loop-t.invariant.1.made t (omega (arith, inside))) (omega (arith, wide, low))

pub returns-clause-zeros : goal.returns-clause-zeros
returns-clause-zeros c t j inside within other =
    let rows = c.requires.rows in
    one_beside (content c.args.k.now) (content c.loop-t.k) c.args.free.now t (c.loop-t.invariant.1.made t (omega (arith, inside))) j other
    ∙ c.requires.zeros t j (omega (arith, inside, rows)) within
