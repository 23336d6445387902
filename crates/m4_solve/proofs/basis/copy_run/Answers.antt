use Rattle.std.proofs.Common.{ℕ, ◌+◌, refl, sym, ap, subst, arith, List, slice_index}
use Rattle.m4_model.specs.Matrix.{row, with_row}
use Rattle.m4_mzd.specs.Parts.{part, with_part}
use Rattle.m4_mzed.specs.EWindow.{content}
use Rattle.m4_mzed.specs.ESeen.{e_shown}
use Rattle.m4_trsm.proofs.Windows.{stays_more}
use Rattle.m4_solve.proofs.KernelRows.{AreMadeTo, made_none, made_more, part_within, part_outside}
use Rattle.m4_solve.proofs.basis.copy_run.Goals as goal

pub loop-t-init : goal.loop-t-init
loop-t-init c =
    let T = e_shown c.args.turned.now in
    (refl, made_none (λ u xs. with_part c.args.c (part c.args.d c.args.count (row T (slice_index c.args.free.now u))) xs) (content c.args.k.now))

pub loop-t-preserved : goal.loop-t-preserved
loop-t-preserved c =
    let T = e_shown c.args.turned.now in
    let K0 = content c.args.k.now in
    let K = content c.loop-t.k in
    let t = c.loop-t.t in
    let g = c.args.free.now in
    let f : ℕ → List ℕ → List ℕ = λ u xs. with_part c.args.c (part c.args.d c.args.count (row T (slice_index g u))) xs in
    let height = c.rows-rows.ensures.matrix.height in
    let inside = c.loop-t-test.true in
    let rows = c.requires.rows in (
      stays_more c.args.k.now c.loop-t.k c.copy_part.new.self (with_row K t (f t (row K t))) c.loop-t.invariant.0 c.copy_part.ensures,
      subst (AreMadeTo f (t + 1) K0) (sym (ap content c.copy_part.ensures)) (made_more f t K0 K (omega (arith, inside, height, rows)) c.loop-t.invariant.1),
    )

pub returns-clause-copied : goal.returns-clause-copied
returns-clause-copied c t u inside below =
    let T = e_shown c.args.turned.now in
    let K0 = content c.args.k.now in
    let g = c.args.free.now in
    let rows = c.requires.rows in
    let wide = c.rows-rows.ensures.matrix.width t (omega (arith, inside, rows)) in
    let long = c.rows-turned.ensures.matrix.width (slice_index g t) (c.requires.in_turned t inside) in
    let in_cols = c.requires.in_cols in
    let source = c.requires.in_turned_cols in
    part_within (row K0 t) (row T (slice_index g t)) (row (content c.loop-t.k) t) c.args.c c.args.d c.args.count (c.loop-t.invariant.1.made t (omega (arith, inside)))
    (omega (arith, source, long)) (omega (arith, in_cols, wide)) u below

pub returns-clause-others : goal.returns-clause-others
returns-clause-others c t j inside none =
    let T = e_shown c.args.turned.now in
    let K0 = content c.args.k.now in
    let g = c.args.free.now in
    let rows = c.requires.rows in
    let wide = c.rows-rows.ensures.matrix.width t (omega (arith, inside, rows)) in
    let long = c.rows-turned.ensures.matrix.width (slice_index g t) (c.requires.in_turned t inside) in
    let in_cols = c.requires.in_cols in
    let source = c.requires.in_turned_cols in
    part_outside (row K0 t) (row T (slice_index g t)) (row (content c.loop-t.k) t) c.args.c c.args.d c.args.count (c.loop-t.invariant.1.made t (omega (arith, inside)))
    (omega (arith, source, long)) (omega (arith, in_cols, wide)) j none
