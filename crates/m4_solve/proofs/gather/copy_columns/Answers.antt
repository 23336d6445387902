use Rattle.std.proofs.Common.{◌+◌, refl, sym, ap, subst, arith}
use Rattle.m4_model.specs.Matrix.{row, with_row}
use Rattle.m4_mzd.specs.Parts.{part, with_part}
use Rattle.m4_mzed.specs.EWindow.{content}
use Rattle.m4_mzed.specs.ESeen.{e_shown}
use Rattle.m4_trsm.proofs.Windows.{stays_more}
use Rattle.m4_solve.proofs.Gathers.{AreRowsCopied, copied_none, copied_more, copied_entry, copied_before}
use Rattle.m4_solve.proofs.gather.copy_columns.Goals as goal

pub loop-i-init : goal.loop-i-init
loop-i-init c = (refl, copied_none (e_shown c.args.w.now) c.args.c c.args.d c.args.count (content c.args.g.now))

pub loop-i-preserved : goal.loop-i-preserved
loop-i-preserved c =
    let W = e_shown c.args.w.now in
    let K0 = content c.args.g.now in
    let K = content c.loop-i.g in
    let i = c.loop-i.i in
    let matrix = c.rows-i-end.ensures.matrix in
    let height = matrix.height in
    let inside = c.loop-i-test.true in
    let rows = c.rows-i-end.ensures.rows in (
      stays_more c.args.g.now c.loop-i.g c.copy_part.new.self (with_row K i (with_part c.args.c (part c.args.d c.args.count (row W i)) (row K i))) c.loop-i.invariant.0 c.copy_part.ensures,
      subst (AreRowsCopied W K0 c.args.c c.args.d c.args.count (i + 1)) (sym (ap content c.copy_part.ensures))
          (copied_more W c.args.c c.args.d c.args.count i K0 K (omega (arith, inside, height, rows)) c.loop-i.invariant.1),
    )

pub returns-clause-copied : goal.returns-clause-copied
returns-clause-copied c i u below inside =
    let W = e_shown c.args.w.now in
    let matrix = c.rows-i-end.ensures.matrix in
    let from = c.rows-rows.ensures.matrix in
    let rows = c.requires.rows in
    let room = c.requires.room in
    let in_cols = c.requires.in_cols in
    let done = c.loop-i.invariant.1 in
    copied_entry {W = W} {K0 = content c.args.g.now} {c = c.args.c} {d = c.args.d} {count = c.args.count} {n = c.loop-i.i} done
    (λ j low. let wide = from.width j (omega arith) in omega (arith, wide, in_cols))
    (λ j low. let wide = matrix.width j (omega arith) in omega (arith, wide, room)) i u (omega arith) inside

pub returns-clause-before : goal.returns-clause-before
returns-clause-before c i j below left =
    let W = e_shown c.args.w.now in
    let matrix = c.rows-i-end.ensures.matrix in
    let from = c.rows-rows.ensures.matrix in
    let rows = c.requires.rows in
    let room = c.requires.room in
    let in_cols = c.requires.in_cols in
    let done = c.loop-i.invariant.1 in
    copied_before {W = W} {K0 = content c.args.g.now} {c = c.args.c} {d = c.args.d} {count = c.args.count} {n = c.loop-i.i} done
    (λ j low. let wide = from.width j (omega arith) in omega (arith, wide, in_cols))
    (λ j low. let wide = matrix.width j (omega arith) in omega (arith, wide, room)) i j (omega arith) left
