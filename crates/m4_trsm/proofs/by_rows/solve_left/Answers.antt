use Rattle.std.proofs.Common.{◌≡◌, refl, sym, ap, subst, ◌∙◌, arith}
use Rattle.m4_model.specs.Matrix.{at}
use Rattle.m4_mzed.specs.EWindow.{EWindow, content}
use Rattle.m4_mzed.specs.ESeen.{e_shown}
use Rattle.m4_trsm.specs.Triangles.{inside}
use Rattle.m4_trsm.specs.Elimination.{without_row}
use Rattle.m4_trsm.specs.ByRows.{place, rises_on_left}
use Rattle.m4_trsm.proofs.Taken.{is_done, restored_left, restored-none, done_start, left_more}
use Rattle.m4_trsm.proofs.Triangles.{solved_left}
use Rattle.m4_trsm.proofs.Windows.{stays_more}
use Rattle.m4_trsm.proofs.by_rows.solve_left.Goals as goal

pub loop-step-init : goal.loop-step-init
loop-step-init c =
    let w = c.args.b.now in
    record {
      stays = refl;
      left = λ p q in_rows in_cols.
          restored-none w.field c.rows-rows.ensures.matrix.over_field w.rows (λ s p. inside c.args.side (e_shown c.args.t.now) p s) (is_done (rises_on_left c.args.side) w.rows 0) (λ s. at (content w) s q) p
          (λ s within. done_start (rises_on_left c.args.side) w.rows s within);
    }

pub loop-step-preserved : goal.loop-step-preserved
loop-step-preserved c =
    let w = c.args.b.now in
    let now = c.loop-step in
    let T = e_shown c.args.t.now in
    let side = c.args.side in
    let below = c.loop-step-test.true in
    let here : c.place.result ≡ place (rises_on_left side) w.rows now.step =
    c.place.ensures ∙ ap (λ b. place b c.rows-rows.result now.step) c.rises_on_left.ensures ∙ ap (λ n. place (rises_on_left side) n now.step) c.rows-rows.ensures.rows in
    record {
      stays = stays_more w now.b c.take_row_out.new.b (without_row side T (content now.b) c.place.result) now.invariant.stays c.take_row_out.ensures;
      left = λ p q in_rows in_cols.
          left_more w.field c.rows-rows.ensures.matrix.over_field side T (content now.b) (content c.take_row_out.new.b) w.rows w.cols now.step c.place.result
          (ap (λ (x : EWindow). x.field) now.invariant.stays) (ap (λ (x : EWindow). x.rows) now.invariant.stays) (ap (λ (x : EWindow). x.cols) now.invariant.stays) (omega (arith, c.rows-rows.ensures.rows)) here
          (ap content c.take_row_out.ensures) p q in_rows in_cols
          ∙ now.invariant.left p q in_rows in_cols;
    }

pub returns-clause-solved : goal.returns-clause-solved
returns-clause-solved c =
    let w = c.args.b.now in
    let now = c.loop-step in
    let T = e_shown c.args.t.now in
    let all : now.step ≡ w.rows = omega (arith, c.rows-rows.ensures.rows, now.auto.step-end) in
    solved_left w.field c.rows-rows.ensures.matrix.over_field c.args.side T w.rows
    (record { is_matrix = c.rows-rows_of_t.ensures.matrix; over = c.requires.field; rows = c.requires.fits; cols = sym c.requires.square ∙ c.requires.fits })
    w.cols (content now.b) (content w)
    (record {
      is_matrix = c.rows-rows_after.ensures.matrix;
      over = ap (λ (x : EWindow). x.field) now.invariant.stays;
      rows = ap (λ (x : EWindow). x.rows) now.invariant.stays;
      cols = ap (λ (x : EWindow). x.cols) now.invariant.stays;
    })
    (record { is_matrix = c.rows-rows.ensures.matrix; over = refl; rows = refl; cols = refl })
    (λ p q in_rows in_cols. subst (λ k. restored_left w.field c.args.side T (content now.b) w.rows k p q ≡ at (content w) p q) all (now.invariant.left p q in_rows in_cols))
