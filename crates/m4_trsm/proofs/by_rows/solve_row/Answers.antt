use Rattle.std.proofs.Common.{◌≡◌, ◌<◌, ◌^◌, [], List, ℕ, length, get_or, refl, sym, ap, subst, ◌∙◌, arith, get_or-set_same}
use Rattle.std.proofs.lemmas.List.{length-set, set-set}
use Rattle.m4_model.specs.Field.{Field}
use Rattle.m4_model.specs.Matrix.{row, with_row}
use Rattle.m4_mzed.specs.EWindow.{EWindow, content, showing}
use Rattle.m4_mzed.specs.ESeen.{e_shown}
use Rattle.m4_trsm.specs.Triangles.{inside}
use Rattle.m4_trsm.specs.Elimination.{without_entry}
use Rattle.m4_trsm.specs.ByRows.{place, rises_on_right}
use Rattle.m4_trsm.proofs.Taken.{is_done, restored_right, restored-none, done_start, right_more}
use Rattle.m4_trsm.proofs.RowSteps.{length-without_entry, row_kept}
use Rattle.m4_trsm.proofs.Triangles.{solved_row}
use Rattle.m4_trsm.proofs.by_rows.solve_row.Goals as goal

pub loop-step-init : goal.loop-step-init
loop-step-init c =
    let w = c.args.b.now in
    let n = w.cols in
    record {
      stays = sym (row_kept w c.args.r);
      long = c.cols-cols.ensures.matrix.width c.args.r c.requires.in_rows;
      left = λ p within.
          restored-none w.field c.cols-cols.ensures.matrix.over_field n (λ s p. inside c.args.side (e_shown c.args.t.now) s p) (is_done (rises_on_right c.args.side) n 0) (λ s. get_or (row (content w) c.args.r) s 0) p
          (λ s inside_row. done_start (rises_on_right c.args.side) n s inside_row);
    }

pub loop-step-preserved : goal.loop-step-preserved
loop-step-preserved c =
    let w = c.args.b.now in
    let now = c.loop-step in
    let new = c.take_entry_out.new.b in
    let T = e_shown c.args.t.now in
    let side = c.args.side in
    let r = c.args.r in
    let below = c.loop-step-test.true in
    let xs = row (content now.b) r in
    let ys = without_entry side T xs c.place.result in
    let here : c.place.result ≡ place (rises_on_right side) w.cols now.step =
    c.place.ensures ∙ ap (λ b. place b c.cols-cols.result now.step) c.rises_on_right.ensures ∙ ap (λ n. place (rises_on_right side) n now.step) c.cols-cols.ensures.cols in
    let high : r < length now.b.entries =
    omega (arith, ap (λ (x : EWindow). length x.entries) now.invariant.stays, length-set w.entries r xs, c.cols-cols.ensures.matrix.height, c.requires.in_rows) in
    let is : row (content new) r ≡ ys = ap (λ (x : EWindow). row (content x) r) c.take_entry_out.ensures ∙ get_or-set_same now.b.entries r ys [] high in
    record {
      stays = c.take_entry_out.ensures
          ∙ ap (λ (x : EWindow). showing x (with_row (content x) r ys)) now.invariant.stays
          ∙ ap (λ (rows : List (List ℕ)). record w { entries = rows }) (set-set w.entries r xs ys)
          ∙ ap (λ l. showing w (with_row (content w) r l)) (sym is);
      long = ap length is ∙ length-without_entry side T xs c.place.result ∙ now.invariant.long;
      left = λ p within.
          right_more w.field c.cols-cols.ensures.matrix.over_field side T xs (row (content new) r) w.cols now.step c.place.result c.requires.field now.invariant.long (omega (arith, c.cols-cols.ensures.cols)) here is p within
          ∙ now.invariant.left p within;
    }

pub returns-clause-solved : goal.returns-clause-solved
returns-clause-solved c =
    let w = c.args.b.now in
    let now = c.loop-step in
    let T = e_shown c.args.t.now in
    let r = c.args.r in
    let n = w.cols in
    let all : now.step ≡ n = omega (arith, c.cols-cols.ensures.cols, now.auto.step-end) in
    let high : r < now.b.rows = omega (arith, ap (λ (x : EWindow). x.rows) now.invariant.stays, c.requires.in_rows) in
    let wide = ap (λ (x : EWindow). x.cols) now.invariant.stays in
    solved_row w.field c.cols-cols.ensures.matrix.over_field c.args.side T n
    (record { is_matrix = c.rows-rows_of_t.ensures.matrix; over = c.requires.field; rows = c.requires.square ∙ c.requires.fits; cols = c.requires.fits })
    (row (content w) r) (row (content now.b) r) (c.cols-cols.ensures.matrix.width r c.requires.in_rows) now.invariant.long
    (λ s within. subst (λ (G : Field). get_or (row (content now.b) r) s 0 < 2 ^ G.degree) (ap (λ (x : EWindow). x.field) now.invariant.stays) (c.rows-rows_after.ensures.matrix.elements r s high (omega (arith, wide))))
    (λ p within. subst (λ k. restored_right w.field c.args.side T (row (content now.b) r) n k p ≡ get_or (row (content w) r) p 0) all (now.invariant.left p within))
