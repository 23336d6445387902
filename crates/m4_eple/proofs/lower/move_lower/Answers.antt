use Rattle.std.proofs.Common.{◌∙◌, ℕ, refl, ap, sym, arith, ◌≡◌}
use Rattle.m4_model.specs.Matrix.{row, with_row}
use Rattle.m4_mzed.specs.EWindow.{EWindow, content, showing}
use Rattle.m4_eple.specs.Halves.{moved_row, lower_moved}
use Rattle.m4_eple.proofs.MoveLemmas.{moved-nothing, moved_to, moved-none, moved-more, moved-all}
use Rattle.m4_eple.proofs.lower.move_lower.Goals as goal

pub loop-i-init : goal.loop-i-init
loop-i-init c = record {
  moved = ap (showing c.args.a.now) (moved-none c.args.r c.args.left c.args.s (content c.args.a.now) c.rows-i-end.ensures.matrix c.requires.rank c.requires.room);
  spare = refl;
}

pub move_row-requires-clause-in_rows : goal.move_row-requires-clause-in_rows
move_row-requires-clause-in_rows c = let h = ap (λ (w : EWindow). w.rows) c.loop-i.invariant.moved in omega (arith, h, c.loop-i-test.true, c.rows-i-end.ensures.rows)

pub move_row-requires-clause-room : goal.move_row-requires-clause-room
move_row-requires-clause-room c = let h = ap (λ (w : EWindow). w.cols) c.loop-i.invariant.moved in omega (arith, h, c.min.ensures, c.requires.room)

pub move_row-requires-clause-one_row : goal.move_row-requires-clause-one_row
move_row-requires-clause-one_row c = ap (λ (w : EWindow). w.rows) c.loop-i.invariant.spare ∙ c.requires.one_row

pub move_row-requires-clause-same_cols : goal.move_row-requires-clause-same_cols
move_row-requires-clause-same_cols c = ap (λ (w : EWindow). w.cols) c.loop-i.invariant.spare ∙ c.requires.same_cols ∙ sym (ap (λ (w : EWindow). w.cols) c.loop-i.invariant.moved)

pub move_row-requires-clause-same_field : goal.move_row-requires-clause-same_field
move_row-requires-clause-same_field c = ap (λ (w : EWindow). w.field) c.loop-i.invariant.spare ∙ c.requires.same_field ∙ sym (ap (λ (w : EWindow). w.field) c.loop-i.invariant.moved)

pub loop-i-preserved : goal.loop-i-preserved
loop-i-preserved c =
    let W = c.args.a.now in
    let i = c.loop-i.i in
    record {
      moved = c.move_row.ensures.moved
          ∙ ap (λ (L : EWindow). showing L (with_row (content L) i (moved_row c.args.r c.args.left c.min.result (row (content L) i)))) c.loop-i.invariant.moved
          ∙ ap (λ (count : ℕ). showing W (with_row (moved_to c.args.r c.args.left c.args.s (content W) i) i (moved_row c.args.r c.args.left count (row (moved_to c.args.r c.args.left c.args.s (content W) i) i)))) c.min.ensures
          ∙ ap (showing W) (moved-more c.args.r c.args.left c.args.s (content W) c.rows-i-end.ensures.matrix c.requires.rank c.requires.room i c.loop-i.auto.i
          (omega (arith, c.loop-i-test.true, c.rows-i-end.ensures.rows)));
      spare = c.move_row.ensures.spare ∙ ap (λ (L : EWindow). showing L (content c.move_row.new.spare)) c.loop-i.invariant.spare;
    }

pub returns-clause-moved : goal.returns-clause-moved
returns-clause-moved c =
    c.loop-i.invariant.moved ∙ ap (showing c.args.a.now) (moved-all c.args.r c.args.left c.args.s (content c.args.a.now) c.rows-i-end.ensures.matrix c.requires.rank c.requires.room
    c.loop-i.i (omega (arith, c.rows-i-end.ensures.rows, c.loop-i-test.false)))

pub returns-clause-spare : goal.returns-clause-spare
returns-clause-spare c = c.loop-i.invariant.spare

pub returns-then-r-left-clause-moved : goal.returns-then-r-left-clause-moved
returns-then-r-left-clause-moved c =
    let W = c.args.a.now in
    let same : c.args.r ≡ c.args.left = c.if-r-left.true in
    ap (showing W) (moved-nothing c.args.r c.args.s (content W) c.rows-rows.ensures.matrix ∙ ap (λ (left : ℕ). lower_moved c.args.r left c.args.s (content W)) same)
