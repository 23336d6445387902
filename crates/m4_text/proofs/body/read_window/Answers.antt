use Rattle.std.proofs.Common.{◌≡◌, ◌+◌, drop, refl, sym, ◌∙◌, ap, subst, arith}
use Rattle.std.proofs.lemmas.List.{take_rest}
use Rattle.m4_mzd.specs.Window.{Window, content, showing}
use Rattle.m4_text.specs.Place.{GoesWrong, IsLine}
use Rattle.m4_text.specs.Reading.{ReadsRow}
use Rattle.m4_text.proofs.Rows.{RowsSoFar, rows_begin, rows_go_on, rows_wrong, rows_end}
use Rattle.m4_text.proofs.body.read_window.Goals as goal

-- a window in which first this and then that was written
stays : (a b c : Window) → b ≡ showing a (content b) → c ≡ showing b (content c) → c ≡ showing a (content c)
stays a b c first second = second ∙ ap (λ (w : Window). showing w (content c)) first

pub loop-r-init : goal.loop-r-init
loop-r-init c = record {
  read = rows_begin c.args.bytes.now (content c.args.whole.now) c.cols.ensures.shape.matrix refl;
  stays = refl;
}

pub returns-in-Err-clause-err : goal.returns-in-Err-clause-err
returns-in-Err-clause-err c =
    let old = c.args.whole.now in
    let bytes = c.args.bytes.now in
    let now = c.loop-r in
    rows_wrong old.rows old.cols bytes now.place now.r c.in-Err.wrong (content now.whole) (omega (arith, c.rows-r-end.ensures.rows)) now.invariant.read
    (subst (λ w. GoesWrong (IsLine now.whole.cols) w c.in-Err.wrong) (take_rest bytes now.place) c.in-Err.ensures.err)

pub returns-in-Err-clause-stays : goal.returns-in-Err-clause-stays
returns-in-Err-clause-stays c = stays c.args.whole.now c.loop-r.whole c.read_row.new.whole c.loop-r.invariant.stays c.read_row.ensures.stays

pub loop-r-preserved : goal.loop-r-preserved
loop-r-preserved c =
    let old = c.args.whole.now in
    let bytes = c.args.bytes.now in
    let now = c.loop-r in
    let read : ReadsRow (drop now.place bytes) (content now.whole) (content c.read_row.new.whole) now.r =
    subst (λ w. ReadsRow w (content now.whole) (content c.read_row.new.whole) now.r) (take_rest bytes now.place) c.in_default.ensures.ok in
    record {
      read = subst (λ n. RowsSoFar old.rows old.cols bytes (now.place + (n + 1)) (now.r + 1) (content c.read_row.new.whole)) (sym c.cols.ensures.cols)
          (rows_go_on old.rows old.cols bytes now.place now.r (content now.whole) (content c.read_row.new.whole) (omega (arith, c.rows-r-end.ensures.rows)) now.invariant.read read);
      stays = stays old now.whole c.read_row.new.whole now.invariant.stays c.read_row.ensures.stays;
    }

pub returns-clause-ok : goal.returns-clause-ok
returns-clause-ok c =
    let old = c.args.whole.now in
    let now = c.loop-r in
    let all : now.r ≡ old.rows = omega (arith, c.rows-r-end.ensures.rows, now.auto.r-end) in
    rows_end old.rows old.cols c.args.bytes.now now.place (content old) (content now.whole) refl refl
    (subst (λ r. RowsSoFar old.rows old.cols c.args.bytes.now now.place r (content now.whole)) all now.invariant.read)
