use Rattle.std.proofs.Common.{◌++◌, ℕ, List, length, take, drop, ◌∙◌, ap, subst, arith, take_all, length-drop}
use Rattle.std.proofs.lemmas.Result.{err_from_is_err_and}
use Rattle.std.proofs.lemmas.List.{take_rest, drop-drop}
use Rattle.m4_model.specs.declared.form.Form.TheVariants.{Bare}
use Rattle.m4_model.specs.Headed.{Bits}
use Rattle.m4_etext.specs.Pieces.{Stops}
use Rattle.m4_etext.specs.BareRows.{KeptRows, StandsForRows}
use Rattle.m4_etext.specs.FormFaults.{IsFaultOfAllIn}
use Rattle.m4_etext.proofs.BareMoves.{parted_whole, rest_read}
use Rattle.m4_etext.proofs.bare_rows.BareRows.feed.Goals as goal

pub returns-in_err-make_room-clause-err : goal.returns-in_err-make_room-clause-err
returns-in_err-make_room-clause-err c =
    let piece = c.args.piece.now in
    let len = c.loop-len.len in
    let p = err_from_is_err_and c.from_residual.result c.from_residual.ensures.1 in
    rw (p.1, p.2) (λ bytes stands.
    subst (λ (l : List ℕ). IsFaultOfAllIn Bare l c.in_err-make_room.field-0.0) (ap (λ l. (bytes ++ take len piece) ++ l) (take_rest piece len) ∙ parted_whole bytes piece len)
    (c.in_err-make_room.ensures.err (bytes ++ take len piece) (c.loop-len.invariant.read bytes stands)))

pub returns-clause-ok : goal.returns-clause-ok
returns-clause-ok c = λ bytes stands.
    subst (λ (l : List ℕ). StandsForRows c.loop-len.self (bytes ++ l)) (take_all c.loop-len.len c.args.piece.now (omega arith)) (c.loop-len.invariant.read bytes stands)

pub loop-len-preserved : goal.loop-len-preserved
loop-len-preserved c =
    let piece = c.args.piece.now in
    let len = c.loop-len.len in
    let t = c.take-len-in-loop-len in
    let whole = take_rest piece len in
    let long = ap length whole in
    let left = length-drop len piece in
    let new : KeptRows = t.new.self in
    let after : (bytes : List ℕ) → StandsForRows c.loop-len.self bytes → StandsForRows t.new.self (bytes ++ take t.result (drop len piece)) =
    subst (λ (l : List ℕ). (bytes : List ℕ) → StandsForRows c.loop-len.self bytes → StandsForRows t.new.self (bytes ++ take t.result l)) whole
    (λ bytes stands. t.ensures.read bytes (c.in_ok-make_room.ensures.ok bytes stands)) in
    record {
      within = omega (arith, long, left, t.ensures.within);
      read = rest_read c.args.self.now c.loop-len.self t.new.self piece len t.result c.loop-len.invariant.read after;
      stops = λ inside.
          subst (λ (l : List ℕ). Stops Bits new.matrix.rows new.matrix.cols new.row_next new.place_next l) (ap (drop t.result) whole ∙ drop-drop t.result len piece)
          (t.ensures.stops (omega (arith, long, left, inside)));
    }
