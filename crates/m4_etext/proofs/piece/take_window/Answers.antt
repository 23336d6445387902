use Rattle.std.proofs.Common.{◌≡◌, ◌+◌, ◌<◌, ◌≤◌, ◌∷◌, [], ◌++◌, ℕ, List, length, get_or, take, drop, sym, ◌∙◌, ap, ap₂, subst, arith, append_assoc, take-add, length-drop}
use Rattle.std.proofs.lemmas.List.{take_rest, take_more}
use Rattle.m4_mzed.specs.EWindow.{EWindow, content, showing}
use Rattle.m4_etext.specs.Pieces.{BodySoFar, ReadsDigits, digits_in}
use Rattle.m4_etext.specs.Kinds.{spelled_by, Suits}
use Rattle.m4_model.specs.Field.{Field}
use Rattle.m4_model.specs.Field.{Field as FieldOf}
use Rattle.m4_field.specs.Fields.{the_field}
use Rattle.m4_etext.specs.declared.kind.Kind.{Kind}
use Rattle.m4_etext.proofs.Pieces.{digits_more, line_more}
use Rattle.m4_etext.proofs.piece.take_window.Goals as goal

-- a window in which first this and then that was written
stays : (a b c : EWindow) → b ≡ showing a (content b) → c ≡ showing b (content c) → c ≡ showing a (content c)
stays a b c first second = second ∙ ap (λ (w : EWindow). showing w (content c)) first

-- how many digits a line has
width_is : (kind : Kind) (F : FieldOf) (w : EWindow) (n width : ℕ) → F ≡ w.field → n ≡ w.cols → width ≡ digits_in (spelled_by kind F) n → width ≡ digits_in (spelled_by kind w.field) w.cols
width_is kind F w n width field cols is = is ∙ ap₂ (λ (F : FieldOf) n. digits_in (spelled_by kind F) n) field cols

inside_line : (kind : Kind) (F : FieldOf) (w now : EWindow) (n width t : ℕ) → F ≡ w.field → n ≡ w.cols → width ≡ digits_in (spelled_by kind F) n → now ≡ showing w (content now) → t < width
    → t < digits_in (spelled_by kind now.field) now.cols
inside_line kind F w now n width t field cols is kept below =
    let e = width_is kind F w n width field cols is in
    subst (λ (v : EWindow). t < digits_in (spelled_by kind v.field) v.cols) (sym kept) (omega (arith, below, e))

pub take_digits-count-requires-clause-suits : goal.take_digits-count-requires-clause-suits
take_digits-count-requires-clause-suits c =
    let field : c.loop-next.whole.field ≡ c.args.whole.now.field = ap (λ (w : EWindow). w.field) c.loop-next.invariant.stays in
    subst (Suits c.args.kind) (sym field) c.requires.suits

pub take_digits-count-requires-clause-in_line : goal.take_digits-count-requires-clause-in_line
take_digits-count-requires-clause-in_line c = inside_line c.args.kind (the_field c.field.result) c.args.whole.now c.loop-next.whole c.cols.result c.line_digits-width.result c.loop-next.next.place c.field.ensures c.cols.ensures.cols c.line_digits-width.ensures.count c.loop-next.invariant.stays (omega arith)

pub loop-next-preserved-then-next-width : goal.loop-next-preserved-then-next-width
loop-next-preserved-then-next-width c =
    let piece = c.args.piece.now in
    let now = c.loop-next in
    let next = now.next in
    let old = c.args.whole.now in
    let S = spelled_by c.args.kind old.field in
    let count = c.take_digits-count.result in
    let new = c.take_digits-count.new.whole in
    let field : now.whole.field ≡ old.field = ap (λ (w : EWindow). w.field) now.invariant.stays in
    let rows : now.whole.rows ≡ old.rows = ap (λ (w : EWindow). w.rows) now.invariant.stays in
    let cols : now.whole.cols ≡ old.cols = ap (λ (w : EWindow). w.cols) now.invariant.stays in
    let below : next.row < now.whole.rows = omega (arith, rows, c.rows-rows.ensures.rows) in
    let read : ReadsDigits S (drop next.len piece) (content now.whole) (content new) next.row next.place count =
    subst (λ (F : Field). ReadsDigits (spelled_by c.args.kind F) (drop next.len piece) (content now.whole) (content new) next.row next.place count) field
    (subst (λ (l : List ℕ). ReadsDigits (spelled_by c.args.kind now.whole.field) l (content now.whole) (content new) next.row next.place count) (take_rest piece next.len)
    (c.take_digits-count.ensures.read (omega arith))) in
    record {
      within = omega (arith, read.within, length-drop next.len piece);
      in_rows = now.invariant.in_rows;
      in_line = subst (λ n. next.place + count ≤ digits_in S n) cols read.in_line;
      read = λ body start.
          subst (λ (l : List ℕ). BodySoFar S (content new) next.row (next.place + count) l)
          (append_assoc body (take next.len piece) (take count (drop next.len piece)) ∙ ap (λ l. body ++ l) (sym (take-add next.len count piece)))
          (digits_more S (content now.whole) (content new) next.row next.place count (body ++ take next.len piece) (drop next.len piece)
          below (now.invariant.read body start) read);
      stays = stays c.args.whole.now now.whole new now.invariant.stays c.take_digits-count.ensures.stays;
    }

pub loop-next-preserved : goal.loop-next-preserved
loop-next-preserved c =
    let piece = c.args.piece.now in
    let now = c.loop-next in
    let next = now.next in
    let old = c.args.whole.now in
    let S = spelled_by c.args.kind old.field in
    let rows : now.whole.rows ≡ old.rows = ap (λ (w : EWindow). w.rows) now.invariant.stays in
    let cols : now.whole.cols ≡ old.cols = ap (λ (w : EWindow). w.cols) now.invariant.stays in
    let below : next.row < now.whole.rows = omega (arith, rows, c.rows-rows.ensures.rows) in
    let width : c.line_digits-width.result ≡ digits_in S old.cols = width_is c.args.kind (the_field c.field.result) old c.cols.result c.line_digits-width.result c.field.ensures c.cols.ensures.cols c.line_digits-width.ensures.count in
    let full : next.place ≡ digits_in S now.whole.cols =
    (let l = now.invariant.in_line in let e : next.place ≡ digits_in S old.cols = omega (arith, l, width) in e ∙ ap (digits_in S) (sym cols)) in
    let inside : next.len < length piece = omega arith in
    let byte : get_or piece next.len 0 ≡ 10 = omega (arith) in
    let one : take (next.len + 1) piece ≡ take next.len piece ++ 10 ∷ [] =
    take_more piece next.len 0 inside ∙ ap (λ b. take next.len piece ++ b ∷ []) byte in
    record {
      within = omega arith;
      in_rows = omega (arith, c.rows-rows.ensures.rows);
      in_line = omega arith;
      read = λ body start.
          subst (λ (l : List ℕ). BodySoFar S (content now.whole) (next.row + 1) 0 l)
          (append_assoc body (take next.len piece) (10 ∷ []) ∙ ap (λ l. body ++ l) (sym one))
          (line_more S (content now.whole) next.row next.place (body ++ take next.len piece) below full (now.invariant.read body start));
      stays = now.invariant.stays;
    }
