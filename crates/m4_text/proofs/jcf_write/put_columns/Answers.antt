use Rattle.std.proofs.Common.{◌≡◌, ◌<◌, ◌+◌, ◌∷◌, ◌++◌, [], length, decimal, arith, ap, sym, ◌∙◌, if◌then◌else◌, subst, subst₂, Ok, length-append}
use Rattle.std.proofs.lemmas.Result.{err_from_is_err_and}
use Rattle.std.proofs.lemmas.Bool.{true≢false}
use Rattle.m4_model.specs.Matrix.{row, at}
use Rattle.m4_model.specs.Jcf.{nonzero_columns}
use Rattle.m4_text.specs.Pending.{Puts}
use Rattle.m4_text.proofs.Putting.{puts_nothing, piece_put, piece_fails}
use Rattle.m4_text.proofs.Columns.{columns_so_far, columns_begin, columns_end, columns_text, column_passed, column_found, column_written, line_at, line_ended}
use Rattle.m4_text.proofs.jcf_write.put_columns.Goals as goal
use Rattle.m4_text.proofs.jcf_write.put_columns.Goals.{then-get+in_ok-put_behind, else-get}

pub loop-c-init : goal.loop-c-init
loop-c-init g c =
    let begin = columns_begin (row c.args.m.now c.args.r) in
    record {
      none = λ _. begin;
      some = λ e. absurd (true≢false e);
      wrote = subst (Puts _ _ _ _ _ _ (Ok tt)) (sym (ap columns_text begin)) (puts_nothing _ _ _);
    }

pub returns-in_err-put_behind : goal.returns-in_err-put_behind
returns-in_err-put_behind g c =
    let p = err_from_is_err_and c.from_residual.result c.from_residual.ensures.1 in
    let entries = row c.args.m.now c.args.r in
    let shape = c.cols-c-end.ensures in
    let now = c.loop-c in
    let inside : now.c < length entries = omega (arith, shape.matrix.width c.args.r c.requires, shape.cols) in
    let one : at c.args.m.now c.args.r now.c ≡ 1 = c.get.ensures.value ∙ ap (λ b. if b then 1 else 0) c.if-get.true in
    let whole = line_at entries now.c now.first c.byte_before.result c.byte_before.ensures inside one now.invariant.none now.invariant.some in
    piece_fails _ whole now.invariant.wrote c.in_err-put_behind.ensures p.1

pub loop-c-preserved : goal.loop-c-preserved
loop-c-preserved g c =
    let entries = row c.args.m.now c.args.r in
    let shape = c.cols-c-end.ensures in
    let now = c.loop-c in
    let inside : now.c < length entries = omega (arith, shape.matrix.width c.args.r c.requires, shape.cols) in
    elim c.if-get.branch [
      | then-get+in_ok-put_behind w ↦
          let one : at c.args.m.now c.args.r now.c ≡ 1 = c.get.ensures.value ∙ ap (λ b. if b then 1 else 0) w.if-get.true in
          let found = column_found entries now.c inside one in
          let some : 0 < length (columns_so_far entries (now.c + 1)) =
          omega (arith, ap length found, length-append (columns_so_far entries now.c) ((now.c + 1) ∷ [])) in
          let parts = ap columns_text found ∙ column_written now.first (columns_so_far entries now.c) (now.c + 1) now.invariant.none now.invariant.some
          ∙ ap (λ b. columns_text (columns_so_far entries now.c) ++ (b ∷ decimal (now.c + 1))) (sym w.byte_before.ensures) in
          record {
            none = λ e. absurd (true≢false (sym e ∙ w.first-is));
            some = λ _. some;
            wrote = subst₂ (λ s p. Puts (g.O.Sink.taken c.args.sink.now) (g.O.Sink.taken s) (g.O.Sink.faults c.args.sink.now) (g.O.Sink.faults s) c.args.pending.now p (Ok tt) (columns_text (columns_so_far entries (now.c + 1))))
                (sym w.sink-is) (sym w.pending-is) (piece_put {result = Ok tt} parts now.invariant.wrote w.in_ok-put_behind.ensures);
          }
      | else-get w ↦
          let zero : at c.args.m.now c.args.r now.c ≡ 0 = c.get.ensures.value ∙ ap (λ b. if b then 1 else 0) w.if-get.false in
          let passed = column_passed entries now.c inside zero in
          record {
            none = λ e. passed ∙ now.invariant.none (sym w.first-is ∙ e);
            some = λ e. subst (λ cs. 0 < length cs) (sym passed) (now.invariant.some (sym w.first-is ∙ e));
            wrote = subst₂ (λ s p. Puts (g.O.Sink.taken c.args.sink.now) (g.O.Sink.taken s) (g.O.Sink.faults c.args.sink.now) (g.O.Sink.faults s) c.args.pending.now p (Ok tt) (columns_text (columns_so_far entries (now.c + 1))))
                (sym w.sink-is) (sym w.pending-is) (subst (Puts _ _ _ _ _ _ (Ok tt)) (ap columns_text (sym passed)) now.invariant.wrote);
          }
    ]

pub returns-else-first : goal.returns-else-first
returns-else-first g c =
    let entries = row c.args.m.now c.args.r in
    let shape = c.cols-c-end.ensures in
    let now = c.loop-c in
    let all : length entries ≡ now.c = omega (arith, shape.matrix.width c.args.r c.requires, shape.cols) in
    let end = columns_end entries now.c all in
    let some = subst (λ cs. 0 < length cs) end (now.invariant.some c.if-first.false) in
    piece_put (line_ended (nonzero_columns 1 entries) some) (subst (Puts _ _ _ _ _ _ (Ok tt)) (ap columns_text end) now.invariant.wrote) c.put.ensures
