use Rattle.std.proofs.Common.{◌++◌, ◌∷◌, [], ◌+◌, ◌<◌, length, flat_map, take, drop, arith, append_assoc, refl, sym, ap, ◌∙◌, Ok}
use Rattle.std.proofs.lemmas.Result.{err_from_is_err_and}
use Rattle.m4_model.specs.Matrix.{row}
use Rattle.m4_model.specs.Headed.{Spelling, line}
use Rattle.m4_etext.specs.Pieces.{glyphs}
use Rattle.m4_etext.specs.Kinds.{spelled_by}
use Rattle.m4_etext.proofs.Putting.{piece_put, piece_fails, more_put, more_left}
use Rattle.m4_etext.proofs.write.put_lines.Goals as goal

pub returns-in_err-put_row : goal.returns-in_err-put_row
returns-in_err-put_row g c =
    let p = err_from_is_err_and c.from_residual.result c.from_residual.ensures.1 in
    let m = c.args.m.now in
    let S : Spelling = spelled_by c.args.kind m.field in
    let r = c.loop-r.r in
    let below : r < length m.entries = omega (arith, c.rows-r-end.ensures.matrix.height, c.rows-r-end.ensures.rows) in
    let front = flat_map (line S) (take r m.entries) in
    let back = flat_map (line S) (drop (r + 1) m.entries) in
    piece_fails (10 ∷ back)
    (more_left (line S) m.entries [] r below ∙ ap (λ l. l ++ back) (sym (append_assoc front (glyphs S (row m r)) (10 ∷ []))) ∙ append_assoc (front ++ glyphs S (row m r)) (10 ∷ []) back)
    c.loop-r.invariant c.in_err-put_row.ensures p.1

pub returns-in_err-put : goal.returns-in_err-put
returns-in_err-put g c =
    let p = err_from_is_err_and c.from_residual-in_err-put.result c.from_residual-in_err-put.ensures.1 in
    let m = c.args.m.now in
    let S : Spelling = spelled_by c.args.kind m.field in
    let r = c.loop-r.r in
    let below : r < length m.entries = omega (arith, c.rows-r-end.ensures.matrix.height, c.rows-r-end.ensures.rows) in
    let front = flat_map (line S) (take r m.entries) in
    let back = flat_map (line S) (drop (r + 1) m.entries) in
    piece_fails back
    (more_left (line S) m.entries [] r below ∙ ap (λ l. l ++ back) (sym (append_assoc front (glyphs S (row m r)) (10 ∷ []))))
    (piece_put {result = Ok tt} refl c.loop-r.invariant c.in_ok-put_row.ensures) c.in_err-put.ensures p.1

pub loop-r-preserved : goal.loop-r-preserved
loop-r-preserved g c =
    let m = c.args.m.now in
    let S : Spelling = spelled_by c.args.kind m.field in
    let r = c.loop-r.r in
    let below : r < length m.entries = omega (arith, c.rows-r-end.ensures.matrix.height, c.rows-r-end.ensures.rows) in
    piece_put {result = Ok tt} (more_put (line S) m.entries [] r below) c.loop-r.invariant (piece_put {result = Ok tt} refl c.in_ok-put_row.ensures c.in_ok-put.ensures)
