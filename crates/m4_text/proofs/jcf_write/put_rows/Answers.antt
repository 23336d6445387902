use Rattle.std.proofs.Common.{arith, List, ℕ, ◌+◌, ◌<◌, [], length, flat_map, drop, Ok}
use Rattle.std.proofs.lemmas.Result.{err_from_is_err_and}
use Rattle.m4_model.specs.Jcf.{line_of_columns, nonzero_columns}
use Rattle.m4_text.proofs.Putting.{piece_put, piece_fails, more_put, more_left}
use Rattle.m4_text.proofs.jcf_write.put_rows.Goals as goal

abbrev lined : List ℕ → List ℕ
lined entries = line_of_columns (nonzero_columns 1 entries)

pub returns-in_err-put_columns : goal.returns-in_err-put_columns
returns-in_err-put_columns g c =
    let p = err_from_is_err_and c.from_residual.result c.from_residual.ensures.1 in
    let m = c.args.m.now in
    let below : c.loop-r.r < length m.entries = omega (arith, c.rows-r-end.ensures.matrix.height, c.rows-r-end.ensures.rows) in
    piece_fails (flat_map lined (drop (c.loop-r.r + 1) m.entries)) (more_left lined m.entries [] c.loop-r.r below) c.loop-r.invariant c.in_err-put_columns.ensures p.1

pub loop-r-preserved : goal.loop-r-preserved
loop-r-preserved g c =
    let m = c.args.m.now in
    let below : c.loop-r.r < length m.entries = omega (arith, c.rows-r-end.ensures.matrix.height, c.rows-r-end.ensures.rows) in
    piece_put {result = Ok tt} (more_put lined m.entries [] c.loop-r.r below) c.loop-r.invariant c.in_ok-put_columns.ensures
