use Rattle.std.proofs.Common.{◌≡◌, ℕ, [], ◌++◌, append-nil, ap₂, sym, Ok}
use Rattle.std.proofs.lemmas.Result.{err_from_is_err_and}
use Rattle.m4_model.specs.Matrix.{Matrix}
use Rattle.m4_model.specs.Text.{header, text}
use Rattle.m4_model.specs.Bare.{bare_text}
use Rattle.m4_text.proofs.Putting.{piece_put, put_fails, put_ends, put_end_fails}
use Rattle.m4_text.proofs.write.write_text.Goals as goal

-- a header line and lines
parts : {k l : ℕ} (M : Matrix) → k ≡ M.rows → l ≡ M.cols → text M ≡ header k l ++ bare_text M
parts M many wide = ap₂ (λ k l. header k l ++ bare_text M) (sym many) (sym wide)

pub returns-in_err-put_header : goal.returns-in_err-put_header
returns-in_err-put_header g c =
    let p = err_from_is_err_and c.from_residual.result c.from_residual.ensures.1 in
    put_fails (bare_text c.args.m.now) c.new-pending.ensures (parts c.args.m.now c.rows.ensures.rows c.cols.ensures.cols) c.in_err-put_header.ensures p.1

pub returns-in_err-put_lines : goal.returns-in_err-put_lines
returns-in_err-put_lines g c =
    let p = err_from_is_err_and c.from_residual-in_err-put_lines.result c.from_residual-in_err-put_lines.ensures.1 in
    put_fails [] c.new-pending.ensures (sym (append-nil (text c.args.m.now)))
    (piece_put (parts c.args.m.now c.rows.ensures.rows c.cols.ensures.cols) c.in_ok-put_header.ensures c.in_err-put_lines.ensures) p.1

pub returns-in_err-finish : goal.returns-in_err-finish
returns-in_err-finish g c =
    let p = err_from_is_err_and c.from_residual-in_err-finish.result c.from_residual-in_err-finish.ensures.1 in
    put_end_fails c.new-pending.ensures
    (piece_put {result = Ok tt} (parts c.args.m.now c.rows.ensures.rows c.cols.ensures.cols) c.in_ok-put_header.ensures c.in_ok-put_lines.ensures)
    c.in_err-finish.ensures p.1

pub returns : goal.returns
returns g c =
    put_ends c.new-pending.ensures
    (piece_put {result = Ok tt} (parts c.args.m.now c.rows.ensures.rows c.cols.ensures.cols) c.in_ok-put_header.ensures c.in_ok-put_lines.ensures)
    c.in_ok-finish.ensures
