use Rattle.std.proofs.Common.{◌≡◌, ℕ, List, [], ◌++◌, flat_map, append-nil, ap, ap₂, sym, ◌∙◌, Ok}
use Rattle.std.proofs.lemmas.Result.{err_from_is_err_and}
use Rattle.m4_model.specs.Field.{Field}
use Rattle.m4_model.specs.Matrix.{Matrix}
use Rattle.m4_model.specs.Headed.{header, line, text_in}
use Rattle.m4_field.specs.Fields.{the_field}
use Rattle.m4_etext.specs.Kinds.{spelled_by}
use Rattle.m4_etext.specs.declared.kind.Kind.{Kind}
use Rattle.m4_etext.proofs.Putting.{piece_put, put_fails, put_ends, put_end_fails}
use Rattle.m4_etext.proofs.write.write_spelled.Goals as goal

abbrev lines : Kind → Matrix → List ℕ
lines kind M = flat_map (line (spelled_by kind M.field)) M.entries

-- a header line and lines
parts : {k l : ℕ} (kind : Kind) (F : Field) (M : Matrix) → F ≡ M.field → k ≡ M.rows → l ≡ M.cols → text_in (spelled_by kind M.field) M ≡ header (spelled_by kind F) k l ++ lines kind M
parts {k} {l} kind F M over many wide =
    ap₂ (λ k l. header (spelled_by kind M.field) k l ++ lines kind M) (sym many) (sym wide) ∙ ap (λ (F : Field). header (spelled_by kind F) k l ++ lines kind M) (sym over)

pub returns-in_err-put_header : goal.returns-in_err-put_header
returns-in_err-put_header g c =
    let p = err_from_is_err_and c.from_residual.result c.from_residual.ensures.1 in
    put_fails (lines c.args.kind c.args.m.now) c.new-pending.ensures (parts c.args.kind (the_field c.field.result) c.args.m.now c.field.ensures c.rows.ensures.rows c.cols.ensures.cols) c.in_err-put_header.ensures p.1

pub returns-in_err-put_lines : goal.returns-in_err-put_lines
returns-in_err-put_lines g c =
    let p = err_from_is_err_and c.from_residual-in_err-put_lines.result c.from_residual-in_err-put_lines.ensures.1 in
    put_fails [] c.new-pending.ensures (sym (append-nil (text_in (spelled_by c.args.kind c.args.m.now.field) c.args.m.now)))
    (piece_put (parts c.args.kind (the_field c.field.result) c.args.m.now c.field.ensures c.rows.ensures.rows c.cols.ensures.cols) c.in_ok-put_header.ensures c.in_err-put_lines.ensures) p.1

pub returns-in_err-finish : goal.returns-in_err-finish
returns-in_err-finish g c =
    let p = err_from_is_err_and c.from_residual-in_err-finish.result c.from_residual-in_err-finish.ensures.1 in
    put_end_fails c.new-pending.ensures
    (piece_put {result = Ok tt} (parts c.args.kind (the_field c.field.result) c.args.m.now c.field.ensures c.rows.ensures.rows c.cols.ensures.cols) c.in_ok-put_header.ensures c.in_ok-put_lines.ensures)
    c.in_err-finish.ensures p.1

pub returns : goal.returns
returns g c =
    put_ends c.new-pending.ensures
    (piece_put {result = Ok tt} (parts c.args.kind (the_field c.field.result) c.args.m.now c.field.ensures c.rows.ensures.rows c.cols.ensures.cols) c.in_ok-put_header.ensures c.in_ok-put_lines.ensures)
    c.in_ok-finish.ensures
