use Rattle.std.proofs.Common.{◌≡◌, List, ℕ, [], ◌++◌, codes, append-nil, append_assoc, ap, sym, refl, ◌∙◌, Ok}
use Rattle.std.proofs.lemmas.Result.{err_from_is_err_and}
use Rattle.m4_model.specs.NumberLines.{numbers_text, numbers_line}
use Rattle.m4_text.proofs.Putting.{piece_put, put_fails, put_ends, put_end_fails}
use Rattle.m4_text.proofs.number_line.write_numbers.Goals as goal

-- a name, numbers, and the end of the line
parts : (name numbers front : List ℕ) → front ≡ name → numbers_line name numbers ≡ (front ++ numbers_text numbers) ++ codes "\n"
parts name numbers front same = sym (append_assoc name (numbers_text numbers) (codes "\n")) ∙ ap (λ (l : List ℕ). (l ++ numbers_text numbers) ++ codes "\n") (sym same)

pub returns-in_err-put : goal.returns-in_err-put
returns-in_err-put g c =
    let p = err_from_is_err_and c.from_residual.result c.from_residual.ensures.1 in
    let front = c.as_bytes.result.now in
    let numbers = c.args.numbers.now in
    put_fails (numbers_text numbers ++ codes "\n") c.new-pending.ensures
    (parts c.args.name.now numbers front c.as_bytes.ensures.value ∙ append_assoc front (numbers_text numbers) (codes "\n")) c.in_err-put.ensures p.1

pub returns-in_err-put_numbers : goal.returns-in_err-put_numbers
returns-in_err-put_numbers g c =
    let p = err_from_is_err_and c.from_residual-in_err-put_numbers.result c.from_residual-in_err-put_numbers.ensures.1 in
    put_fails (codes "\n") c.new-pending.ensures (parts c.args.name.now c.args.numbers.now c.as_bytes.result.now c.as_bytes.ensures.value)
    (piece_put refl c.in_ok-put.ensures c.in_err-put_numbers.ensures) p.1

pub returns-in_err-put-2 : goal.returns-in_err-put-2
returns-in_err-put-2 g c =
    let p = err_from_is_err_and c.from_residual-in_err-put-2.result c.from_residual-in_err-put-2.ensures.1 in
    put_fails [] c.new-pending.ensures (sym (append-nil (numbers_line c.args.name.now c.args.numbers.now)))
    (piece_put (parts c.args.name.now c.args.numbers.now c.as_bytes.result.now c.as_bytes.ensures.value)
    (piece_put {result = Ok tt} refl c.in_ok-put.ensures c.in_ok-put_numbers.ensures) c.in_err-put-2.ensures) p.1

pub returns-in_err-finish : goal.returns-in_err-finish
returns-in_err-finish g c =
    let p = err_from_is_err_and c.from_residual-in_err-finish.result c.from_residual-in_err-finish.ensures.1 in
    put_end_fails c.new-pending.ensures
    (piece_put {result = Ok tt} (parts c.args.name.now c.args.numbers.now c.as_bytes.result.now c.as_bytes.ensures.value)
    (piece_put {result = Ok tt} refl c.in_ok-put.ensures c.in_ok-put_numbers.ensures) c.in_ok-put-2.ensures)
    c.in_err-finish.ensures p.1

pub returns : goal.returns
returns g c =
    put_ends c.new-pending.ensures
    (piece_put {result = Ok tt} (parts c.args.name.now c.args.numbers.now c.as_bytes.result.now c.as_bytes.ensures.value)
    (piece_put {result = Ok tt} refl c.in_ok-put.ensures c.in_ok-put_numbers.ensures) c.in_ok-put-2.ensures)
    c.in_ok-finish.ensures
