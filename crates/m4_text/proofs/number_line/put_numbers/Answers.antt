use Rattle.std.proofs.Common.{◌+◌, ◌++◌, ℕ, List, codes, decimal, drop, Ok}
use Rattle.std.proofs.lemmas.Result.{err_from_is_err_and}
use Rattle.m4_model.specs.NumberLines.{numbers_text}
use Rattle.m4_text.proofs.Putting.{piece_put, piece_fails, more_put, more_left}
use Rattle.m4_text.proofs.number_line.put_numbers.Goals as goal

abbrev spaced : ℕ → List ℕ
spaced n = codes " " ++ decimal n

pub returns-in_err-put_behind : goal.returns-in_err-put_behind
returns-in_err-put_behind g c =
    let p = err_from_is_err_and c.from_residual.result c.from_residual.ensures.1 in
    let i = c.loop-number.number-index in
    piece_fails (numbers_text (drop (i + 1) c.args.numbers.now)) (more_left spaced c.args.numbers.now 0 i c.loop-number-test.true) c.loop-number.invariant c.in_err-put_behind.ensures p.1

pub loop-number-preserved : goal.loop-number-preserved
loop-number-preserved g c =
    piece_put {result = Ok tt} (more_put spaced c.args.numbers.now 0 c.loop-number.number-index c.loop-number-test.true) c.loop-number.invariant c.in_ok-put_behind.ensures
