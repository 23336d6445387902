use Rattle.std.proofs.Common.{◌≡◌, ℕ, Result, Ok, decimal, refl, ap, sym, ◌∙◌, arith}
use Rattle.std.proofs.lemmas.Fmt.{parse-decimal}
use Rattle.m4_words.proofs.WordsLemmas.{number-decimal, number-none}
use Rattle.m4_words.proofs.number.number_of.Goals as goal
use Rattle.m4_words.proofs.number.number_of.Goals.{then-number-ge1000000000-via-then-number-ge1000000000, then-number-ge1000000000-via-else-number-ge1000000000+then-not-is_decimal}

one_value : {E : Type 0} (r : Result ℕ E) (m n : ℕ) → r ≡ Ok m → r ≡ Ok n → m ≡ n
one_value r m n first second = cc

pub returns-in_default : goal.returns-in_default
returns-in_default c =
    sym (number-none c.args.word.now (λ n small is.
    c.in_default.not-Ok n (parse-decimal 32 n c.args.word.now c.parse.result (omega arith) (omega arith) is c.parse.ensures.value.0)))

pub returns-then-number-ge1000000000 : goal.returns-then-number-ge1000000000
returns-then-number-ge1000000000 c =
    sym (number-none c.args.word.now (λ n small is.
    let parsed = parse-decimal 32 n c.args.word.now c.parse.result (omega arith) (omega arith) is c.parse.ensures.value.0 in
    let same = one_value c.parse.result n c.in-Ok.number parsed c.in-Ok.is in
    elim c.then-number-ge1000000000.branch [
      | then-number-ge1000000000-via-then-number-ge1000000000 w ↦ (let large = w.if-number-ge1000000000.true in omega arith)
      | then-number-ge1000000000-via-else-number-ge1000000000+then-not-is_decimal w ↦ (let spelled = w.if-not-is_decimal.ensures.1 (is ∙ ap decimal same) in absurd cc)
    ]))

pub returns : goal.returns
returns c =
    sym (number-decimal c.args.word.now c.in-Ok.number (let less = c.if-number-ge1000000000.false in omega arith) (c.if-not-is_decimal.ensures.0 refl))
