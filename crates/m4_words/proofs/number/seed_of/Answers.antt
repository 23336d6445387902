use Rattle.std.proofs.Common.{◌≡◌, sym, ◌∙◌, ap, true≢false}
use Rattle.std.proofs.lemmas.Fmt.{parse-decimal}
use Rattle.std.specs.Result.{result_unwrap_or}
use Rattle.m4_words.proofs.WordsLemmas.{seed-decimal, seed-none}
use Rattle.m4_words.proofs.number.seed_of.Goals as goal

-- a number of 64 bits would have been read as itself
pub returns-then-not-is_decimal : goal.returns-then-not-is_decimal
returns-then-not-is_decimal c = sym (seed-none c.args.word.now (λ n small is.
    let read = parse-decimal 64 n c.args.word.now c.parse.result small small is c.parse.ensures.value.0 in
    let number : c.unwrap_or-seed.result ≡ n = c.unwrap_or-seed.ensures ∙ ap (λ r. result_unwrap_or r 0) read in
    true≢false (sym (c.is_decimal.ensures.1 (rw number is)) ∙ c.if-not-is_decimal.true)))

pub returns : goal.returns
returns c = sym (seed-decimal c.args.word.now c.unwrap_or-seed.result c.unwrap_or-seed.type_inv (c.is_decimal.ensures.0 c.if-not-is_decimal.false))
