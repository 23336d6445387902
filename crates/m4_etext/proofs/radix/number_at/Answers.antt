use Rattle.std.proofs.Common.{arith, length, drop, ◌-◌, ◌+◌, ◌≡◌, subst, get_or, ap, ◌∙◌}
use Rattle.std.proofs.lemmas.List.{take_rest}
use Rattle.m4_etext.specs.Place.{GoesWrong, IsNumber, IsLeadingNumber}
use Rattle.m4_etext.specs.Parsed.{base_of, most_of}
use Rattle.m4_etext.proofs.Headers.{is_base, some_most}
use Rattle.m4_etext.proofs.Numbers.{GoesWrong-number}
use Rattle.m4_etext.proofs.radix.number_at.Goals as goal
use Rattle.m4_etext.proofs.radix.number_at.Goals.{else-digits-gt0-via-then-digits-gt0+then-digits-rest+else-rest-digits, else-digits-gt0-via-then-digits-gt0+else-digits-rest, else-digits-gt0-via-else-digits-gt0}

pub returns-else-digits-gt0 : goal.returns-else-digits-gt0
returns-else-digits-gt0 c =
    let b = base_of c.args.radix in
    let most = most_of c.args.radix in
    let some = some_most c.args.radix in
    let rest = drop c.args.at c.args.bytes.now in
    let digits = c.leading_number-digits.result in
    let whole = take_rest c.args.bytes.now c.args.at in
    let found : IsLeadingNumber b most rest digits.value digits.len =
    subst (λ w. IsLeadingNumber b most w digits.value digits.len) whole c.leading_number-digits.ensures in
    let here : digits.len ≡ (c.args.at + digits.len) - c.args.at = omega arith in
    record {
      behind = omega arith;
      wrong = subst (λ n. GoesWrong (IsNumber b most c.args.ending) rest n) here
          (GoesWrong-number b most (is_base c.args.radix) some.0 some.1 rest c.args.ending digits.value digits.len c.requires.other found
          (λ some inside same. elim c.else-digits-gt0.branch [
            | else-digits-gt0-via-then-digits-gt0+then-digits-rest+else-rest-digits w ↦ w.if-rest-digits.false (ap (λ w. get_or w digits.len 0) whole ∙ same)
            | else-digits-gt0-via-then-digits-gt0+else-digits-rest w ↦ omega (arith, ap length whole)
            | else-digits-gt0-via-else-digits-gt0 w ↦ omega arith
          ]));
    }
