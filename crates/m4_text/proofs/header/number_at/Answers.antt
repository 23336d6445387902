use Rattle.std.proofs.Common.{arith, length, drop, ◌-◌, ◌+◌, ◌≡◌, subst, get_or, ap, ◌∙◌}
use Rattle.std.proofs.lemmas.List.{take_rest}
use Rattle.m4_text.specs.Place.{GoesWrong, IsNumber, IsLeadingNumber}
use Rattle.m4_text.proofs.Numbers.{GoesWrong-number}
use Rattle.m4_text.proofs.header.number_at.Goals as goal
use Rattle.m4_text.proofs.header.number_at.Goals.{else-digits-gt0-via-then-digits-gt0+then-digits-rest+else-rest-digits, else-digits-gt0-via-then-digits-gt0+else-digits-rest, else-digits-gt0-via-else-digits-gt0}

pub returns-else-digits-gt0 : goal.returns-else-digits-gt0
returns-else-digits-gt0 c =
    let rest = drop c.args.at c.args.bytes.now in
    let digits = c.leading_number-digits.result in
    let whole = take_rest c.args.bytes.now c.args.at in
    let found : IsLeadingNumber rest digits.value digits.len =
    subst (λ w. IsLeadingNumber w digits.value digits.len) whole c.leading_number-digits.ensures in
    let here : digits.len ≡ (c.args.at + digits.len) - c.args.at = omega arith in
    record {
      behind = omega arith;
      wrong = subst (λ n. GoesWrong (IsNumber c.args.ending) rest n) here
          (GoesWrong-number rest c.args.ending digits.value digits.len c.requires.other found
          (λ some inside same. elim c.else-digits-gt0.branch [
            | else-digits-gt0-via-then-digits-gt0+then-digits-rest+else-rest-digits w ↦ w.if-rest-digits.false (ap (λ w. get_or w digits.len 0) whole ∙ same)
            | else-digits-gt0-via-then-digits-gt0+else-digits-rest w ↦ omega (arith, ap length whole)
            | else-digits-gt0-via-else-digits-gt0 w ↦ omega arith
          ]));
    }
