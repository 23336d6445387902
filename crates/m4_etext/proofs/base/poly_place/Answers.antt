use Rattle.std.proofs.Common.{◌/◌, ◌%◌, ◌∷◌, [], false, length, decimal, ap, arith, length-append}
use Rattle.std.specs.Fmt.{digits, digit_glyph}
use Rattle.m4_etext.proofs.Numerals.{ten, numeral_digit, numeral_step, widen}
use Rattle.m4_etext.proofs.base.poly_place.Goals as goal

pub returns-then-degree-lt10 : goal.returns-then-degree-lt10
returns-then-degree-lt10 c =
    let one = ap length (numeral_digit 10 ten c.args.degree (omega arith)) in
    omega (arith, one, length-append (decimal c.args.degree) (32 ∷ []))

pub returns-else-degree-lt10 : goal.returns-else-degree-lt10
returns-else-degree-lt10 c =
    let d = c.args.degree in
    let few = c.requires in
    let two = ap length (numeral_step 10 ten d (omega arith) (widen 10 d 2 64 (omega arith) (omega arith) (omega (arith, few)))) in
    let one = ap length (numeral_digit 10 ten (d / 10) (omega (arith, few))) in
    omega (arith, one, two, length-append (digits 10 false (d / 10)) (digit_glyph false (d % 10) ∷ []), length-append (decimal d) (32 ∷ []))
