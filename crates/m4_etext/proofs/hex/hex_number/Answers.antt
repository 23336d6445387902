use Rattle.std.proofs.Common.{◌≡◌, ◌-◌, ◌+◌, ◌/◌, ◌∷◌, [], ◌++◌, drop, refl, sym, ap, ◌∙◌, arith}
use Rattle.std.proofs.lemmas.List.{length-set}
use Rattle.m4_etext.proofs.HexNumbers.{hex_or_none, last_digit, hex_more, some_start, fewer_start}
use Rattle.m4_etext.proofs.hex.hex_number.Goals as goal

pub loop-rest-init : goal.loop-rest-init
loop-rest-init c = record {
  within = omega arith;
  long = refl;
  small = omega arith;
  spelled = last_digit c.args.n (omega arith) ∙ ap (λ d. hex_or_none (c.args.n / 16) ++ d ∷ []) (sym c.hex_digit.ensures);
}

pub loop-rest-preserved : goal.loop-rest-preserved
loop-rest-preserved c =
    let now = c.loop-rest in
    let some = some_start now.start now.rest c.loop-rest-test.true now.invariant.small in
    let back : now.start - 1 + 1 ≡ now.start = omega (arith, some) in
    record {
      within = let w = now.invariant.within in omega (arith, w);
      long = length-set now.bytes (now.start - 1) c.hex_digit-in-loop-rest.result ∙ now.invariant.long;
      small = fewer_start now.start now.rest some now.invariant.small;
      spelled = hex_more c.args.n now.rest (now.start - 1) c.hex_digit-in-loop-rest.result now.bytes c.loop-rest-test.true (omega arith)
          (omega (arith, now.invariant.long, now.invariant.within, some)) c.hex_digit-in-loop-rest.ensures
          (now.invariant.spelled ∙ ap (λ k. hex_or_none now.rest ++ drop k now.bytes) (sym back));
    }
