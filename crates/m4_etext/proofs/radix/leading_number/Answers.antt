use Rattle.std.proofs.Common.{◌≡◌, ◌<◌, ◌+◌, ◌^◌, length, take, sym, ap, ◌∙◌, subst, arith, false}
use Rattle.std.specs.Fmt.{digits}
use Rattle.m4_etext.specs.Parsed.{base_of, most_of}
use Rattle.m4_etext.proofs.Numerals.{widen}
use Rattle.m4_etext.proofs.Headers.{digit_fits, is_base, some_most}
use Rattle.m4_etext.proofs.Numbers.{spelled_more}
use Rattle.m4_etext.proofs.radix.leading_number.Goals as goal

pub with_digit-value-requires : goal.with_digit-value-requires
with_digit-value-requires c =
    let next = c.in-Some.ensures in
    digit_fits c.args.radix c.loop-len.value c.loop-len.len c.in-Some.digit c.loop-len.invariant.small next.room next.small

pub returns-in-None : goal.returns-in-None
returns-in-None c =
    let r = c.args.radix in
    let now = c.loop-len in
    let low = (is_base r).low in
    record {
      within = now.invariant.within;
      small = widen (base_of r) now.value now.len (most_of r) (omega (arith, low)) now.invariant.few now.invariant.small;
      spelled = now.invariant.spelled;
      stops = λ inside more. c.in-None.ensures more;
    }

pub loop-len-preserved : goal.loop-len-preserved
loop-len-preserved c =
    let r = c.args.radix in
    let now = c.loop-len in
    let b = base_of r in
    let next = c.in-Some.ensures in
    let d = c.in-Some.digit in
    let inside = c.loop-len-test.true in
    let is = is_base r in
    let most = some_most r in
    let room = next.room in
    let e = c.with_digit-value.ensures in
    record {
      within = omega (arith, inside);
      few = omega (arith, room);
      small = subst (λ v. v < b ^ (now.len + 1)) (sym e) (is.grown now.value d now.len now.invariant.small next.small);
      spelled = λ _. spelled_more b (most_of r) is most.0 most.1 c.args.bytes.now now.value now.len d inside next now.invariant.small now.invariant.spelled
          ∙ ap (digits b false) (sym e);
    }

pub returns : goal.returns
returns c =
    let r = c.args.radix in
    let now = c.loop-len in
    let low = (is_base r).low in
    let end = c.loop-len-test.false in
    let bytes = c.args.bytes.now in
    let all : now.len ≡ length bytes = omega (arith, end, now.invariant.within) in
    record {
      within = omega arith;
      small = widen (base_of r) now.value now.len (most_of r) (omega (arith, low)) now.invariant.few now.invariant.small;
      spelled = λ some. let s = now.invariant.spelled (omega (arith, all, some)) in ap (λ n. take n bytes) (sym all) ∙ s;
      stops = λ inside. absurd (omega arith);
    }
