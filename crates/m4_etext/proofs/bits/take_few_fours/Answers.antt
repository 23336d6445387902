use Rattle.std.proofs.Common.{◌≡◌, ◌<◌, ◌≤◌, ◌^◌, ◌*◌, ◌-◌, ◌⊎◌, inl, inr, sym, ap, subst, get_or, arith}
use Rattle.m4_mzed.specs.EWindow.{content}
use Rattle.m4_etext.proofs.Rows.{row_is}
use Rattle.m4_etext.proofs.BitRows.{fours_taken, four_refused, of_front, few_fours, one_front}
use Rattle.m4_etext.proofs.bits.take_few_fours.Goals as goal

pub put_bits-requires-clause-small : goal.put_bits-requires-clause-small
put_bits-requires-clause-small c = few_fours c.args.bytes.now c.args.count c.in-Some.word c.requires.within c.in-Some.ensures.small

pub returns-else-not-is_within_row-clause-read : goal.returns-else-not-is_within_row-clause-read
returns-else-not-is_within_row-clause-read c = λ _.
    let A = content c.args.whole.now in
    let bytes = c.args.bytes.now in
    let k = c.args.count in
    let t = c.args.t in
    let word = c.in-Some.word in
    let cols = c.cols.ensures.cols in
    let left : c.cols.result - 4 * t ≡ A.cols - 4 * t = ap (λ n. n - 4 * t) cols in
    let fits = c.is_within_row.ensures.0 c.if-not-is_within_row.false in
    let bounded : (4 * k ≤ A.cols - 4 * t) ⊎ (word < 2 ^ (A.cols - 4 * t)) =
    elim fits [
      | inl room ↦ inl (omega (arith, room, left))
      | inr small ↦ inr (subst (λ n. word < 2 ^ n) left small)
    ] in
    fours_taken A (content c.put_bits.new.whole) c.args.r t k word bytes c.requires.over_gf2 (row_is A c.args.r c.cols.ensures.matrix c.requires.in_rows) c.requires.in_line c.requires.within
    (of_front bytes k word c.requires.within c.in-Some.ensures.small c.in-Some.ensures.word) bounded c.put_bits.ensures.written

pub returns-then-not-is_within_row-clause-none : goal.returns-then-not-is_within_row-clause-none
returns-then-not-is_within_row-clause-none c = λ _ one digit.
    let A = content c.args.whole.now in
    let bytes = c.args.bytes.now in
    let k = c.args.count in
    let t = c.args.t in
    let word = c.in-Some.word in
    let (v, is, stands) = digit in
    let left : c.cols.result - 4 * t ≡ A.cols - 4 * t = ap (λ n. n - 4 * t) c.cols.ensures.cols in
    let read = of_front bytes k word c.requires.within c.in-Some.ensures.small c.in-Some.ensures.word in
    let small : word < 16 = subst (λ n. word < 16 ^ n) one read.small in
    let below = four_refused A.cols t word (get_or bytes 0 0) v small (read.values 0 (omega (arith, one))) is stands in
    let yes = c.is_within_row.ensures.1 (inr (subst (λ n. word < 2 ^ n) (sym left) below)) in cc

pub returns-in-None-clause-none : goal.returns-in-None-clause-none
returns-in-None-clause-none c = λ _ one digit.
    let (v, is, stands) = digit in
    c.in-None.ensures.other (one_front c.args.bytes.now c.args.count v one c.requires.within is)
