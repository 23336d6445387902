use Rattle.std.proofs.Common.{◌≡◌, ◌<◌, length, get_or, take, sym, ◌∙◌, ap, subst, arith}
use Rattle.std.proofs.lemmas.Bool.{false≢true}
use Rattle.m4_model.specs.Matrix.{with_row}
use Rattle.m4_bits.specs.Digits.{AreDigits}
use Rattle.m4_mzd.specs.Window.{Window, content, showing}
use Rattle.m4_text.specs.Reading.{ReadsRow, entries_of}
use Rattle.m4_text.proofs.Rows.{row_read, digits_of_line}
use Rattle.m4_text.proofs.body.read_row.Goals as goal

pub returns-then-read_digits-clause-ok : goal.returns-then-read_digits-clause-ok
returns-then-read_digits-clause-ok c =
    let bytes = c.args.bytes.now in
    let old = c.args.whole.now in
    let wide = c.cols-end.ensures.cols in
    let ends = c.ends_at.ensures.0 c.if-not-ends_at.false in
    let inside : old.cols < length bytes = omega (arith, wide, ends.0) in
    let last = subst (λ n. get_or bytes n 0 ≡ 10) wide ends.1 in
    let digits = subst (λ n. AreDigits (take n bytes)) wide (c.read_digits.ensures.digits.0 c.if-read_digits.true) in
    let changed = c.read_digits.ensures.read c.if-read_digits.true
    ∙ ap (λ n. showing old (with_row (content old) c.args.r (entries_of (take n bytes)))) wide in
    subst (λ (w : Window). ReadsRow bytes (content old) (content w) c.args.r) (sym changed)
    (row_read (content old) c.args.r bytes inside digits last)

pub wrong_place-requires-else-read_digits : goal.wrong_place-requires-else-read_digits
wrong_place-requires-else-read_digits c =
    λ has. false≢true (sym c.if-read_digits.false ∙ c.read_digits.ensures.digits.1 (digits_of_line c.cols-end.result c.args.bytes.now has))
