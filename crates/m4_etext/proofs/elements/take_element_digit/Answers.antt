use Rattle.std.proofs.Common.{◌≡◌, ℕ, List, ◌≤◌, ◌-◌, ◌%◌, ◌/◌, ◌<◌, ◌^◌, ◌*◌, sym, ◌∙◌, ap, refl, subst, length, get_or}
use Rattle.m4_model.specs.Field.{Field}
use Rattle.m4_model.specs.Matrix.{Matrix, IsMatrix, at, with_entry}
use Rattle.m4_model.specs.Headed.{Elements, digits_per_element}
use Rattle.m4_field.specs.Fields.{the_field}
use Rattle.m4_mzed.specs.EWindow.{EWindow, content}
use Rattle.m4_etext.specs.Place.{IsValue}
use Rattle.m4_etext.specs.Pieces.{digits_in, ReadsDigits}
use Rattle.m4_etext.proofs.Numerals.{glyph_injective}
use Rattle.m4_etext.proofs.ElementRows.{IsReading, changed, digit_taken, digit_fits}
use Rattle.m4_etext.proofs.elements.take_element_digit.Goals as goal

-- what is read, over plain values
reading : (w : EWindow) (field : Field) (r t k x v : ℕ) (bytes : List ℕ) → IsMatrix (content w) → field ≡ w.field → r < w.rows → t < digits_in (Elements w.field) w.cols
    → 0 < length bytes → IsValue (get_or bytes 0 0) v → k ≡ digits_per_element field → 1 ≤ k → (t % k ≡ 0 → x ≡ 0) → (0 < t % k → x ≡ at (content w) r (t / k)) → x < 2 ^ w.field.degree
    → IsReading w.field (content w) r t k x v bytes
reading w field r t k x v bytes matrix same in_rows in_line some is digits positive none_yet so_far element =
    let d : k ≡ digits_per_element w.field = digits ∙ ap digits_per_element same in
    record {
      matrix = matrix;
      over = refl;
      in_rows = in_rows;
      in_line = subst (λ e. t < w.cols * e) (sym d) in_line;
      some = some;
      is = is;
      digits = d;
      positive = positive;
      none_yet = none_yet;
      so_far = so_far;
      element = element;
    }

pub returns-then-not-is_element-clause-none : goal.returns-then-not-is_element-clause-none
returns-then-not-is_element-clause-none c = λ _ digit.
    let w = c.args.whole.now in
    let (v, is, stands) = digit in
    let d = c.in-Some.digit in
    let k = c.element_digits-digits.result in
    let g = reading w (the_field c.field-field.result) c.args.r c.args.t k c.started-old.result d c.args.bytes.now c.cols-cols.ensures.matrix c.field-field.ensures
    c.requires.in_rows c.requires.in_line c.requires.some c.in-Some.ensures c.element_digits-digits.ensures.count c.element_digits-digits.ensures.some c.started-old.ensures.none c.started-old.ensures.some
    c.started-old.ensures.element in
    let same = glyph_injective d v c.in-Some.ensures.small is.small (sym c.in-Some.ensures.glyph ∙ is.glyph) in
    let fits = digit_fits w.field (content w) c.args.r c.args.t k c.started-old.result d v c.args.bytes.now g is same stands in
    let small : c.with_digit-new.result < 2 ^ (the_field c.field-field.result).degree =
    subst (λ y. y < 2 ^ (the_field c.field-field.result).degree) (sym c.with_digit-new.ensures)
    (subst (λ F. changed c.started-old.result d (k - 1 - c.args.t % k) < 2 ^ F.degree) (sym c.field-field.ensures) fits) in
    let yes = c.is_element.ensures.1 small in cc

pub returns-else-not-is_element-clause-read : goal.returns-else-not-is_element-clause-read
returns-else-not-is_element-clause-read c = λ _.
    let w = c.args.whole.now in
    let d = c.in-Some.digit in
    let k = c.element_digits-digits.result in
    let g = reading w (the_field c.field-field.result) c.args.r c.args.t k c.started-old.result d c.args.bytes.now c.cols-cols.ensures.matrix c.field-field.ensures
    c.requires.in_rows c.requires.in_line c.requires.some c.in-Some.ensures c.element_digits-digits.ensures.count c.element_digits-digits.ensures.some c.started-old.ensures.none c.started-old.ensures.some
    c.started-old.ensures.element in
    let element : c.with_digit-new.result < 2 ^ (the_field c.field-field.result).degree = c.is_element.ensures.0 c.if-not-is_element.false in
    let fits : changed c.started-old.result d (k - 1 - c.args.t % k) < 2 ^ w.field.degree =
    subst (λ F. changed c.started-old.result d (k - 1 - c.args.t % k) < 2 ^ F.degree) c.field-field.ensures
    (subst (λ y. y < 2 ^ (the_field c.field-field.result).degree) c.with_digit-new.ensures element) in
    let written : content c.put.new.self ≡ with_entry (content w) c.args.r (c.args.t / k) (changed c.started-old.result d (k - 1 - c.args.t % k)) =
    ap content c.put.ensures ∙ ap (with_entry (content w) c.args.r (c.args.t / k)) c.with_digit-new.ensures in
    subst (λ (A : Matrix). ReadsDigits (Elements w.field) c.args.bytes.now (content w) A c.args.r c.args.t 1) (sym written)
    (digit_taken w.field (content w) c.args.r c.args.t k c.started-old.result d c.args.bytes.now g fits)
