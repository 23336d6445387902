use Rattle.std.proofs.Common.{◌*◌, ◌-◌, ◌/◌, ◌∙◌, min, ap, arith}
use Rattle.m4_field.specs.Fields.{the_field}
use Rattle.m4_mzed.specs.EWindow.{content}
use Rattle.m4_etext.proofs.TakenWords.{gathered_taken}
use Rattle.m4_etext.proofs.elements.take_word.Goals as goal

pub returns-in-Some-clause-read : goal.returns-in-Some-clause-read
returns-in-Some-clause-read c = λ _.
    let cols = c.cols.ensures.cols in
    let k = c.element_digits-count.result in
    gathered_taken (content c.args.whole.now) (content c.set_elements.new.whole) (the_field c.field-field.result) c.args.r c.args.t c.min-len.result k c.width.result c.in-Some.word c.args.bytes.now
    (record {
      matrix = c.cols.ensures.matrix;
      in_rows = c.requires.in_rows;
      same = c.field-field.ensures;
      carried = c.width.ensures.field;
      width_is = c.width.ensures.width;
      digits = c.element_digits-count.ensures.count;
      some = c.element_digits-count.ensures.some;
      starts = omega (arith, c.if-t-size-ne0.false);
      in_line = c.requires.in_line;
      many = c.min-len.ensures ∙ ap (λ n. min (n * k - c.args.t) (64 / c.width.result * k)) cols;
      enough = omega (arith, c.if-bytes-len.false);
      are = c.in-Some.ensures.elements;
      values = c.in-Some.ensures.digits;
      changed = ap content c.set_elements.ensures;
    })
