use Rattle.std.proofs.Common.{ℕ, arith, length, sym, ◌∙◌, subst, ◌≡◌}
use Rattle.std.proofs.lemmas.Bool.{eqb-true, iff_false}
use Rattle.std.proofs.lemmas.List.{nil_from_length}
use Rattle.m4_model.specs.Bare.{ReadsBare}
use Rattle.m4_model.specs.Text.{BadAt}
use Rattle.m4_model.specs.declared.form.Form.TheVariants.{Bare}
use Rattle.m4_text.specs.Refused.{IsRefusalIn}
use Rattle.m4_text.proofs.Bares.{no_lines, refused_more, refused_next, refused_line}
use Rattle.m4_text.proofs.bare.read_bare.Goals as goal

pub returns-then-is_empty-clause-ok : goal.returns-then-is_empty-clause-ok
returns-then-is_empty-clause-ok c =
    let empty : length c.args.bytes.now ≡ 0 = eqb-true _ _ (sym c.is_empty.ensures ∙ c.if-is_empty.true) in
    subst (λ w. ReadsBare w c.in_ok-zeros.field-0) (sym (nil_from_length c.args.bytes.now empty))
    (no_lines c.in_ok-zeros.field-0 c.in_ok-zeros.ensures)

pub returns-then-begins_row-clause-err : goal.returns-then-begins_row-clause-err
returns-then-begins_row-clause-err c =
    refused_more c.args.bytes.now c.rows_to_read-rows.result c.in_ok-cols.cols c.in-Ok.end c.in_ok-m.m c.read_lines.new.m
    c.in_ok-m.ensures c.in_ok-cols.ensures.line c.rows_to_read-rows.ensures c.in-Ok.ensures.ok (omega (arith, c.in-Ok.ensures.ok.within))
    (c.begins_row.ensures.0 c.if-begins_row.true)

pub returns-in-Ok-clause-err : goal.returns-in-Ok-clause-err
returns-in-Ok-clause-err c =
    refused_next c.args.bytes.now c.rows_to_read-rows.result c.in_ok-cols.cols c.in-Ok.end c.in_ok-m.m c.read_lines.new.m
    c.in_ok-m.ensures c.in_ok-cols.ensures.line c.rows_to_read-rows.ensures c.in-Ok.ensures.ok (omega (arith, c.in-Ok.ensures.ok.within))
    (iff_false c.begins_row.ensures c.if-begins_row.false)

pub returns-clause-err : goal.returns-clause-err
returns-clause-err c =
    subst (λ (k : ℕ). IsRefusalIn Bare c.args.bytes.now (BadAt k)) (omega arith)
    (refused_line c.args.bytes.now c.rows_to_read-rows.result c.in_ok-cols.cols c.in-Err.place c.in_ok-m.m
    c.in_ok-m.ensures c.in_ok-cols.ensures.line c.rows_to_read-rows.ensures c.in-Err.ensures.err)
