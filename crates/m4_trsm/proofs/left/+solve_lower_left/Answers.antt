use Rattle.std.proofs.Common.{◌≡◌, ℕ, ◌*◌, ◌%◌, ◌≤◌, refl, sym, ap, subst, ◌∙◌, arith}
use Rattle.m4_model.specs.Field.{Field, width}
use Rattle.m4_field.specs.Fields.{the_field}
use Rattle.m4_mzd.specs.declared.TheConstants.{MOST_SIDE}
use Rattle.m4_mzed.specs.ESeen.{e_shown}
use Rattle.m4_trsm.proofs.Windows.{upper, lower}
use Rattle.m4_trsm.proofs.Solves.{written_once, written_twice, solved_lower_left}
use Rattle.m4_trsm.proofs.WordHalves.{more_than_word}
use Rattle.m4_trsm.proofs.left.+solve_lower_left.Goals as goal

pub half_over-cut-requires-clause-more : goal.half_over-cut-requires-clause-more
half_over-cut-requires-clause-more g t c =
    more_than_word c.rows-rows.result c.most_by_rows.result (width (the_field c.field-field.result)) c.most_by_rows.ensures (omega arith)

pub half_over-cut-requires-clause-few_bits : goal.half_over-cut-requires-clause-few_bits
half_over-cut-requires-clause-few_bits g t c =
    subst (λ (F : Field). c.rows-rows.result * width F ≤ MOST_SIDE) (sym c.field-field.ensures)
    (subst (λ (n : ℕ). n * width (e_shown c.args.t.now).field ≤ MOST_SIDE) (sym c.requires.square ∙ sym c.rows-rows.ensures.rows) c.rows-rows.ensures.few_bits)

pub quarters-requires-clause-whole_words : goal.quarters-requires-clause-whole_words
quarters-requires-clause-whole_words g t c =
    subst (λ (F : Field). c.half_over-cut.result * width F % 64 ≡ 0) c.field-field.ensures c.half_over-cut.ensures.whole_words

pub returns-clause-solved : goal.returns-clause-solved
returns-clause-solved g t c =
    let w = c.args.b.now in
    let k = c.half_over-cut.result in
    solved_lower_left w.field c.rows-rows-2.ensures.matrix.over_field (e_shown c.args.t.now) (e_shown c.quarters.result.0) (e_shown c.quarters.result.3) w.rows k
    (record {
      within = omega (arith, c.half_over-cut.ensures.less, c.rows-rows.ensures.rows, c.requires.fits);
      shape = record { is_matrix = c.rows-rows.ensures.matrix; over = c.requires.field; rows = c.requires.fits; cols = sym c.requires.square ∙ c.requires.fits };
      first = c.quarters.ensures.first;
      last = c.quarters.ensures.last;
    })
    w c.split_rows-top.result.0 c.split_rows-top.result.1 c.solve_lower_left.new.b c.solve_lower_left-2.new.b c.put_back.new.self refl refl
    (c.split_rows-top.ensures.above ∙ ap (λ u. upper u k) c.take.ensures.whole) (c.split_rows-top.ensures.below ∙ ap (λ u. lower u k) c.take.ensures.whole)
    (written_once c.rows-above.ensures.matrix c.rows-above-2.ensures.matrix c.solve_lower_left.ensures.stays)
    (written_twice c.rows-below.ensures.matrix c.rows-below-2.ensures.matrix c.addmul.ensures.sum c.solve_lower_left-2.ensures.stays)
    (c.put_back.ensures ∙ c.join_rows.ensures)
    c.addmul.new.c (e_shown c.quarters.result.2) (e_shown c.see.result) c.quarters.ensures.below c.see.ensures c.solve_lower_left.ensures.solved c.addmul.ensures.sum c.solve_lower_left-2.ensures.solved
