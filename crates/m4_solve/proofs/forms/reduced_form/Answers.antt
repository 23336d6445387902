use Rattle.std.proofs.Common.{refl}
use Rattle.m4_model.proofs.FieldProofs.{field_laws}
use Rattle.m4_mzed.specs.ESeen.{e_shown}
use Rattle.m4_solve.proofs.Ranks.{pivots_seen, form_at, rank_at, few_at, rank_of_reduced}
use Rattle.m4_solve.proofs.forms.reduced_form.Goals as goal

pub returns-clause-form : goal.returns-clause-form
returns-clause-form g c = form_at c.in_ok-form.ensures.reduced

pub returns-clause-rank : goal.returns-clause-rank
returns-clause-rank g c =
    let A = e_shown c.args.a.now in
    rank_of_reduced (field_laws A.field c.cols-cols.ensures.matrix.over_field) (pivots_seen _ _ _ _ _ refl c.in_ok-copy.ensures c.in_ok-form.ensures.reduced)

pub returns-clause-few_rows : goal.returns-clause-few_rows
returns-clause-few_rows g c = rank_at (pivots_seen _ _ _ _ _ refl c.in_ok-copy.ensures c.in_ok-form.ensures.reduced)

pub returns-clause-few_cols : goal.returns-clause-few_cols
returns-clause-few_cols g c = few_at (pivots_seen _ _ _ _ _ refl c.in_ok-copy.ensures c.in_ok-form.ensures.reduced)
