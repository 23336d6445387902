use Rattle.std.proofs.Common.{ℕ, refl, sym, subst, ap₂, ◌∙◌}
use Rattle.m4_model.specs.Field.{Field}
use Rattle.m4_mzd.specs.Seen.{shown}
use Rattle.m4_mzed.specs.ESeen.{e_shown}
use Rattle.m4_mzed.specs.Packed.{elements, IsPacked}
use Rattle.m4_newton.proofs.WindowLemmas.{same_bits_of, sum_packed, sum_shows}
use Rattle.m4_newton.proofs.strips.add_by_bits.Goals as goal

pub of_packed-requires : goal.of_packed-requires
of_packed-requires g c =
    let w = c.args.c.now in
    let N = c.addmul.new.c in
    let P : Field → Type 0 = λ F. IsPacked F c.cols-cols.result N in
    let Q : ℕ → Type 0 = λ n. IsPacked w.field n N in
    subst P (sym c.field-field.ensures) (subst Q (sym c.cols-cols.ensures.cols)
    (sum_packed w (e_shown c.args.a.now) (e_shown c.args.b.now) (e_shown c.args.multiples.now) c.into_packed-bits.result N (shown c.packed-left.result) (shown c.packed-right.result)
    (same_bits_of c.take.result w c.into_packed-bits.result c.take.ensures.whole c.into_packed-bits.ensures.packed c.into_packed-bits.ensures.elements c.rows-rows.ensures.shape) c.rows-new_rows.ensures.shape
    (record { packed = c.packed-left.ensures.packed; shows = c.packed-left.ensures.elements; matrix = c.rows-left.ensures.matrix; over = refl })
    (record { packed = c.packed-right.ensures.packed; shows = c.packed-right.ensures.elements; matrix = c.rows-right.ensures.matrix; over = refl })
    c.rows-rows_of_b.ensures.matrix c.requires.a_field c.requires.b_field c.requires.multiples_field c.requires.rows c.requires.inner c.requires.cols
    c.requires.multiples_cols c.requires.multiples_rows c.requires.multiples c.addmul.ensures.sum))

pub returns-clause-sum : goal.returns-clause-sum
returns-clause-sum g c =
    let w = c.args.c.now in
    let N = c.addmul.new.c in
    c.put_back.ensures ∙ c.of_packed.ensures
    ∙ ap₂ (λ (F : Field) (n : ℕ). elements F n N) c.field-field.ensures c.cols-cols.ensures.cols
    ∙ sum_shows w (e_shown c.args.a.now) (e_shown c.args.b.now) (e_shown c.args.multiples.now) c.into_packed-bits.result N (shown c.packed-left.result) (shown c.packed-right.result)
    (same_bits_of c.take.result w c.into_packed-bits.result c.take.ensures.whole c.into_packed-bits.ensures.packed c.into_packed-bits.ensures.elements c.rows-rows.ensures.shape) c.rows-new_rows.ensures.shape
    (record { packed = c.packed-left.ensures.packed; shows = c.packed-left.ensures.elements; matrix = c.rows-left.ensures.matrix; over = refl })
    (record { packed = c.packed-right.ensures.packed; shows = c.packed-right.ensures.elements; matrix = c.rows-right.ensures.matrix; over = refl })
    c.rows-rows_of_b.ensures.matrix c.requires.a_field c.requires.b_field c.requires.multiples_field c.requires.rows c.requires.inner c.requires.cols
    c.requires.multiples_cols c.requires.multiples_rows c.requires.multiples c.addmul.ensures.sum
