use Rattle.std.proofs.Common.{◌<◌, ◌^◌, ℕ, refl, sym, subst}
use Rattle.m4_field.specs.Fields.{the_field}
use Rattle.m4_mzd.specs.Seen.{shown}
use Rattle.m4_mzed.specs.ESeen.{e_shown}
use Rattle.m4_mzed.proofs.EntryLemmas.{entry_is}
use Rattle.m4_mzed.proofs.SeenLemmas.{seen_matrix, as_window, packed_as_window, IsWindow-as_window}
use Rattle.m4_mzed.proofs.win.EWin.get.Goals as goal

pub returns-clause-value : goal.returns-clause-value
returns-clause-value c =
    let v = c.args.self.now in
    entry_is (the_field v.field) v.cols (as_window (shown v.bits)) (packed_as_window (the_field v.field) v.cols (shown v.bits) v.packed) (shown v.bits) c.args.r c.args.c c.bits.result c.width-width.result c.first_bit.result
    (IsWindow-as_window (shown v.bits) c.rows-rows.ensures.matrix c.rows-rows.ensures.few_rows c.rows-rows.ensures.few_cols) refl c.width-width.ensures.width c.first_bit.ensures c.requires.in_rows c.requires.in_cols
    c.bits.ensures.bits c.bits.ensures.small

pub returns-clause-element : goal.returns-clause-element
returns-clause-element c =
    let Q : ℕ → Type 0 = λ x. x < 2 ^ (e_shown c.args.self.now).field.degree in
    subst Q (sym (returns-clause-value c)) ((seen_matrix c.args.self.now).elements c.args.r c.args.c c.requires.in_rows c.requires.in_cols)
