use Rattle.std.proofs.Common.{refl}
use Rattle.m4_mzed.specs.ESeen.{e_shown}
use Rattle.m4_mzd.specs.Seen.{shown}
use Rattle.m4_dense.proofs.EqualLemmas.{same_elements, same_bits}
use Rattle.m4_dense.proofs.equal.have_same_bits.Goals as goal

pub returns : goal.returns
returns c =
    let A = c.args.a.now in
    let B = c.args.b.now in
    let C = e_shown c.all.result in
    let D = e_shown c.all-2.result in
    let P = shown c.packed-mine.result in
    let Q = shown c.packed-theirs.result in (
      λ yes. same_elements A B C D P Q c.all.ensures c.all-2.ensures c.packed-mine.ensures.packed c.packed-theirs.ensures.packed c.packed-mine.ensures.elements c.packed-theirs.ensures.elements
          c.rows-rows.ensures.matrix c.rows-rows_of_b.ensures.matrix refl refl c.requires (c.have_same_rows.ensures.0 yes),
      λ same. c.have_same_rows.ensures.1 (same_bits A B C D P Q c.all.ensures c.all-2.ensures c.packed-mine.ensures.packed c.packed-theirs.ensures.packed c.packed-mine.ensures.elements c.packed-theirs.ensures.elements
          c.rows-rows.ensures.matrix c.rows-rows_of_b.ensures.matrix refl refl c.requires same),
    )
