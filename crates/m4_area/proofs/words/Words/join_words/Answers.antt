use Rattle.m4_area.specs.Tied.{rectangle}
use Rattle.m4_area.proofs.TiedLemmas.{tied_beside, place_told, rows_told, beside_told}
use Rattle.m4_area.proofs.words.Words.join_words.Goals as goal

pub invariant_of-result : goal.invariant_of-result
invariant_of-result c =
    let x = rectangle c.self.inside in
    let y = rectangle c.right.inside in
    let place = place_told x y c.args.self c.args.right c.self.view_is c.right.view_is c.requires.place in
    let rows = rows_told x y c.args.self c.args.right c.self.view_is c.right.view_is c.requires.rows in
    let meets = beside_told x y c.args.self c.args.right c.self.view_is c.right.view_is c.requires.meets in
    tied_beside c.self.inside c.right.inside c.join_words.result c.self.invariant c.right.invariant place rows meets c.join_words.ensures
