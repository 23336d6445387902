use Rattle.m4_area.specs.Tied.{rectangle}
use Rattle.m4_area.proofs.TiedLemmas.{stacked_first, place_told, below_told}
use Rattle.m4_area.proofs.words.Words.join_rows.Goals as goal

pub join_rows-requires-clause-meets : goal.join_rows-requires-clause-meets
join_rows-requires-clause-meets c =
    let x = rectangle c.self.inside in
    let y = rectangle c.below.inside in
    let place = place_told x y c.args.self c.args.below c.self.view_is c.below.view_is c.requires.place in
    let meets = below_told x y c.args.self c.args.below c.self.view_is c.below.view_is c.requires.meets in
    stacked_first c.self.inside c.below.inside c.self.invariant c.below.invariant place meets
