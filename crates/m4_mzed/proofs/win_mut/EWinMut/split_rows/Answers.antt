use Rattle.std.proofs.Common.{◌∙◌, ap, take, drop, ◌+◌, ◌-◌, ◌*◌}
use Rattle.m4_field.specs.Fields.{the_field}
use Rattle.m4_mzed.specs.EWindow.{EWindow}
use Rattle.m4_mzed.proofs.PartLemmas.{elements_above, elements_below}
use Rattle.m4_mzed.proofs.win_mut.EWinMut.split_rows.Goals as goal

pub returns-clause-above : goal.returns-clause-above
returns-clause-above c =
    elements_above (the_field c.self.inside.field) c.self.inside.cols c.self.inside.bits c.self.invariant c.args.r c.split_rows-above.result.0 c.split_rows-above.ensures.above
    ∙ ap {B = EWindow} (λ (v : EWindow). record v { rows = c.args.r; entries = take c.args.r v.entries; past = take c.args.r v.past }) c.self.view_is

pub returns-clause-below : goal.returns-clause-below
returns-clause-below c =
    elements_below (the_field c.self.inside.field) c.self.inside.cols c.self.inside.bits c.self.invariant c.args.r c.split_rows-above.result.1 c.split_rows-above.ensures.below
    ∙ ap {B = EWindow} (λ (v : EWindow). record v { skip = v.skip + c.args.r * v.place.stride; rows = v.rows - c.args.r; entries = drop c.args.r v.entries; past = drop c.args.r v.past }) c.self.view_is
