use Rattle.std.proofs.Common.{◌-◌, ℕ, List, sym, ap, ◌∙◌}
use Rattle.std.proofs.lemmas.List.{take-map, drop-map}
use Rattle.m4_model.specs.Matrix.{Matrix}
use Rattle.m4_field.specs.Fields.{the_field}
use Rattle.m4_model.specs.Field.{width}
use Rattle.m4_mzd.specs.Seen.{shown}
use Rattle.m4_mzed.specs.Owned.{e_matrix}
use Rattle.m4_mzed.specs.Packed.{unpacked}
use Rattle.m4_mzed.proofs.win.EWin.split_rows.Goals as goal

pub returns-clause-above : goal.returns-clause-above
returns-clause-above c =
    let v = c.args.self in
    let F = the_field v.field in
    ap (e_matrix F v.cols) c.split_rows.ensures.above
    ∙ ap {B = Matrix} (λ (rows : List (List ℕ)). record { field = F; rows = c.args.r; cols = v.cols; entries = rows }) (sym (take-map (unpacked (width F) v.cols) c.args.r (shown v.bits).entries))

pub returns-clause-below : goal.returns-clause-below
returns-clause-below c =
    let v = c.args.self in
    let F = the_field v.field in
    ap (e_matrix F v.cols) c.split_rows.ensures.below
    ∙ ap {B = Matrix} (λ (rows : List (List ℕ)). record { field = F; rows = (shown v.bits).rows - c.args.r; cols = v.cols; entries = rows }) (sym (drop-map (unpacked (width F) v.cols) c.args.r (shown v.bits).entries))
