use Rattle.std.proofs.Common.{◌++◌, codes}
use Rattle.std.proofs.lemmas.Result.{err_from_is_err_and}
use Rattle.m4_model.specs.Headed.{headed_text}
use Rattle.m4_cmd.specs.Factors.{pluq_text}
use Rattle.m4_cmd.proofs.PartLemmas.{part_stops, part_follows, same_heading}
use Rattle.m4_cmd.proofs.factors_text.write_pluq.Goals as goal

pub returns-in_err-write_heading : goal.returns-in_err-write_heading
returns-in_err-write_heading g c =
    let p = err_from_is_err_and c.from_residual.result c.from_residual.ensures.1 in
    let f = c.args.pluq in
    let both = headed_text f.l ++ headed_text f.u in
    let same = same_heading (codes "columns") (c.from.result) (f.rank) c.as_list.result.now f.rows c.as_list-columns.result.now f.columns both (c.from.ensures) c.as_list.ensures.list c.as_list-columns.ensures.list in
    part_stops _ both (pluq_text f) same p.1 c.in_err-write_heading.ensures

pub returns : goal.returns
returns g c =
    let f = c.args.pluq in
    let both = headed_text f.l ++ headed_text f.u in
    let same = same_heading (codes "columns") (c.from.result) (f.rank) c.as_list.result.now f.rows c.as_list-columns.result.now f.columns both (c.from.ensures) c.as_list.ensures.list c.as_list-columns.ensures.list in
    part_follows _ both (pluq_text f) same c.in_ok-write_heading.ensures c.write_both.ensures
