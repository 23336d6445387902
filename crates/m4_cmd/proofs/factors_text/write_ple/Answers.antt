use Rattle.std.proofs.Common.{◌++◌, length, codes, ap}
use Rattle.std.proofs.lemmas.Result.{err_from_is_err_and}
use Rattle.m4_model.specs.Headed.{headed_text}
use Rattle.m4_cmd.specs.Factors.{ple_text}
use Rattle.m4_cmd.proofs.PartLemmas.{part_stops, part_follows, same_heading}
use Rattle.m4_cmd.proofs.factors_text.write_ple.Goals as goal

pub returns-in_err-write_heading : goal.returns-in_err-write_heading
returns-in_err-write_heading g c =
    let p = err_from_is_err_and c.from_residual.result c.from_residual.ensures.1 in
    let f = c.args.ple in
    let both = headed_text f.l ++ headed_text f.e in
    let same = same_heading (codes "pivots") (length c.as_slice-pivots.result.now) (length f.pivots.items) c.as_list.result.now f.rows c.as_slice-pivots.result.now f.pivots.items both (ap length c.as_slice-pivots.ensures.value) c.as_list.ensures.list c.as_slice-pivots.ensures.value in
    part_stops _ both (ple_text f) same p.1 c.in_err-write_heading.ensures

pub returns : goal.returns
returns g c =
    let f = c.args.ple in
    let both = headed_text f.l ++ headed_text f.e in
    let same = same_heading (codes "pivots") (length c.as_slice-pivots.result.now) (length f.pivots.items) c.as_list.result.now f.rows c.as_slice-pivots.result.now f.pivots.items both (ap length c.as_slice-pivots.ensures.value) c.as_list.ensures.list c.as_slice-pivots.ensures.value in
    part_follows _ both (ple_text f) same c.in_ok-write_heading.ensures c.write_both.ensures
