use Rattle.std.proofs.Common.{◌≡◌, ◌++◌, ◌∙◌, List, ℕ, ap, sym}
use Rattle.std.proofs.lemmas.Result.{err_from_is_err_and}
use Rattle.m4_model.specs.NumberLines.{numbers_line}
use Rattle.m4_outcome.specs.RankLines.{rank_line}
use Rattle.m4_cmd.specs.Factors.{rows_line}
use Rattle.m4_cmd.proofs.PartLemmas.{part_stops, part_follows}
use Rattle.m4_cmd.proofs.factors_text.write_heading.Goals as goal

-- the line as it is written
line_first : (bytes line rest : List ℕ) → bytes ≡ line → line ++ rest ≡ bytes ++ rest
line_first bytes line rest same = ap (λ (l : List ℕ). l ++ rest) (sym same)

pub returns-in_err-write_whole : goal.returns-in_err-write_whole
returns-in_err-write_whole g c =
    let p = err_from_is_err_and c.from_residual.result c.from_residual.ensures.1 in
    let rest = rows_line c.args.rows.now ++ numbers_line c.args.name.now c.args.columns.now in
    let bytes = c.as_bytes.result.now in
    part_stops bytes rest (rank_line c.args.rank ++ rest) (line_first bytes (rank_line c.args.rank) rest (c.as_bytes.ensures.value ∙ c.deref.ensures.0 ∙ c.rank_line.ensures.line)) p.1 c.in_err-write_whole.ensures

pub returns : goal.returns
returns g c =
    let rest = rows_line c.args.rows.now ++ numbers_line c.args.name.now c.args.columns.now in
    let bytes = c.as_bytes.result.now in
    part_follows bytes rest (rank_line c.args.rank ++ rest) (line_first bytes (rank_line c.args.rank) rest (c.as_bytes.ensures.value ∙ c.deref.ensures.0 ∙ c.rank_line.ensures.line))
    c.in_ok-write_whole.ensures c.write_orders.ensures
