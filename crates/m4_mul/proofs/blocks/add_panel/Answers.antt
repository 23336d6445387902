use Rattle.std.proofs.Common.{◌≡◌, ◌-◌, List, ℕ, [], length, get_or, take, drop, map, refl, ap, ◌∙◌, arith}
use Rattle.m4_model.specs.Matrix.{Matrix}
use Rattle.m4_model.specs.Shapes.{replace}
use Rattle.m4_mzd.specs.Window.{content, showing}
use Rattle.m4_mzd.specs.Seen.{shown}
use Rattle.m4_mzd.specs.declared.rect.Rect.{Rect}
use Rattle.m4_gray.proofs.PutLemmas.{still_around}
use Rattle.m4_mul.proofs.BlockedLemmas.{part_same, at-columns, at-rows}
use Rattle.m4_mul.proofs.blocks.add_panel.Given.{Over}
use Rattle.m4_mul.proofs.blocks.add_panel.Goals.{After-put_win}
use Rattle.m4_mul.proofs.blocks.add_panel.Goals as goal

pub put_win-requires : goal.put_win-requires
put_win-requires g c =
    let rect : Rect = record { r0 = 0; c0 = 0; r1 = c.rows.result; c1 = c.args.width } in
    record {
      fits = record {
        rect = rect;
        matrix = c.args.panel.now;
        is = still_around c.win_mut-part.result.1 c.win_mut-part.result.0 c.copy_rows.new.self rect c.args.panel.now (shown c.narrow.result) c.win_mut-part.ensures.whatever_it_shows c.copy_rows.ensures;
      };
    }

pub returns-clause-sum : goal.returns-clause-sum
returns-clause-sum g c =
    let W = c.args.c.now in
    let A = shown c.args.a.now in
    let B = shown c.args.b.now in
    let first = c.args.first in
    let width = c.args.width in
    let part = c.win_mut-part.result.0 in
    let P = shown c.see.result in
    let R = shown c.split_rows-2.result.0 in
    let whole : P ≡ content (showing part (shown c.narrow.result)) = c.see.ensures ∙ ap content c.copy_rows.ensures in
    let rows_part : part.rows ≡ W.rows = ap (λ (M : Matrix). M.rows) c.win_mut-part.ensures.content ∙ (let same : c.rows.result - 0 ≡ W.rows = omega (arith, c.rows.ensures.rows) in same) in
    let cols_part : part.cols ≡ width = ap (λ (M : Matrix). M.cols) c.win_mut-part.ensures.content ∙ (let same : width - 0 ≡ width = omega arith in same) in
    let columns : P.entries ≡ map (take width) (map (drop first) A.entries) =
    ap (λ (M : Matrix). M.entries) whole ∙ ap (λ (M : Matrix). M.entries) c.narrow.ensures ∙ ap (λ (M : Matrix). map (take width) M.entries) c.split_cols.ensures.right in
    let rows : R.entries ≡ take width (drop first B.entries) =
    ap (λ (M : Matrix). M.entries) c.split_rows-2.ensures.above ∙ ap (λ (M : Matrix). take width M.entries) c.split_rows.ensures.below in
    let high : length A.entries ≡ W.rows = c.rows-a.ensures.matrix.height ∙ c.requires.rows in
    c.add_groups.ensures.sum
    ∙ ap (showing W) (part_same (content W) A B P R first width refl refl
    (ap (λ (M : Matrix). M.rows) whole ∙ rows_part)
    (ap (λ (M : Matrix). M.cols) whole ∙ cols_part)
    (ap (λ (M : Matrix). M.cols) c.split_rows-2.ensures.above ∙ ap (λ (M : Matrix). M.cols) c.split_rows.ensures.below ∙ c.requires.cols)
    (λ i t below inside. ap (λ (e : List (List ℕ)). get_or (get_or e i []) t 0) columns ∙ at-columns A.entries first width i t (omega (arith, below, high)) inside)
    (λ t j inside within. ap (λ (e : List (List ℕ)). get_or (get_or e t []) j 0) rows ∙ at-rows B.entries first width t j inside))

panel_kept : (g : Over) → (c : After-put_win g) → c.put_win.new.self ≡ replace c.args.panel.now 0 0 (content c.copy_rows.new.self)
panel_kept g c =
    let rect : Rect = record { r0 = 0; c0 = 0; r1 = c.rows.result; c1 = c.args.width } in
    c.put_win.ensures rect c.args.panel.now
    (still_around c.win_mut-part.result.1 c.win_mut-part.result.0 c.copy_rows.new.self rect c.args.panel.now (shown c.narrow.result) c.win_mut-part.ensures.whatever_it_shows c.copy_rows.ensures)

pub returns-clause-panel_rows : goal.returns-clause-panel_rows
returns-clause-panel_rows g c = ap (λ (M : Matrix). M.rows) (panel_kept g c)

pub returns-clause-panel_cols : goal.returns-clause-panel_cols
returns-clause-panel_cols g c = ap (λ (M : Matrix). M.cols) (panel_kept g c)
