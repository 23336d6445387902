use Rattle.std.proofs.Common.{◌≡◌, ℕ, sym, ◌∙◌, ap, subst, List, length}
use Rattle.m4_model.specs.Field.{Field}
use Rattle.m4_model.specs.Matrix.{Matrix, row}
use Rattle.m4_mzd.specs.declared.rect.Rect.{Rect}
use Rattle.m4_mzed.specs.EWindow.{content}
use Rattle.m4_mzed.specs.ESeen.{e_shown}
use Rattle.m4_newton.specs.NjTables.{Filled}
use Rattle.m4_newton.proofs.WindowLemmas.{still_around}
use Rattle.m4_eple.specs.Clearing.{IsClearing}
use Rattle.m4_eple.proofs.by_tables.fill_from.Goals as goal

pub put_win-requires : goal.put_win-requires
put_win-requires c =
    let rect : Rect = record { r0 = 0; c0 = 0; r1 = 1; c1 = c.cols.result } in
    record {
      fits = record {
        rect = rect;
        matrix = c.args.spare.now;
        is = still_around c.win_mut-part.result.1 c.win_mut-part.result.0 c.put_clearing.new.part rect c.args.spare.now c.win_mut-part.ensures.whatever_it_shows c.put_clearing.ensures.kept;
      };
    }

pub returns-clause-long : goal.returns-clause-long
returns-clause-long c =
    let same : row (content c.put_clearing.new.part) 0 ≡ c.fill_uncounted.new.table.row
    = ap (λ (M : Matrix). row M 0) (sym c.see.ensures) ∙ sym (ap (λ (t : Filled). t.row) c.fill_uncounted.ensures) in
    ap (λ (xs : List ℕ). length xs) (sym same) ∙ c.put_clearing.ensures.clearing.long ∙ c.rows-rows.ensures.matrix.width c.args.r c.requires.in_rows

pub returns-clause-clearing : goal.returns-clause-clearing
returns-clause-clearing c =
    let A = e_shown c.args.a.now in
    let xs = row A c.args.r in
    let same : row (content c.put_clearing.new.part) 0 ≡ c.fill_uncounted.new.table.row
    = ap (λ (M : Matrix). row M 0) (sym c.see.ensures) ∙ sym (ap (λ (t : Filled). t.row) c.fill_uncounted.ensures) in
    let over : c.win_mut-part.result.0.field ≡ A.field
    = ap (λ (M : Matrix). M.field) c.win_mut-part.ensures.content ∙ c.requires.spare_field ∙ sym c.requires.field in
    subst (IsClearing A.field c.args.inverse c.args.r c.args.c xs) same
    (subst (λ (F : Field). IsClearing F c.args.inverse c.args.r c.args.c xs (row (content c.put_clearing.new.part) 0)) over c.put_clearing.ensures.clearing)

pub returns-clause-spare_field : goal.returns-clause-spare_field
returns-clause-spare_field c =
    let rect : Rect = record { r0 = 0; c0 = 0; r1 = 1; c1 = c.cols.result } in
    ap (λ (A : Matrix). A.field) (c.put_win.ensures rect c.args.spare.now
    (still_around c.win_mut-part.result.1 c.win_mut-part.result.0 c.put_clearing.new.part rect c.args.spare.now c.win_mut-part.ensures.whatever_it_shows c.put_clearing.ensures.kept))

pub returns-clause-spare_rows : goal.returns-clause-spare_rows
returns-clause-spare_rows c =
    let rect : Rect = record { r0 = 0; c0 = 0; r1 = 1; c1 = c.cols.result } in
    ap (λ (A : Matrix). A.rows) (c.put_win.ensures rect c.args.spare.now
    (still_around c.win_mut-part.result.1 c.win_mut-part.result.0 c.put_clearing.new.part rect c.args.spare.now c.win_mut-part.ensures.whatever_it_shows c.put_clearing.ensures.kept))

pub returns-clause-spare_cols : goal.returns-clause-spare_cols
returns-clause-spare_cols c =
    let rect : Rect = record { r0 = 0; c0 = 0; r1 = 1; c1 = c.cols.result } in
    ap (λ (A : Matrix). A.cols) (c.put_win.ensures rect c.args.spare.now
    (still_around c.win_mut-part.result.1 c.win_mut-part.result.0 c.put_clearing.new.part rect c.args.spare.now c.win_mut-part.ensures.whatever_it_shows c.put_clearing.ensures.kept))
