use Rattle.std.proofs.Common.{◌≡◌, ◌∙◌, take, sym, ap, subst, arith}
use Rattle.m4_model.specs.Matrix.{Matrix, row}
use Rattle.m4_mzd.specs.declared.rect.Rect.{Rect}
use Rattle.m4_mzed.specs.ESeen.{e_shown}
use Rattle.m4_newton.specs.NjTables.{IsNjTable, Filled}
use Rattle.m4_newton.proofs.TableLemmas.{still_out, WasFilled, row_is, is_table}
use Rattle.m4_newton.proofs.nj_table.NjTable.fill.Given.{Over}
use Rattle.m4_newton.proofs.nj_table.NjTable.fill.Goals.{After-tick}
use Rattle.m4_newton.proofs.nj_table.NjTable.fill.Goals as goal

pub put_win-requires : goal.put_win-requires
put_win-requires g c =
    let rect : Rect = record { r0 = 0; c0 = 0; r1 = c.rows.result; c1 = c.cols.result } in
    record {
      fits = record {
        rect = rect;
        matrix = c.self.inside.entries;
        is = still_out c.win_mut-part.result.1 c.win_mut-part.result.0 c.put_both.new.m rect c.self.inside.entries (row (e_shown c.args.b.now) c.args.r) c.win_mut-part.ensures.whatever_it_shows c.put_both.ensures;
      };
    }

was_filled : (g : Over) → (c : After-tick g)
    → WasFilled c.self.inside.entries c.put_win.new.self c.win_mut-part.result.0 c.put_both.new.m (e_shown c.args.b.now) c.args.r
was_filled g c =
    let E = c.self.inside.entries in
    let rect : Rect = record { r0 = 0; c0 = 0; r1 = c.rows.result; c1 = c.cols.result } in
    record {
      table = c.self.invariant.carried;
      rows = c.self.invariant.rows;
      part_field = ap (λ (M : Matrix). M.field) c.win_mut-part.ensures.content;
      part_rows = omega (arith, ap (λ (M : Matrix). M.rows) c.win_mut-part.ensures.content, c.rows.ensures.rows);
      part_cols = omega (arith, ap (λ (M : Matrix). M.cols) c.win_mut-part.ensures.content, c.cols.ensures.cols, c.requires.cols, ap (λ (t : Filled). t.cols) c.self.view_is);
      matrix = c.rows-rows_of_b.ensures.matrix;
      field = c.requires.field ∙ sym (ap (λ (t : Filled). t.field) c.self.view_is);
      cols = omega (arith, ap (λ (M : Matrix). M.cols) c.win_mut-part.ensures.content, c.cols.ensures.cols);
      below = c.requires.in_rows;
      both = c.put_both.ensures;
      back = c.put_win.ensures rect E (still_out c.win_mut-part.result.1 c.win_mut-part.result.0 c.put_both.new.m rect E (row (e_shown c.args.b.now) c.args.r) c.win_mut-part.ensures.whatever_it_shows c.put_both.ensures);
    }

part_cols_is : (g : Over) → (c : After-tick g) → c.win_mut-part.result.0.cols ≡ c.cols-self-inside.result
part_cols_is g c = omega (arith, ap (λ (M : Matrix). M.cols) c.win_mut-part.ensures.content, c.cols.ensures.cols, c.cols-self-inside.ensures.cols)

pub invariant_of-self : goal.invariant_of-self
invariant_of-self g c =
    subst (IsNjTable c.put_win.new.self) (part_cols_is g c)
    (is_table c.self.inside.entries c.put_win.new.self c.win_mut-part.result.0 c.put_both.new.m (e_shown c.args.b.now) c.args.r (was_filled g c))

pub returns-clause-filled : goal.returns-clause-filled
returns-clause-filled g c =
    let E = c.self.inside.entries in
    let N = c.put_win.new.self in
    let w = was_filled g c in
    let field : N.field ≡ c.args.self.now.field = ap (λ (M : Matrix). M.field) w.back ∙ ap (λ (t : Filled). t.field) c.self.view_is in
    let cols : N.cols ≡ c.args.self.now.cols = ap (λ (M : Matrix). M.cols) w.back ∙ ap (λ (t : Filled). t.cols) c.self.view_is in
    let filled : take c.cols-self-inside.result (row N 1) ≡ row (e_shown c.args.b.now) c.args.r
    = ap (λ n. take n (row N 1)) (sym (part_cols_is g c)) ∙ row_is E N c.win_mut-part.result.0 c.put_both.new.m (e_shown c.args.b.now) c.args.r w in
    λ i. record { field = field i; cols = cols i; row = filled i }
