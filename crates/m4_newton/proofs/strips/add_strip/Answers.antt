use Rattle.std.proofs.Common.{◌*◌, ap}
use Rattle.m4_model.specs.Matrix.{Matrix}
use Rattle.m4_mzd.specs.declared.rect.Rect.{Rect}
use Rattle.m4_newton.proofs.WindowLemmas.{still_around}
use Rattle.m4_newton.proofs.strips.add_strip.Goals as goal

pub put_win-requires : goal.put_win-requires
put_win-requires g c =
    let rect : Rect = record { r0 = 0; c0 = 0; r1 = c.rows.result * c.width.result; c1 = c.cols.result } in
    record {
      fits = record {
        rect = rect;
        matrix = c.args.room.now;
        is = still_around c.win_mut-part.result.1 c.win_mut-part.result.0 c.put_all_multiples.new.m rect c.args.room.now c.win_mut-part.ensures.whatever_it_shows c.put_all_multiples.ensures.kept;
      };
    }

pub returns-clause-same_field : goal.returns-clause-same_field
returns-clause-same_field g c =
    let rect : Rect = record { r0 = 0; c0 = 0; r1 = c.rows.result * c.width.result; c1 = c.cols.result } in
    ap (λ (A : Matrix). A.field) (c.put_win.ensures rect c.args.room.now
    (still_around c.win_mut-part.result.1 c.win_mut-part.result.0 c.put_all_multiples.new.m rect c.args.room.now c.win_mut-part.ensures.whatever_it_shows c.put_all_multiples.ensures.kept))

pub returns-clause-same_rows : goal.returns-clause-same_rows
returns-clause-same_rows g c =
    let rect : Rect = record { r0 = 0; c0 = 0; r1 = c.rows.result * c.width.result; c1 = c.cols.result } in
    ap (λ (A : Matrix). A.rows) (c.put_win.ensures rect c.args.room.now
    (still_around c.win_mut-part.result.1 c.win_mut-part.result.0 c.put_all_multiples.new.m rect c.args.room.now c.win_mut-part.ensures.whatever_it_shows c.put_all_multiples.ensures.kept))

pub returns-clause-same_cols : goal.returns-clause-same_cols
returns-clause-same_cols g c =
    let rect : Rect = record { r0 = 0; c0 = 0; r1 = c.rows.result * c.width.result; c1 = c.cols.result } in
    ap (λ (A : Matrix). A.cols) (c.put_win.ensures rect c.args.room.now
    (still_around c.win_mut-part.result.1 c.win_mut-part.result.0 c.put_all_multiples.new.m rect c.args.room.now c.win_mut-part.ensures.whatever_it_shows c.put_all_multiples.ensures.kept))
