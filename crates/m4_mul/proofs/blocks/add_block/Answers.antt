use Rattle.std.proofs.Common.{◌≡◌, ◌-◌, ◌%◌, refl, sym, ap, ◌∙◌, arith}
use Rattle.m4_model.specs.Matrix.{Matrix, added, product}
use Rattle.m4_model.specs.Shapes.{replace}
use Rattle.m4_model.proofs.MatrixLemmas.{same_parts}
use Rattle.m4_mzd.specs.Window.{Window, content, showing}
use Rattle.m4_mzd.specs.Seen.{shown}
use Rattle.m4_mzd.specs.declared.rect.Rect.{Rect}
use Rattle.m4_gray.proofs.PutLemmas.{still_around}
use Rattle.m4_mul.proofs.blocks.add_block.Given.{Over}
use Rattle.m4_mul.proofs.blocks.add_block.Goals.{After-put_win}
use Rattle.m4_mul.proofs.blocks.add_block.Goals as goal

pub put_win-requires : goal.put_win-requires
put_win-requires g c =
    let rect : Rect = record { r0 = 0; c0 = 0; r1 = c.rows.result; c1 = c.cols.result } in
    let S = added (content c.copy_rows.new.self) (product (shown c.args.a.now) (shown c.args.b.now)) in
    record {
      fits = record {
        rect = rect;
        matrix = c.packed.inside.block;
        is = still_around c.win_mut-part.result.1 c.win_mut-part.result.0 c.add_panels.new.c rect c.packed.inside.block S c.win_mut-part.ensures.whatever_it_shows
            (c.add_panels.ensures.sum ∙ ap (λ (w : Window). showing w S) c.copy_rows.ensures);
      };
    }

-- the block is what it was, but for the entries of the window
block_kept : (g : Over) → (c : After-put_win g) → c.put_win.new.self ≡ replace c.packed.inside.block 0 0 (content c.add_panels.new.c)
block_kept g c =
    let rect : Rect = record { r0 = 0; c0 = 0; r1 = c.rows.result; c1 = c.cols.result } in
    let part = c.win_mut-part.result.0 in
    let copied = c.copy_rows.new.self in
    let S = added (content copied) (product (shown c.args.a.now) (shown c.args.b.now)) in
    c.put_win.ensures rect c.packed.inside.block
    (still_around c.win_mut-part.result.1 part c.add_panels.new.c rect c.packed.inside.block S c.win_mut-part.ensures.whatever_it_shows
    (c.add_panels.ensures.sum ∙ ap (λ (w : Window). showing w S) c.copy_rows.ensures))

pub invariant_of-packed : goal.invariant_of-packed
invariant_of-packed g c =
    let kept = block_kept g c in
    let rows = ap (λ (M : Matrix). M.rows) kept in
    let cols = ap (λ (M : Matrix). M.cols) kept in
    let h = c.packed.invariant in
    record {
      wide = c.add_panels.ensures.sizes.cols ∙ h.wide ∙ sym cols;
      high = c.add_panels.ensures.panel_rows ∙ h.high ∙ sym rows;
      some_rows = omega (arith, rows, h.some_rows);
      some_cols = omega (arith, cols, h.some_cols);
      whole_block = ap (λ n. n % 64) cols ∙ h.whole_block;
      some_panel = omega (arith, c.add_panels.ensures.panel_cols, h.some_panel);
      whole_panel = ap (λ n. n % 64) c.add_panels.ensures.panel_cols ∙ h.whole_panel;
    }

pub returns-clause-same : goal.returns-clause-same
returns-clause-same g c =
    let kept = block_kept g c in
    (λ i. record { rows = ap (λ (M : Matrix). M.rows) kept i; cols = ap (λ (M : Matrix). M.cols) kept i; panel = c.add_panels.ensures.panel_cols i })
    ∙ c.packed.view_is

pub returns-clause-sum : goal.returns-clause-sum
returns-clause-sum g c =
    let W = c.args.c.now in
    let part = c.win_mut-part.result.0 in
    let copied = c.copy_rows.new.self in
    let P = product (shown c.args.a.now) (shown c.args.b.now) in
    let rows_part : part.rows ≡ W.rows = ap (λ (M : Matrix). M.rows) c.win_mut-part.ensures.content ∙ (let same : c.rows.result - 0 ≡ W.rows = omega (arith, c.rows.ensures.rows) in same) in
    let cols_part : part.cols ≡ W.cols = ap (λ (M : Matrix). M.cols) c.win_mut-part.ensures.content ∙ (let same : c.cols.result - 0 ≡ W.cols = omega (arith, c.cols.ensures.cols) in same) in
    let copy : content copied ≡ content W =
    ap content c.copy_rows.ensures
    ∙ same_parts (content (showing part (shown c.see.result))) (content W) refl rows_part cols_part (ap (λ (M : Matrix). M.entries) c.see.ensures) in
    c.copy_rows-2.ensures
    ∙ ap (showing W) (c.see-2.ensures ∙ ap content c.add_panels.ensures.sum ∙ ap (λ (M : Matrix). added M P) copy)
