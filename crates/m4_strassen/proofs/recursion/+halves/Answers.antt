use Rattle.std.proofs.Common.{◌≡◌, ◌+◌, ◌-◌, refl, sym, ap, ap₂, subst, ◌∙◌, arith}
use Rattle.m4_model.specs.Matrix.{Matrix, added, product}
use Rattle.m4_model.specs.Recursion.{products, s1, s2, s4, t1, t2, t4}
use Rattle.m4_model.proofs.Gf2Lemmas.{gf2_laws}
use Rattle.m4_model.proofs.RecursionLemmas.{products-whole}
use Rattle.m4_model.proofs.WinogradLemmas.{shape_s1, shape_t1}
use Rattle.m4_mzd.specs.Window.{content, showing}
use Rattle.m4_mzd.specs.Seen.{shown}
use Rattle.m4_mzd.proofs.PairLemmas.{upper, lower}
use Rattle.m4_mzd.proofs.BlockedLemmas.{before, behind, cols_added, rows_added, shape_of}
use Rattle.m4_strassen.specs.Level.{read, contents}
use Rattle.m4_strassen.specs.Levels.{IsLevel, HaveSides}
use Rattle.m4_strassen.specs.declared.level.Level.{Level}
use Rattle.m4_strassen.proofs.QuarterLemmas.{shown_shape}
use Rattle.m4_strassen.proofs.ProductLemmas.{inner_added}
use Rattle.m4_strassen.proofs.StepLemmas.{level_kept, quarters_kept, content_showing, first_shown, first_quarter, first_level, sixth_shown, sixth_shown_too, middle_level, middle_quarters, last_level, last_quarters, all_quarters, quarters_sum}
use Rattle.m4_strassen.proofs.recursion.+halves.Goals as goal

-- a product that isn't cut
pub add_by_halves-returns-clause-ticks : goal.add_by_halves-returns-clause-ticks
add_by_halves-returns-clause-ticks g t c =
    let one : products c.args.c.now.rows (shown c.args.a.now).cols c.args.c.now.cols c.args.cutoff ≡ 1
    = (λ i. products (sym c.rows-m.ensures.rows i) (sym c.cols-l.ensures.cols i) (sym c.cols-n.ensures.cols i) c.args.cutoff)
    ∙ products-whole c.rows-m.result c.cols-l.result c.cols-n.result c.args.cutoff (sym c.is_cut.ensures ∙ c.if-is_cut.false) in
    omega (arith, one, c.counted.ensures.ticks)

-- borders
pub add_rows-returns-clause-sum : goal.add_rows-returns-clause-sum
add_rows-returns-clause-sum g t c =
    let w = c.args.c.now in
    let A = shown c.args.a.now in
    let at = c.args.cut.m + c.args.cut.m in
    let top = c.split_rows.ensures.above in
    let bottom = c.split_rows.ensures.below in
    c.put_back.ensures ∙ c.join_rows.ensures
    ∙ rows_added w c.split_rows-top.result.0 c.split_rows-top.result.1 c.add_cols.new.c c.counted.new.c
    A (shown c.split_rows.result.0) (shown c.split_rows.result.1) (shown c.args.b.now) at A.cols c.requires.within.rows
    c.rows-rows.ensures.shape c.rows-top.ensures.shape c.rows-bottom.ensures.shape c.rows-top-2.ensures.shape c.rows-bottom-2.ensures.shape
    (c.split_rows-top.ensures.above ∙ ap (λ z. upper z at) c.take.ensures.whole) (c.split_rows-top.ensures.below ∙ ap (λ z. lower z at) c.take.ensures.whole)
    (shown_shape c.args.a.now c.requires.rows refl)
    (shown_shape c.split_rows.result.0 (ap (λ (M : Matrix). M.rows) top) (ap (λ (M : Matrix). M.cols) top))
    (shown_shape c.split_rows.result.1 (ap (λ (M : Matrix). M.rows) bottom ∙ ap (λ n. n - at) c.requires.rows) (ap (λ (M : Matrix). M.cols) bottom))
    (shown_shape c.args.b.now (sym c.requires.inner) c.requires.cols)
    (ap (λ (M : Matrix). M.entries) top) (ap (λ (M : Matrix). M.entries) bottom)
    c.add_cols.ensures.sum c.counted.ensures.sum

pub add_cols-returns-clause-sum : goal.add_cols-returns-clause-sum
add_cols-returns-clause-sum g t c =
    let w = c.args.c.now in
    let A = shown c.args.a.now in
    let at = c.args.cut.n + c.args.cut.n in
    let inner = sym c.requires.inner in
    let left = c.split_cols.ensures.left in
    let right = c.split_cols.ensures.right in
    c.put_back.ensures ∙ c.join_cols.ensures
    ∙ cols_added w c.split_cols-left.result.0 c.split_cols-left.result.1 c.add_inner.new.c c.counted.new.c
    A (shown c.args.b.now) (shown c.split_cols.result.0) (shown c.split_cols.result.1) at A.cols c.requires.within.cols
    c.cols-cols.ensures.shape c.cols-left.ensures.shape c.cols-right.ensures.shape c.cols-left-2.ensures.shape c.cols-right-2.ensures.shape
    (c.split_cols-left.ensures.left ∙ ap (λ z. before z at) c.take.ensures.whole) (c.split_cols-left.ensures.right ∙ ap (λ z. behind z at) c.take.ensures.whole)
    (shown_shape c.args.a.now c.requires.rows refl)
    (shown_shape c.args.b.now inner c.requires.cols)
    (shown_shape c.split_cols.result.0 (ap (λ (M : Matrix). M.rows) left ∙ inner) (ap (λ (M : Matrix). M.cols) left))
    (shown_shape c.split_cols.result.1 (ap (λ (M : Matrix). M.rows) right ∙ inner) (ap (λ (M : Matrix). M.cols) right ∙ ap (λ n. n - at) c.requires.cols))
    (ap (λ (M : Matrix). M.entries) left) (ap (λ (M : Matrix). M.entries) right)
    c.add_inner.ensures.sum c.counted.ensures.sum

pub add_inner-returns-clause-sum : goal.add_inner-returns-clause-sum
add_inner-returns-clause-sum g t c =
    let w = c.args.c.now in
    let A = shown c.args.a.now in
    let at = c.args.cut.l + c.args.cut.l in
    let left = c.split_cols.ensures.left in
    let right = c.split_cols.ensures.right in
    let top = c.split_rows.ensures.above in
    let bottom = c.split_rows.ensures.below in
    let inner = sym c.requires.inner in
    inner_added w c.add_quarters.new.c c.counted.new.c A (shown c.args.b.now)
    (shown c.split_cols.result.0) (shown c.split_cols.result.1) (shown c.split_rows.result.0) (shown c.split_rows.result.1) at A.cols c.requires.within.inner
    (shape_of c.cols-cols.ensures.shape refl refl)
    (shown_shape c.args.a.now c.requires.rows refl)
    (shown_shape c.args.b.now inner c.requires.cols)
    (shown_shape c.split_cols.result.0 (ap (λ (M : Matrix). M.rows) left ∙ c.requires.rows) (ap (λ (M : Matrix). M.cols) left))
    (shown_shape c.split_cols.result.1 (ap (λ (M : Matrix). M.rows) right ∙ c.requires.rows) (ap (λ (M : Matrix). M.cols) right))
    (shown_shape c.split_rows.result.0 (ap (λ (M : Matrix). M.rows) top) (ap (λ (M : Matrix). M.cols) top ∙ c.requires.cols))
    (shown_shape c.split_rows.result.1 (ap (λ (M : Matrix). M.rows) bottom ∙ ap (λ n. n - at) inner) (ap (λ (M : Matrix). M.cols) bottom ∙ c.requires.cols))
    (ap (λ (M : Matrix). M.entries) left) (ap (λ (M : Matrix). M.entries) right) (ap (λ (M : Matrix). M.entries) top) (ap (λ (M : Matrix). M.entries) bottom)
    c.add_quarters.ensures.sum c.counted.ensures.sum

-- quarters
pub add_quarters-returns-clause-sum : goal.add_quarters-returns-clause-sum
add_quarters-returns-clause-sum g t c =
    c.put_back.ensures
    ∙ quarters_sum c.args.c.now c.take.result c.join.result c.new-parts.result c.add_all.new.c
    c.quarters-quarters_of_a.ensures.shape c.quarters-quarters_of_b.ensures.shape c.new-parts.ensures.shape
    c.take.ensures.whole c.new-parts.ensures.joined c.new-parts.ensures.back c.add_all.ensures.added c.join.ensures
    c.quarters-quarters_of_a.ensures.joined c.quarters-quarters_of_b.ensures.joined

pub add_all-returns-clause-added : goal.add_all-returns-clause-added
add_all-returns-clause-added g t c =
    all_quarters c.args.level.now c.args.c.now c.requires.a_shape c.requires.b_shape c.requires.level
    c.add_first.new.c c.add_middle.new.c c.add_last.new.c c.add_first.new.level c.add_middle.new.level c.requires.c_shape
    c.add_first.ensures.added c.add_first.ensures.level c.add_middle.ensures.added c.add_middle.ensures.level c.add_last.ensures.added

-- the first, the second and the fifth product
pub add_first-returns-clause-added : goal.add_first-returns-clause-added
add_first-returns-clause-added g t c =
    let v = c.args.level.now in
    let w = c.args.c.now in
    let a = c.requires.a_shape in
    let b = c.requires.b_shape in
    let is = first_shown v w a b c.requires.level c.clear.new.self c.add_by_halves.new.c c.clear.ensures c.add_by_halves.ensures.sum in
    first_quarter v w a b c.requires.level c.add_by_halves.new.c c.keep_first.new.c c.add_by_halves-2.new.c is c.keep_first.ensures.added c.add_by_halves-2.ensures.sum

pub add_first-returns-clause-level : goal.add_first-returns-clause-level
add_first-returns-clause-level g t c =
    let v = c.args.level.now in
    let w = c.args.c.now in
    let a = c.requires.a_shape in
    let b = c.requires.b_shape in
    let is = first_shown v w a b c.requires.level c.clear.new.self c.add_by_halves.new.c c.clear.ensures c.add_by_halves.ensures.sum in
    first_level v w a b c.requires.level c.add_by_halves.new.c c.keep_first.new.level c.set_fifth.new.level c.add_by_halves-3.new.c is
    c.keep_first.ensures.kept c.set_fifth.ensures
    (c.add_by_halves-3.ensures.sum
    ∙ ap (λ (X : Matrix). showing c.set_fifth.new.level.p (added (content c.set_fifth.new.level.p) X)) (ap₂ product c.see.ensures c.see-2.ensures))

pub add_first-returns-clause-s_shows : goal.add_first-returns-clause-s_shows
add_first-returns-clause-s_shows g t c =
    ap (λ (x : Level). content x.s) (add_first-returns-clause-level g t c)
    ∙ content_showing c.args.level.now.s (shape_s1 gf2_laws c.requires.a_shape c.requires.b_shape) c.requires.level.s_rows c.requires.level.s_cols

pub add_first-returns-clause-t_shows : goal.add_first-returns-clause-t_shows
add_first-returns-clause-t_shows g t c =
    ap (λ (x : Level). content x.t) (add_first-returns-clause-level g t c)
    ∙ content_showing c.args.level.now.t (shape_t1 gf2_laws c.requires.a_shape c.requires.b_shape) c.requires.level.t_rows c.requires.level.t_cols

pub add_first-returns-clause-level_sides : goal.add_first-returns-clause-level_sides
add_first-returns-clause-level_sides g t c =
    let A = read c.args.a.now in
    let B = read c.args.b.now in
    subst (IsLevel c.args.cut.m c.args.cut.l c.args.cut.n) (sym (add_first-returns-clause-level g t c)) (level_kept c.requires.level (s1 A) (t1 B) (product (s1 A) (t1 B)) (product A.top_left B.top_left))

pub add_first-returns-clause-c_sides : goal.add_first-returns-clause-c_sides
add_first-returns-clause-c_sides g t c =
    let w = c.args.c.now in
    let A = read c.args.a.now in
    let B = read c.args.b.now in
    subst (HaveSides c.args.cut.m c.args.cut.n) (sym (add_first-returns-clause-added g t c)) (quarters_kept c.requires.c_sides (record (contents w) {
      top_left = added (added (content w.top_left) (product A.top_left B.top_left)) (product A.top_right B.bottom_left);
    }))

-- the sixth, the third and the fourth product
pub add_middle-set_third_and_fourth-requires-clause-s_shows : goal.add_middle-set_third_and_fourth-requires-clause-s_shows
add_middle-set_third_and_fourth-requires-clause-s_shows g t c =
    sixth_shown c.args.level.now c.args.c.now c.requires.a_shape c.requires.b_shape c.requires.level c.set_sixth.new.level c.set_sixth.ensures

pub add_middle-set_third_and_fourth-requires-clause-t_shows : goal.add_middle-set_third_and_fourth-requires-clause-t_shows
add_middle-set_third_and_fourth-requires-clause-t_shows g t c =
    sixth_shown_too c.args.level.now c.args.c.now c.requires.a_shape c.requires.b_shape c.requires.level c.set_sixth.new.level c.set_sixth.ensures

pub add_middle-returns-clause-level : goal.add_middle-returns-clause-level
add_middle-returns-clause-level g t c =
    let v1 = c.set_sixth.new.level in
    middle_level c.args.level.now c.args.c.now c.requires.a_shape c.requires.b_shape c.requires.level v1 c.add_by_halves.new.c c.set_third_and_fourth.new.level c.set_sixth.ensures
    (c.add_by_halves.ensures.sum ∙ ap (λ (X : Matrix). showing v1.u (added (content v1.u) X)) (ap₂ product c.see.ensures c.see-2.ensures))
    c.set_third_and_fourth.ensures

pub add_middle-returns-clause-added : goal.add_middle-returns-clause-added
add_middle-returns-clause-added g t c =
    let v = c.args.level.now in
    let w = c.args.c.now in
    middle_quarters v w c.requires.a_shape c.requires.b_shape c.requires.level c.set_third_and_fourth.new.level (added (content v.u) (product (s2 (read c.args.a.now)) (t2 (read c.args.b.now)))) c.add_by_halves-2.new.c c.add_by_halves-3.new.c
    (add_middle-returns-clause-level g t c)
    (c.add_by_halves-2.ensures.sum ∙ ap (λ (X : Matrix). showing w.top_right (added (content w.top_right) (product X (shown c.args.b.now.bottom_right)))) c.see-3.ensures)
    (c.add_by_halves-3.ensures.sum ∙ ap (λ (X : Matrix). showing w.bottom_left (added (content w.bottom_left) (product (shown c.args.a.now.bottom_right) X))) c.see-4.ensures)

pub add_middle-returns-clause-level_sides : goal.add_middle-returns-clause-level_sides
add_middle-returns-clause-level_sides g t c =
    let v = c.args.level.now in
    let A = read c.args.a.now in
    let B = read c.args.b.now in
    subst (IsLevel c.args.cut.m c.args.cut.l c.args.cut.n) (sym (add_middle-returns-clause-level g t c)) (level_kept c.requires.level (s4 A) (t4 B) (content v.p) (added (content v.u) (product (s2 A) (t2 B))))

pub add_middle-returns-clause-c_sides : goal.add_middle-returns-clause-c_sides
add_middle-returns-clause-c_sides g t c =
    let w = c.args.c.now in
    let A = read c.args.a.now in
    let B = read c.args.b.now in
    subst (HaveSides c.args.cut.m c.args.cut.n) (sym (add_middle-returns-clause-added g t c)) (quarters_kept c.requires.c_sides (record (contents w) {
      top_right = added (content w.top_right) (product (s4 A) B.bottom_right);
      bottom_left = added (content w.bottom_left) (product A.bottom_right (t4 B));
    }))

-- the seventh product
pub add_last-returns-clause-added : goal.add_last-returns-clause-added
add_last-returns-clause-added g t c =
    let v = c.args.level.now in
    let w = c.args.c.now in
    let a = c.requires.a_shape in
    let b = c.requires.b_shape in
    let v1 = c.set_seventh.new.level in
    let sum = c.add_by_halves.ensures.sum ∙ ap (λ (X : Matrix). showing v1.u (added (content v1.u) X)) (ap₂ product c.see.ensures c.see-2.ensures) in
    last_quarters v w a b c.requires.level v1 c.add_by_halves.new.c c.set_seventh.new.c c.add_bottom.new.c c.set_seventh.ensures.sums sum c.set_seventh.ensures.added c.add_bottom.ensures

pub add_last-returns-clause-level : goal.add_last-returns-clause-level
add_last-returns-clause-level g t c =
    let v = c.args.level.now in
    let w = c.args.c.now in
    let a = c.requires.a_shape in
    let b = c.requires.b_shape in
    let v1 = c.set_seventh.new.level in
    let sum = c.add_by_halves.ensures.sum ∙ ap (λ (X : Matrix). showing v1.u (added (content v1.u) X)) (ap₂ product c.see.ensures c.see-2.ensures) in
    last_level v w a b c.requires.level v1 c.add_by_halves.new.c c.set_seventh.ensures.sums sum
