-- A window that is cleared row by row, and one that is cut between two of its rows, written there, and joined again.
use Rattle.std.proofs.Common.{◌≡◌, ℕ, inl, inr, ◌+◌, ◌-◌, ◌*◌, ◌<◌, ◌≤◌, List, [], ◌∷◌, ◌++◌, length, get_or, set, take, drop, replicate, refl, sym, ◌∙◌, ap, arith}
use Rattle.std.specs.List.{swap}
use Rattle.std.proofs.lemmas.List.{append-nil, append_assoc, take-append-drop, drop_all, drop_more, take_more, take_all, set_at, length-replicate, length-set, length-take-le, replicate_more, get_or-replicate, set-append_right, set_comm}
use Rattle.std.proofs.lemmas.Bool.{cases_eq}
use Rattle.std.proofs.lemmas.List.Edits.{swap_is}
use Rattle.m4_model.specs.Matrix.{table}
use Rattle.m4_model.proofs.MatrixLemmas.{same_table}
use Rattle.m4_area.proofs.RowLemmas.{set_above, set_below}
use Rattle.m4_mzd.specs.Window.{Window, IsWindow}
use Rattle.m4_mzd.proofs.WindowLemmas.{same_window}

-- the window with its first n rows cleared
abbrev pub cleared : Window → ℕ → Window
cleared w n = record w { bits = replicate n (replicate w.cols 0) ++ drop n w.bits }

set_next : (z : List ℕ) (n : ℕ) (rows : List (List ℕ)) → n < length rows → set (replicate n z ++ drop n rows) n z ≡ replicate (n + 1) z ++ drop (n + 1) rows
set_next z n rows below =
    ap (λ l. set (replicate n z ++ l) n z) (drop_more rows n [] below)
    ∙ set_at (replicate n z) (get_or rows n []) (drop (n + 1) rows) z n (length-replicate n z)
    ∙ sym (append_assoc (replicate n z) (z ∷ []) (drop (n + 1) rows)) ∙ ap (λ l. l ++ drop (n + 1) rows) (replicate_more n z)

pub cleared_more : (first now next : Window) (n : ℕ) → n < length first.bits → now ≡ cleared first n
    → next ≡ record now { bits = set now.bits n (replicate now.cols 0) } → next ≡ cleared first (n + 1)
cleared_more first now next n below is written =
    written ∙ ap (λ (w : Window). record w { bits = set w.bits n (replicate w.cols 0) }) is
    ∙ ap {B = Window} (λ rows. record first { bits = rows }) (set_next (replicate first.cols 0) n first.bits below)

pub cleared_all : (first : Window) (n : ℕ) → IsWindow first → n ≡ first.rows → cleared first n ≡ record first { bits = table first.rows first.cols (λ i j. 0) }
cleared_all first n shape all =
    let none : drop n first.bits ≡ [] = drop_all n first.bits (omega (arith, shape.matrix.height)) in
    let z = replicate first.cols 0 in
    ap {B = Window} (λ rows. record first { bits = replicate n z ++ rows }) none
    ∙ ap {B = Window} (λ rows. record first { bits = rows }) (append-nil (replicate n z)
    ∙ (ap (λ k. replicate k z) all
    ∙ same_table first.rows first.cols (λ i j. 0) (replicate first.rows z) (length-replicate first.rows z)
    (λ i below. ap length (get_or-replicate first.rows i z [] below) ∙ length-replicate first.cols 0)
    (λ i j below within. ap (λ row. get_or row j 0) (get_or-replicate first.rows i z [] below) ∙ get_or-replicate first.cols j 0 0 within)))

-- a window that is cut and joined is as it was, but for its entries
abbrev pub upper : Window → ℕ → Window
upper w r = record w { rows = r; bits = take r w.bits; past = take r w.past }

abbrev pub lower : Window → ℕ → Window
lower w r = record w { skip = w.skip + r * w.place.stride; rows = w.rows - r; bits = drop r w.bits; past = drop r w.past }

abbrev pub stacked : Window → Window → Window
stacked a b = record a { rows = a.rows + b.rows; bits = a.bits ++ b.bits; past = a.past ++ b.past }

pub rejoined : (w : Window) (r : ℕ) (bits now : List (List ℕ)) → r ≤ w.rows → bits ≡ now
    → record w { rows = r + (w.rows - r); bits = bits; past = take r w.past ++ drop r w.past } ≡ record w { bits = now }
rejoined w r bits now within e =
    let rows : r + (w.rows - r) ≡ w.rows = omega arith in
    same_window _ _ refl refl rows refl e (take-append-drop r w.past)

-- row i of the lower part was written
pub written_below : (w : Window) (r i : ℕ) (new : List ℕ) → IsWindow w → r ≤ w.rows
    → stacked (upper w r) (record (lower w r) { bits = set (lower w r).bits i new }) ≡ record w { bits = set w.bits (r + i) new }
written_below w r i new shape within = rejoined w r _ _ within (set_below w.bits r i new (omega (arith, shape.matrix.height)))

-- row i of the upper part was written
pub written_above : (w : Window) (r i : ℕ) (new : List ℕ) → IsWindow w → i < r → r ≤ w.rows
    → stacked (record (upper w r) { bits = set (upper w r).bits i new }) (lower w r) ≡ record w { bits = set w.bits i new }
written_above w r i new shape above within = rejoined w r _ _ within (set_above w.bits r i new above (omega (arith, shape.matrix.height)))

-- row i of the upper part and the first row of the lower part were written
pub written_both : (w : Window) (r i : ℕ) (one other : List ℕ) → IsWindow w → i < r → r < w.rows
    → stacked (record (upper w r) { bits = set (upper w r).bits i one }) (record (lower w r) { bits = set (lower w r).bits 0 other })
    ≡ record w { bits = set (set w.bits i one) r other }
written_both w r i one other shape above within =
    let front : length (set (take r w.bits) i one) ≡ r = length-set (take r w.bits) i one ∙ length-take-le r w.bits (omega (arith, shape.matrix.height)) in
    let first : r - r ≡ 0 = omega arith in
    rejoined w r _ _ (omega arith)
    (ap (λ k. set (take r w.bits) i one ++ set (drop r w.bits) k other) (sym first)
    ∙ sym (set-append_right (set (take r w.bits) i one) (drop r w.bits) r r other front (omega arith))
    ∙ ap (λ rows. set rows r other) (set_above w.bits r i one above (omega (arith, shape.matrix.height))))

-- two rows in each other's place
pub rows_swapped : (w : Window) (i j : ℕ) → IsWindow w → i < w.rows → j < w.rows
    → record w { bits = set (set w.bits i (get_or w.bits j [])) j (get_or w.bits i []) } ≡ record w { bits = swap w.bits i j }
rows_swapped w i j shape first second =
    ap {B = Window} (λ rows. record w { bits = rows }) (swap_is w.bits i j [] (omega (arith, shape.matrix.height)) (omega (arith, shape.matrix.height)))

pub swap_turned : (w : Window) (i j : ℕ) → IsWindow w → i < w.rows → j ≤ i → record w { bits = swap w.bits j i } ≡ record w { bits = swap w.bits i j }
swap_turned w i j shape within turned =
    let x = get_or w.bits i [] in
    let y = get_or w.bits j [] in
    let same : set (set w.bits j x) i y ≡ set (set w.bits i y) j x =
    elim (cases_eq i j) as (λ _. set (set w.bits j x) i y ≡ set (set w.bits i y) j x) [
      | inl e ↦ rw e refl
      | inr apart ↦ set_comm w.bits j i x y (λ e. apart (sym e))
    ] in
    sym (rows_swapped w j i shape (omega arith) within) ∙ ap {B = Window} (λ rows. record w { bits = rows }) same
    ∙ rows_swapped w i j shape within (omega arith)

-- the window with its first n rows copied
abbrev pub copied : Window → List (List ℕ) → ℕ → Window
copied w rows n = record w { bits = take n rows ++ drop n w.bits }

-- one more element of the new list in place of the old one's
pub copy_next : {A : Type 0} (d : A) (n : ℕ) (new old : List A) → n < length new → n < length old
    → set (take n new ++ drop n old) n (get_or new n d) ≡ take (n + 1) new ++ drop (n + 1) old
copy_next d n new old below within =
    let x = get_or new n d in
    ap (λ l. set (take n new ++ l) n x) (drop_more old n d within)
    ∙ set_at (take n new) (get_or old n d) (drop (n + 1) old) x n (length-take-le n new (omega arith))
    ∙ sym (append_assoc (take n new) (x ∷ []) (drop (n + 1) old)) ∙ ap (λ l. l ++ drop (n + 1) old) (sym (take_more new n d below))

pub copied_more : (first now next : Window) (rows : List (List ℕ)) (n : ℕ) → n < length rows → n < length first.bits → now ≡ copied first rows n
    → next ≡ record now { bits = set now.bits n (get_or rows n []) } → next ≡ copied first rows (n + 1)
copied_more first now next rows n below within is written =
    written ∙ ap (λ (w : Window). record w { bits = set w.bits n (get_or rows n []) }) is
    ∙ ap {B = Window} (λ l. record first { bits = l }) (copy_next [] n rows first.bits below within)

pub copied_all : (first : Window) (rows : List (List ℕ)) (n : ℕ) → length rows ≤ n → length first.bits ≤ n → copied first rows n ≡ record first { bits = rows }
copied_all first rows n all old =
    ap {B = Window} (λ l. record first { bits = take n rows ++ l }) (drop_all n first.bits old)
    ∙ ap {B = Window} (λ l. record first { bits = l }) (append-nil (take n rows) ∙ take_all n rows all)
