-- Facts about rows of words, as lists.
use Rattle.std.proofs.Common.{◌≡◌, ◌+◌, ◌-◌, ◌*◌, ◌<◌, ◌≤◌, ℕ, set, zero, suc, List, [], ◌∷◌, ◌++◌, length, take, drop, arith, refl, ap, sym, ◌∙◌}
use Rattle.std.proofs.lemmas.List.{drop_all, take_at, length-take-le, length-append, length-drop, get_or-drop, get_or-take, set-append_left, set-append_right, take-append-drop, drop-drop, nil_from_length}
use Rattle.std.proofs.lemmas.List.Elements.{All-nil, All-cons, All-head, All-tail}
use Rattle.std.proofs.Math.Nat.{zero-mul, suc-mul}
use Rattle.std.specs.List.{All, concat}
use Rattle.m4_area.specs.Rows.{refill, row_of}
use Rattle.m4_area.specs.Storage.{rows_of}

-- A row that was written keeps its length, so what was written is what it holds.
pub refill_same : (old new : List ℕ) → length new ≡ length old → refill old new ≡ new
unfolding refill
refill_same old new same =
    let spent : drop (length new) old ≡ [] = drop_all (length new) old (omega arith) in
    ap (λ l. take (length old) (new ++ l)) spent ∙ take_at new [] (length old) same

-- Whatever is written, the row has its length.
pub length_refill : (old new : List ℕ) → length (refill old new) ≡ length old
unfolding refill
length_refill old new =
    length-take-le (length old) (new ++ drop (length new) old) (omega (arith, length-append new (drop (length new) old), length-drop (length new) old))

-- Rows of one width have as many words as they are rows times that width.
pub length-concat : (w : ℕ) (rs : List (List ℕ)) → All (λ r. length r ≡ w) rs → length (concat rs) ≡ length rs * w
length-concat w [] all = sym (zero-mul w)
length-concat w (r ∷ rs) all =
    let wide : length r ≡ w = All-head (λ x. length x ≡ w) r rs all in
    let rest = length-concat w rs (All-tail (λ x. length x ≡ w) r rs all) in
    omega (arith, length-append r (concat rs), suc-mul (length rs) w)

-- Words that are cut into rows.
pub length-rows_of : (n w : ℕ) (words : List ℕ) → length (rows_of n w words) ≡ n
unfolding rows_of
length-rows_of zero w words = refl
length-rows_of (suc n) w words = ap suc (length-rows_of n w (drop w words))

pub widths-rows_of : (n w : ℕ) (words : List ℕ) → length words ≡ n * w → All (λ r. length r ≡ w) (rows_of n w words)
unfolding rows_of
widths-rows_of zero w words e = All-nil (λ r. length r ≡ w)
widths-rows_of (suc n) w words e =
    let rest : length (drop w words) ≡ n * w = omega (arith, e, length-drop w words, suc-mul n w) in
    All-cons (λ r. length r ≡ w) (take w words) (rows_of n w (drop w words)) (length-take-le w words (omega (arith, e, suc-mul n w))) (widths-rows_of n w (drop w words) rest)

-- A row written in one of two parts is written in the whole.
pub set_below : (rows : List (List ℕ)) (h i : ℕ) (new : List ℕ) → h ≤ length rows → take h rows ++ set (drop h rows) i new ≡ set rows (h + i) new
set_below rows h i new fits =
    let at : h + i - h ≡ i = omega arith in
    ap (λ k. take h rows ++ set (drop h rows) k new) (sym at)
    ∙ sym (set-append_right (take h rows) (drop h rows) h (h + i) new (length-take-le h rows fits) (omega arith))
    ∙ ap (λ l. set l (h + i) new) (take-append-drop h rows)

pub set_above : (rows : List (List ℕ)) (h i : ℕ) (new : List ℕ) → i < h → h ≤ length rows → set (take h rows) i new ++ drop h rows ≡ set rows i new
set_above rows h i new l fits =
    sym (set-append_left (take h rows) (drop h rows) i new (omega (arith, length-take-le h rows fits)))
    ∙ ap (λ xs. set xs i new) (take-append-drop h rows)

-- A row of a part is a row of the whole.
pub row_below : (rows : List (List ℕ)) (h i : ℕ) → row_of (drop h rows) i ≡ row_of rows (h + i)
row_below rows h i = get_or-drop h rows i []

pub row_above : (rows : List (List ℕ)) (h i : ℕ) → i < h → row_of (take h rows) i ≡ row_of rows i
row_above rows h i l = get_or-take h rows i [] l

-- Row i of words that are cut into rows.
pub row_of_rows : (n w : ℕ) (words : List ℕ) (i : ℕ) → i < n → row_of (rows_of n w words) i ≡ take w (drop (i * w) words)
unfolding rows_of
row_of_rows zero w words i h = absurd (omega arith)
row_of_rows (suc n) w words zero h =
    let none : 0 * w ≡ 0 = zero-mul w in
    ap (λ k. take w (drop k words)) (sym none)
row_of_rows (suc n) w words (suc i) h =
    let far : w + i * w ≡ suc i * w = omega (arith, suc-mul i w) in
    row_of_rows n w (drop w words) i (omega arith) ∙ ap (take w) (drop-drop (i * w) w words ∙ ap (λ k. drop k words) far)

-- The rows, one after another, are the words that they were cut from.
pub concat-rows_of : (n w : ℕ) (words : List ℕ) → length words ≡ n * w → concat (rows_of n w words) ≡ words
unfolding rows_of
concat-rows_of zero w words e = sym (nil_from_length words (e ∙ zero-mul w))
concat-rows_of (suc n) w words e =
    let rest : length (drop w words) ≡ n * w = omega (arith, e, length-drop w words, suc-mul n w) in
    ap (λ l. take w words ++ l) (concat-rows_of n w (drop w words) rest) ∙ take-append-drop w words
