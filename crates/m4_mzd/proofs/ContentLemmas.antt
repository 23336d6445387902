-- What joined windows show, in the words of matrices, and a window that was narrowed, written and widened again.
use Rattle.std.proofs.Common.{◌≡◌, ℕ, ◌+◌, ◌-◌, ◌<◌, ◌≤◌, inl, inr, List, [], ◌∷◌, ◌++◌, length, get_or, take, drop, map, refl, sym, ◌∙◌, ap, arith}
use Rattle.std.specs.List.{All}
use Rattle.std.specs.Simd.Lanes.{zip2}
use Rattle.std.proofs.lemmas.Bool.{cases_lt, cond-true, cond-false, lt-ltb, le-ltb}
use Rattle.std.proofs.lemmas.List.{length-append, length-drop, take_at, drop_at, get_or_append_left, get_or-append_right}
use Rattle.std.proofs.lemmas.List.Elements.{All-head, All-tail}
use Rattle.std.proofs.lemmas.Simd.{length-zip2, get_or-zip2}
use Rattle.m4_model.specs.Matrix.{row}
use Rattle.m4_model.specs.Shapes.{above, beside}
use Rattle.m4_model.proofs.MatrixLemmas.{same_matrix}
use Rattle.m4_mzd.specs.Window.{Window, IsWindow, content}

-- a window over another shows the one matrix above the other
pub content_above : (a b : Window) → IsWindow a → IsWindow b → b.cols ≡ a.cols
    → record (content a) { rows = a.rows + b.rows; entries = a.bits ++ b.bits } ≡ above (content a) (content b)
content_above a b s t cols =
    let high : length (a.bits ++ b.bits) ≡ a.rows + b.rows = omega (arith, length-append a.bits b.bits, s.matrix.height, t.matrix.height) in
    let upper : (i : ℕ) → i < a.rows → get_or (a.bits ++ b.bits) i [] ≡ row (content a) i =
    λ i below. get_or_append_left a.bits b.bits [] i (omega (arith, s.matrix.height)) in
    let lower : (i : ℕ) → a.rows ≤ i → get_or (a.bits ++ b.bits) i [] ≡ row (content b) (i - a.rows) =
    λ i past. get_or-append_right a.bits b.bits a.rows i [] s.matrix.height past in
    same_matrix (content a).field (a.rows + b.rows) a.cols _ (record (content a) { rows = a.rows + b.rows; entries = a.bits ++ b.bits }) refl refl refl high
    (λ i below. elim (cases_lt i a.rows) [
      | inl first ↦ ap length (upper i first) ∙ s.matrix.width i first
      | inr second ↦ ap length (lower i second) ∙ (t.matrix.width (i - a.rows) (omega arith) ∙ cols)
    ])
    (λ i j below within. elim (cases_lt i a.rows) [
      | inl first ↦ ap (λ l. get_or l j 0) (upper i first) ∙ sym (cond-true _ _ _ (lt-ltb i a.rows first))
      | inr second ↦ ap (λ l. get_or l j 0) (lower i second) ∙ sym (cond-false _ _ _ (le-ltb i a.rows second))
    ])

-- a window beside another shows the one matrix left of the other
pub content_beside : (a b : Window) → IsWindow a → IsWindow b → b.rows ≡ a.rows
    → record (content a) { cols = a.cols + b.cols; entries = zip2 (λ l r. l ++ r) a.bits b.bits } ≡ beside (content a) (content b)
content_beside a b s t rows =
    let same : length a.bits ≡ length b.bits = omega (arith, s.matrix.height, t.matrix.height) in
    let joined : (i : ℕ) → i < a.rows → get_or (zip2 (λ l r. l ++ r) a.bits b.bits) i [] ≡ row (content a) i ++ row (content b) i =
    λ i below. get_or-zip2 (λ l r. l ++ r) a.bits b.bits i [] [] [] (omega (arith, s.matrix.height)) (omega (arith, t.matrix.height)) in
    same_matrix (content a).field a.rows (a.cols + b.cols) _ (record (content a) { cols = a.cols + b.cols; entries = zip2 (λ l r. l ++ r) a.bits b.bits }) refl refl refl
    (length-zip2 (λ l r. l ++ r) a.bits b.bits same ∙ s.matrix.height)
    (λ i below. ap length (joined i below)
    ∙ omega (arith, length-append (row (content a) i) (row (content b) i), s.matrix.width i below, t.matrix.width i (omega arith)))
    (λ i j below within. ap (λ l. get_or l j 0) (joined i below) ∙ elim (cases_lt j a.cols) [
      | inl first ↦
          get_or_append_left (row (content a) i) (row (content b) i) 0 j (omega (arith, s.matrix.width i below))
          ∙ sym (cond-true _ _ _ (lt-ltb j a.cols first))
      | inr second ↦
          get_or-append_right (row (content a) i) (row (content b) i) a.cols j 0 (s.matrix.width i below) second
          ∙ sym (cond-false _ _ _ (le-ltb j a.cols second))
    ])

-- rows that were narrowed to n of their columns, written anew, and widened again: the new entries, then the old ones
pub widened_bits : (n cols : ℕ) (new old past : List (List ℕ)) → n ≤ cols → All (λ r. length r ≡ cols) old → length past ≡ length old → length new ≡ length old
    → zip2 (λ r more. r ++ take (cols - n) more) new (zip2 (λ r more. drop n r ++ more) old past) ≡ zip2 (λ r before. r ++ drop n before) new old
widened_bits n cols [] old past within wide same count = refl
widened_bits n cols (x ∷ new) [] past within wide same count = absurd (omega arith)
widened_bits n cols (x ∷ new) (y ∷ old) [] within wide same count = absurd (omega arith)
widened_bits n cols (x ∷ new) (y ∷ old) (z ∷ past) within wide same count =
    let long : length (drop n y) ≡ cols - n = omega (arith, length-drop n y, All-head (λ r. length r ≡ cols) y old wide) in
    let one : x ++ take (cols - n) (drop n y ++ z) ≡ x ++ drop n y = ap (λ l. x ++ l) (take_at (drop n y) z (cols - n) long) in
    let rest = widened_bits n cols new old past within (All-tail (λ r. length r ≡ cols) y old wide) (omega arith) (omega arith) in
    λ i. one i ∷ rest i

-- and past them what was there before
pub widened_past : (n cols : ℕ) (old past : List (List ℕ)) → n ≤ cols → All (λ r. length r ≡ cols) old → length past ≡ length old
    → map (drop (cols - n)) (zip2 (λ r more. drop n r ++ more) old past) ≡ past
widened_past n cols [] [] within wide same = refl
widened_past n cols [] (z ∷ past) within wide same = absurd (omega arith)
widened_past n cols (y ∷ old) [] within wide same = absurd (omega arith)
widened_past n cols (y ∷ old) (z ∷ past) within wide same =
    let long : length (drop n y) ≡ cols - n = omega (arith, length-drop n y, All-head (λ r. length r ≡ cols) y old wide) in
    let one : drop (cols - n) (drop n y ++ z) ≡ z = drop_at (drop n y) z (cols - n) long in
    let rest = widened_past n cols old past within (All-tail (λ r. length r ≡ cols) y old wide) (omega arith) in
    λ i. one i ∷ rest i
