-- The parts of a part of a rectangle that is read.
use Rattle.std.proofs.Common.{◌≡◌, ℕ, zero, suc, ◌+◌, ◌-◌, ◌<◌, ◌≤◌, List, [], ◌∷◌, length, take, drop, map, arith, refl, sym, ap, ◌∙◌}
use Rattle.std.proofs.lemmas.List.{length-take-le, length-drop, get_or-take, get_or-drop, get_or-map, take-map, drop-map, drop-take, drop-drop, take_all}
use Rattle.std.proofs.lemmas.List.Elements.{All-weaker}
use Rattle.std.proofs.lemmas.List.Folds.{map_fixed}
use Rattle.std.proofs.lemmas.Simd.{map-map}
use Rattle.m4_area.specs.Rectangle.{Rectangle, HasShape}
use Rattle.m4_area.specs.Rows.{row_of}
use Rattle.m4_area.specs.View.{part_of}

take_front : {A : Type 0} (m n : ℕ) (xs : List A) → m ≤ n → take m (take n xs) ≡ take m xs
take_front zero n xs h = refl
take_front (suc m) zero xs h = absurd (omega arith)
take_front (suc m) (suc n) [] h = refl
take_front (suc m) (suc n) (x ∷ xs) h = ap (λ l. x ∷ l) (take_front m n xs (omega arith))

drop_front : {A : Type 0} (m n : ℕ) (xs : List A) → m ≤ n → take (n - m) (drop m xs) ≡ drop m (take n xs)
drop_front m n xs h =
    let whole : m + (n - m) ≡ n = omega arith in
    sym (drop-take m (n - m) xs) ∙ ap (λ k. drop m (take k xs)) whole

pub part_above : (ws : List (List ℕ)) (a n r c d : ℕ) → r ≤ n → part_of ws a r c d ≡ take r (part_of ws a n c d)
part_above ws a n r c d h =
    ap (map (λ row. take d (drop c row))) (sym (take_front r n (drop a ws) h)) ∙ sym (take-map (λ row. take d (drop c row)) r (take n (drop a ws)))

pub part_below : (ws : List (List ℕ)) (a n r c d : ℕ) → r ≤ n → part_of ws (a + r) (n - r) c d ≡ drop r (part_of ws a n c d)
part_below ws a n r c d h =
    ap (map (λ row. take d (drop c row))) (ap (take (n - r)) (sym (drop-drop r a ws)) ∙ drop_front r n (drop a ws) h)
    ∙ sym (drop-map (λ row. take d (drop c row)) r (take n (drop a ws)))

pub part_left : (ws : List (List ℕ)) (a n c d w : ℕ) → w ≤ d → part_of ws a n c w ≡ map (take w) (part_of ws a n c d)
part_left ws a n c d w h =
    let same : (row : List ℕ) → take w (drop c row) ≡ take w (take d (drop c row)) = λ row. sym (take_front w d (drop c row) h) in
    (λ i. map (λ row. same row i) (take n (drop a ws))) ∙ sym (map-map (take w) (λ row. take d (drop c row)) (take n (drop a ws)))

pub part_right : (ws : List (List ℕ)) (a n c d w : ℕ) → w ≤ d → part_of ws a n (c + w) (d - w) ≡ map (drop w) (part_of ws a n c d)
part_right ws a n c d w h =
    let same : (row : List ℕ) → take (d - w) (drop (c + w) row) ≡ drop w (take d (drop c row)) =
    λ row. ap (take (d - w)) (sym (drop-drop w c row)) ∙ drop_front w d (drop c row) h in
    (λ i. map (λ row. same row i) (take n (drop a ws))) ∙ sym (map-map (drop w) (λ row. take d (drop c row)) (take n (drop a ws)))

pub part_whole : (v : Rectangle) → HasShape v → part_of v.words 0 v.rows 0 v.width ≡ v.words
part_whole v s =
    let rows : take v.rows (drop 0 v.words) ≡ v.words = take_all v.rows v.words (omega (arith, s.count)) in
    ap (map (λ row. take v.width (drop 0 row))) rows
    ∙ map_fixed (λ row. take v.width (drop 0 row)) v.words (All-weaker (λ row. length row ≡ v.width) (λ row. take v.width (drop 0 row) ≡ row) (λ row e. take_all v.width row (omega arith)) v.words s.widths)

pub part_row : (ws : List (List ℕ)) (a n r c d w : ℕ) (row : List ℕ) → r < n → a + n ≤ length ws → w ≡ d → row ≡ row_of ws (a + r)
    → take w (drop c row) ≡ row_of (part_of ws a n c d) r
part_row ws a n r c d w row below within wide is =
    let part : List ℕ → List ℕ = λ words. take d (drop c words) in
    let there : r < length (take n (drop a ws)) = omega (arith, length-take-le n (drop a ws) (omega (arith, length-drop a ws)), length-drop a ws) in
    (λ i. take (wide i) (drop c (is i)))
    ∙ sym (get_or-map part (take n (drop a ws)) r [] [] there ∙ ap part (get_or-take n (drop a ws) r [] below ∙ get_or-drop a ws r []))
