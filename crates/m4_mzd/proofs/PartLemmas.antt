-- The parts of a window side by side, and a window with fewer columns in the same words.
use Rattle.std.proofs.Common.{◌≡◌, ℕ, zero, suc, ◌+◌, ◌-◌, ◌*◌, ◌/◌, ◌%◌, ◌≤◌, List, [], ◌∷◌, ◌++◌, length, take, drop, map, refl, sym, ◌∙◌, ap, arith}
use Rattle.std.specs.List.{All}
use Rattle.std.specs.Simd.Lanes.{zip2}
use Rattle.std.proofs.lemmas.List.{append_assoc, take-append-drop, take_all, drop_all, take-take, drop-drop, drop-take, drop_at}
use Rattle.std.proofs.lemmas.List.Elements.{All-head, All-tail}
use Rattle.m4_model.specs.Text.{words_per_row}
use Rattle.m4_area.specs.Rectangle.{Rectangle}
use Rattle.m4_mzd.specs.Window.{Window}
use Rattle.m4_mzd.specs.Shown.{digits, window, bits_of, bits_within, bits_past, IsFramed}
use Rattle.m4_mzd.specs.Quarters.{IsBeside}
use Rattle.m4_mzd.proofs.BitRows.{length-digits, length-bits_of}
use Rattle.m4_mzd.proofs.WindowLemmas.{same_window}

-- the bits of the first words, of the others, and of words that follow others
bits_of-append : (xs ys : List ℕ) → bits_of (xs ++ ys) ≡ bits_of xs ++ bits_of ys
bits_of-append [] ys = refl
bits_of-append (x ∷ xs) ys = ap (λ l. digits 64 x ++ l) (bits_of-append xs ys) ∙ sym (append_assoc (digits 64 x) (bits_of xs) (bits_of ys))

bits_of-drop : (k : ℕ) (ws : List ℕ) → bits_of (drop k ws) ≡ drop (k * 64) (bits_of ws)
bits_of-drop zero ws = refl
bits_of-drop (suc k) [] = sym (drop_all (suc k * 64) [] (omega arith))
bits_of-drop (suc k) (w ∷ ws) =
    let more : 64 + k * 64 ≡ suc k * 64 = omega arith in
    bits_of-drop k ws ∙ ap (drop (k * 64)) (sym (drop_at (digits 64 w) (bits_of ws) 64 (length-digits 64 w)))
    ∙ drop-drop (k * 64) 64 (digits 64 w ++ bits_of ws) ∙ ap (λ n. drop n (digits 64 w ++ bits_of ws)) more

take-more : {A : Type 0} (n m : ℕ) (xs ys : List A) → length xs ≡ n → take (n + m) (xs ++ ys) ≡ xs ++ take m ys
take-more n m [] ys long = let none : n + m ≡ m = omega arith in ap (λ k. take k ys) none
take-more zero m (x ∷ xs) ys long = absurd (omega arith)
take-more (suc n) m (x ∷ xs) ys long = let one : suc n + m ≡ suc (n + m) = omega arith in ap (λ k. take k (x ∷ (xs ++ ys))) one ∙ ap (λ l. x ∷ l) (take-more n m xs ys (omega arith))

drop-more : {A : Type 0} (n m : ℕ) (xs ys : List A) → length xs ≡ n → drop (n + m) (xs ++ ys) ≡ drop m ys
drop-more n m xs ys long = sym (drop-drop m n (xs ++ ys)) ∙ ap (drop m) (drop_at xs ys n long)

bits_of-take : (k : ℕ) (ws : List ℕ) → bits_of (take k ws) ≡ take (k * 64) (bits_of ws)
bits_of-take zero ws = refl
bits_of-take (suc k) [] = sym (take_all (suc k * 64) [] (omega arith))
bits_of-take (suc k) (w ∷ ws) =
    let more : 64 + k * 64 ≡ suc k * 64 = omega arith in
    ap (λ l. digits 64 w ++ l) (bits_of-take k ws) ∙ sym (take-more 64 (k * 64) (digits 64 w) (bits_of ws) (length-digits 64 w))
    ∙ ap (λ n. take n (digits 64 w ++ bits_of ws)) more

-- a row of words cut at a multiple of 64 columns
pub left_within : (c cols : ℕ) (ws : List ℕ) → c ≤ cols → c % 64 ≡ 0 → bits_within c (take (c / 64) ws) ≡ take c (bits_within cols ws)
left_within c cols ws within whole =
    let same : c / 64 * 64 ≡ c = omega arith in
    ap (take c) (bits_of-take (c / 64) ws ∙ ap (λ n. take n (bits_of ws)) same) ∙ take-take c c (bits_of ws) (omega arith)
    ∙ sym (take-take c cols (bits_of ws) within)

pub narrow_within : (n cols : ℕ) (ws : List ℕ) → n ≤ cols → bits_within n (take (words_per_row n) ws) ≡ take n (bits_within cols ws)
narrow_within n cols ws within =
    ap (take n) (bits_of-take (words_per_row n) ws) ∙ take-take n (words_per_row n * 64) (bits_of ws) (omega arith)
    ∙ sym (take-take n cols (bits_of ws) within)

left_past : (c : ℕ) (ws : List ℕ) → c % 64 ≡ 0 → bits_past c (take (c / 64) ws) ≡ []
left_past c ws whole =
    let same : c / 64 * 64 ≡ c = omega arith in
    ap (drop c) (bits_of-take (c / 64) ws ∙ ap (λ n. take n (bits_of ws)) same)
    ∙ (let start : c + 0 ≡ c = omega arith in ap (λ n. drop c (take n (bits_of ws))) (sym start) ∙ drop-take c 0 (bits_of ws))

pub right_within : (c cols : ℕ) (ws : List ℕ) → c ≤ cols → c % 64 ≡ 0 → bits_within (cols - c) (drop (c / 64) ws) ≡ drop c (bits_within cols ws)
right_within c cols ws within whole =
    let same : c / 64 * 64 ≡ c = omega arith in
    let all : c + (cols - c) ≡ cols = omega arith in
    ap (take (cols - c)) (bits_of-drop (c / 64) ws ∙ ap (λ n. drop n (bits_of ws)) same)
    ∙ sym (drop-take c (cols - c) (bits_of ws)) ∙ ap (λ n. drop c (take n (bits_of ws))) all

right_past : (c cols : ℕ) (ws : List ℕ) → c ≤ cols → c % 64 ≡ 0 → bits_past (cols - c) (drop (c / 64) ws) ≡ bits_past cols ws
right_past c cols ws within whole =
    let same : c / 64 * 64 ≡ c = omega arith in
    let all : c + (cols - c) ≡ cols = omega arith in
    ap (drop (cols - c)) (bits_of-drop (c / 64) ws ∙ ap (λ n. drop n (bits_of ws)) same)
    ∙ drop-drop (cols - c) c (bits_of ws) ∙ ap (λ n. drop n (bits_of ws)) all

-- what maps to the same row by row is the same
map_along : {A B C : Type 0} (f : B → C) (g : A → B) (h : A → C) → ((x : A) → f (g x) ≡ h x) → (xs : List A) → map f (map g xs) ≡ map h xs
map_along f g h same [] = refl
map_along f g h same (x ∷ xs) = λ i. same x i ∷ map_along f g h same xs i

pub map_across : {A B C D : Type 0} (f : A → B) (g : B → D) (h : A → C) (k : C → D) → ((x : A) → g (f x) ≡ k (h x)) → (xs : List A) → map g (map f xs) ≡ map k (map h xs)
map_across f g h k same [] = refl
map_across f g h k same (x ∷ xs) = λ i. same x i ∷ map_across f g h k same xs i

pub window_left : (v : Rectangle) (cols c : ℕ) (w : Window) (a : Rectangle) → window v cols ≡ w → c ≤ w.cols → c % 64 ≡ 0
    → a ≡ record v { width = c / 64; words = map (take (c / 64)) v.words }
    → window a c ≡ record w { cols = c; bits = map (take c) w.bits; past = map (λ _. []) w.past }
window_left v cols c w a is within whole e =
    let inside : c ≤ cols = omega (arith, ap (λ (x : Window). x.cols) is) in
    rw (e, ← is)
    (same_window _ _ refl refl refl refl
    (map_across (take (c / 64)) (bits_within c) (bits_within cols) (take c) (λ ws. left_within c cols ws inside whole) v.words)
    (map_across (take (c / 64)) (bits_past c) (bits_past cols) (λ _. []) (λ ws. left_past c ws whole) v.words))

pub window_right : (v : Rectangle) (cols c : ℕ) (w : Window) (a : Rectangle) → window v cols ≡ w → c ≤ w.cols → c % 64 ≡ 0
    → a ≡ record v { skip = v.skip + c / 64; width = v.width - c / 64; words = map (drop (c / 64)) v.words }
    → window a (cols - c) ≡ record w { skip = w.skip + c / 64; cols = w.cols - c; bits = map (drop c) w.bits }
window_right v cols c w a is within whole e =
    let inside : c ≤ cols = omega (arith, ap (λ (x : Window). x.cols) is) in
    rw (e, ← is)
    (same_window _ _ refl refl refl refl
    (map_across (drop (c / 64)) (bits_within (cols - c)) (bits_within cols) (drop c) (λ ws. right_within c cols ws inside whole) v.words)
    (map_along (bits_past (cols - c)) (drop (c / 64)) (bits_past cols) (λ ws. right_past c cols ws inside whole) v.words))

-- rows of words that lie side by side
beside_within : (c cols k : ℕ) (rows others : List (List ℕ)) → c ≡ k * 64 → length rows ≡ length others → All (λ row. length row ≡ k) rows
    → map (bits_within (c + cols)) (zip2 (λ l r. l ++ r) rows others) ≡ zip2 (λ l r. l ++ r) (map (bits_within c) rows) (map (bits_within cols) others)
beside_within c cols k [] others full same wide = refl
beside_within c cols k (l ∷ ls) [] full same wide = absurd (omega arith)
beside_within c cols k (l ∷ ls) (r ∷ rs) full same wide =
    let long : length (bits_of l) ≡ c = omega (arith, length-bits_of l, All-head (λ row. length row ≡ k) l ls wide) in
    let one : bits_within (c + cols) (l ++ r) ≡ bits_within c l ++ bits_within cols r =
    ap (take (c + cols)) (bits_of-append l r) ∙ take-more c cols (bits_of l) (bits_of r) long
    ∙ ap (λ x. x ++ bits_within cols r) (sym (take_all c (bits_of l) (omega arith))) in
    let rest = beside_within c cols k ls rs full (omega arith) (All-tail (λ row. length row ≡ k) l ls wide) in
    λ i. one i ∷ rest i

beside_past : (c cols k : ℕ) (rows others : List (List ℕ)) → c ≡ k * 64 → length rows ≡ length others → All (λ row. length row ≡ k) rows
    → map (bits_past (c + cols)) (zip2 (λ l r. l ++ r) rows others) ≡ map (bits_past cols) others
beside_past c cols k [] [] full same wide = refl
beside_past c cols k [] (r ∷ rs) full same wide = absurd (omega arith)
beside_past c cols k (l ∷ ls) [] full same wide = absurd (omega arith)
beside_past c cols k (l ∷ ls) (r ∷ rs) full same wide =
    let long : length (bits_of l) ≡ c = omega (arith, length-bits_of l, All-head (λ row. length row ≡ k) l ls wide) in
    let one : bits_past (c + cols) (l ++ r) ≡ bits_past cols r =
    ap (drop (c + cols)) (bits_of-append l r) ∙ drop-more c cols (bits_of l) (bits_of r) long in
    let rest = beside_past c cols k ls rs full (omega arith) (All-tail (λ row. length row ≡ k) l ls wide) in
    λ i. one i ∷ rest i

pub window_beside : (v b : Rectangle) (c cols : ℕ) (w x : Window) (a : Rectangle) → window v c ≡ w → window b cols ≡ x
    → IsFramed v c → IsFramed b cols → IsBeside w x
    → a ≡ record v { width = v.width + b.width; words = zip2 (λ l r. l ++ r) v.words b.words }
    → window a (c + cols) ≡ record w { cols = w.cols + x.cols; bits = zip2 (λ l r. l ++ r) w.bits x.bits; past = x.past }
window_beside v b c cols w x a is other f g touch e =
    let whole : c % 64 ≡ 0 = omega (arith, touch.whole_words, ap (λ (y : Window). y.cols) is) in
    let full : c ≡ v.width * 64 = omega (arith, f.wide) in
    let same : length v.words ≡ length b.words =
    omega (arith, f.shape.count, g.shape.count, touch.rows, ap (λ (y : Window). y.rows) is, ap (λ (y : Window). y.rows) other) in
    rw (e, ← is, ← other)
    (same_window _ _ refl refl refl refl (beside_within c cols v.width v.words b.words full same f.shape.widths)
    (beside_past c cols v.width v.words b.words full same f.shape.widths))

-- a row's end past n, when it is cut at cols too
rejoined : {A : Type 0} (n cols : ℕ) (xs : List A) → n ≤ cols → drop n xs ≡ drop n (take cols xs) ++ drop cols xs
rejoined zero cols xs within = sym (take-append-drop cols xs)
rejoined (suc n) zero xs within = absurd (omega arith)
rejoined (suc n) (suc cols) [] within = refl
rejoined (suc n) (suc cols) (x ∷ xs) within = rejoined n cols xs (omega arith)

extended : {A : Type 0} (n cols : ℕ) (xs : List A) → cols ≤ n → take n xs ≡ take cols xs ++ take (n - cols) (drop cols xs)
extended n zero xs within = let all : n - 0 ≡ n = omega arith in ap (λ k. take k xs) (sym all)
extended zero (suc cols) xs within = absurd (omega arith)
extended (suc n) (suc cols) [] within = refl ∙ sym (take_all (suc n - suc cols) [] (omega arith))
extended (suc n) (suc cols) (x ∷ xs) within =
    let less : suc n - suc cols ≡ n - cols = omega arith in
    ap (λ l. x ∷ l) (extended n cols xs (omega arith)) ∙ ap (λ k. x ∷ (take cols xs ++ take k (drop cols xs))) (sym less)

-- fewer columns in the same words, and more again
fewer_past : (n cols : ℕ) (rows : List (List ℕ)) → n ≤ cols
    → map (bits_past n) rows ≡ zip2 (λ row more. drop n row ++ more) (map (bits_within cols) rows) (map (bits_past cols) rows)
fewer_past n cols [] within = refl
fewer_past n cols (r ∷ rs) within =
    let rest = fewer_past n cols rs within in
    λ i. rejoined n cols (bits_of r) within i ∷ rest i

pub window_narrow : (v : Rectangle) (cols n : ℕ) (w : Window) → window v cols ≡ w → n ≤ w.cols
    → window v n ≡ record w { cols = n; bits = map (take n) w.bits; past = zip2 (λ row more. drop n row ++ more) w.bits w.past }
window_narrow v cols n w is within =
    let inside : n ≤ cols = omega (arith, ap (λ (x : Window). x.cols) is) in
    rw (← is)
    (same_window _ _ refl refl refl refl
    (sym (map_along (take n) (bits_within cols) (bits_within n) (λ ws. take-take n cols (bits_of ws) inside) v.words))
    (fewer_past n cols v.words inside))

more_within : (n cols : ℕ) (rows : List (List ℕ)) → cols ≤ n
    → map (bits_within n) rows ≡ zip2 (λ row more. row ++ take (n - cols) more) (map (bits_within cols) rows) (map (bits_past cols) rows)
more_within n cols [] within = refl
more_within n cols (r ∷ rs) within =
    let rest = more_within n cols rs within in
    λ i. extended n cols (bits_of r) within i ∷ rest i

pub window_widen : (v : Rectangle) (cols n : ℕ) (w : Window) → window v cols ≡ w → w.cols ≤ n
    → window v n ≡ record w { cols = n; bits = zip2 (λ row more. row ++ take (n - w.cols) more) w.bits w.past; past = map (drop (n - w.cols)) w.past }
window_widen v cols n w is within =
    let inside : cols ≤ n = omega (arith, ap (λ (x : Window). x.cols) is) in
    let all : cols + (n - cols) ≡ n = omega arith in
    rw (← is)
    (same_window _ _ refl refl refl refl (more_within n cols v.words inside)
    (sym (map_along (drop (n - cols)) (bits_past cols) (bits_past n) (λ ws. drop-drop (n - cols) cols (bits_of ws) ∙ ap (λ k. drop k (bits_of ws)) all) v.words)))
