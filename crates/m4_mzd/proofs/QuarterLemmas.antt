-- What the quarters of a window show, as parts of its matrix.
use Rattle.std.proofs.Common.{◌≡◌, ℕ, ◌+◌, ◌-◌, ◌<◌, ◌≤◌, List, [], length, get_or, take, drop, map, refl, sym, ◌∙◌, ap, arith}
use Rattle.std.proofs.lemmas.List.{length-map, length-take-le, length-drop, get_or-map, get_or-take, get_or-drop}
use Rattle.m4_model.specs.Matrix.{Matrix, at, row, matrix_of}
use Rattle.m4_model.specs.Shapes.{cut}
use Rattle.m4_model.proofs.MatrixLemmas.{same_matrix}
use Rattle.m4_mzd.specs.Window.{Window, IsWindow, content}

-- a list of rows with the entries of a part of a matrix is that part
part_is : (A : Matrix) (rows : List (List ℕ)) (r0 c0 r1 c1 h n : ℕ) → r1 - r0 ≡ h → c1 - c0 ≡ n → length rows ≡ h
    → ((i : ℕ) → i < h → length (get_or rows i []) ≡ n)
    → ((i j : ℕ) → i < h → j < n → get_or (get_or rows i []) j 0 ≡ at A (r0 + i) (c0 + j))
    → record A { rows = h; cols = n; entries = rows } ≡ cut A r0 c0 r1 c1
part_is A rows r0 c0 r1 c1 h n high wide height width entries =
    same_matrix A.field h n (λ i j. at A (r0 + i) (c0 + j)) (record A { rows = h; cols = n; entries = rows }) refl refl refl height width entries
    ∙ (λ k. matrix_of A.field (sym high k) (sym wide k) (λ i j. at A (r0 + i) (c0 + j)))

-- rows that are cut at column c
lefts : (A : Matrix) (rows : List (List ℕ)) (r0 h c : ℕ) → c ≤ A.cols → length rows ≡ h → ((i : ℕ) → i < h → get_or rows i [] ≡ row A (r0 + i))
    → ((i : ℕ) → i < h → length (row A (r0 + i)) ≡ A.cols) → (r1 : ℕ) → r1 - r0 ≡ h
    → record A { rows = h; cols = c; entries = map (take c) rows } ≡ cut A r0 0 r1 c
lefts A rows r0 h c within height same long r1 high =
    let one : (i : ℕ) → i < h → get_or (map (take c) rows) i [] ≡ take c (row A (r0 + i)) =
    λ i below. get_or-map (take c) rows i [] [] (omega arith) ∙ ap (take c) (same i below) in
    part_is A (map (take c) rows) r0 0 r1 c h c high (omega arith) (length-map rows (take c) ∙ height)
    (λ i below. ap length (one i below) ∙ length-take-le c (row A (r0 + i)) (omega (arith, long i below)))
    (λ i j below inside.
    let place : j ≡ 0 + j = omega arith in
    ap (λ l. get_or l j 0) (one i below) ∙ (get_or-take c (row A (r0 + i)) j 0 inside ∙ ap (λ k. at A (r0 + i) k) place))

rights : (A : Matrix) (rows : List (List ℕ)) (r0 h c : ℕ) → c ≤ A.cols → length rows ≡ h → ((i : ℕ) → i < h → get_or rows i [] ≡ row A (r0 + i))
    → ((i : ℕ) → i < h → length (row A (r0 + i)) ≡ A.cols) → (r1 : ℕ) → r1 - r0 ≡ h
    → record A { rows = h; cols = A.cols - c; entries = map (drop c) rows } ≡ cut A r0 c r1 A.cols
rights A rows r0 h c within height same long r1 high =
    let one : (i : ℕ) → i < h → get_or (map (drop c) rows) i [] ≡ drop c (row A (r0 + i)) =
    λ i below. get_or-map (drop c) rows i [] [] (omega arith) ∙ ap (drop c) (same i below) in
    part_is A (map (drop c) rows) r0 c r1 A.cols h (A.cols - c) high refl (length-map rows (drop c) ∙ height)
    (λ i below. ap length (one i below) ∙ omega (arith, length-drop c (row A (r0 + i)), long i below))
    (λ i j below inside. ap (λ l. get_or l j 0) (one i below) ∙ get_or-drop c (row A (r0 + i)) j 0)

module _ (w : Window) (s : IsWindow w) (r c : ℕ) (in_rows : r ≤ w.rows) (in_cols : c ≤ w.cols) where
  top_high : length (take r w.bits) ≡ r
  top_high = length-take-le r w.bits (omega (arith, s.matrix.height))

  bottom_high : length (drop r w.bits) ≡ w.rows - r
  bottom_high = omega (arith, length-drop r w.bits, s.matrix.height)

  top_row : (i : ℕ) → i < r → get_or (take r w.bits) i [] ≡ row (content w) (0 + i)
  top_row i below = let place : i ≡ 0 + i = omega arith in get_or-take r w.bits i [] below ∙ ap (row (content w)) place

  bottom_row : (i : ℕ) → i < w.rows - r → get_or (drop r w.bits) i [] ≡ row (content w) (r + i)
  bottom_row i below = get_or-drop r w.bits i []

  pub shows_top_left : record (content w) { rows = r; cols = c; entries = map (take c) (take r w.bits) } ≡ cut (content w) 0 0 r c
  shows_top_left = lefts (content w) (take r w.bits) 0 r c in_cols top_high top_row (λ i below. s.matrix.width (0 + i) (omega arith)) r (omega arith)

  pub shows_top_right : record (content w) { rows = r; cols = w.cols - c; entries = map (drop c) (take r w.bits) } ≡ cut (content w) 0 c r w.cols
  shows_top_right = rights (content w) (take r w.bits) 0 r c in_cols top_high top_row (λ i below. s.matrix.width (0 + i) (omega arith)) r (omega arith)

  pub shows_bottom_left : record (content w) { rows = w.rows - r; cols = c; entries = map (take c) (drop r w.bits) } ≡ cut (content w) r 0 w.rows c
  shows_bottom_left = lefts (content w) (drop r w.bits) r (w.rows - r) c in_cols bottom_high bottom_row (λ i below. s.matrix.width (r + i) (omega arith)) w.rows refl

  pub shows_bottom_right : record (content w) { rows = w.rows - r; cols = w.cols - c; entries = map (drop c) (drop r w.bits) } ≡ cut (content w) r c w.rows w.cols
  shows_bottom_right = rights (content w) (drop r w.bits) r (w.rows - r) c in_cols bottom_high bottom_row (λ i below. s.matrix.width (r + i) (omega arith)) w.rows refl
