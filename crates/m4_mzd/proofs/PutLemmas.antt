-- The matrix once a window that was taken out of it is put back.
use Rattle.std.proofs.Common.{leb, ltb, ◌≡◌, ℕ, ◌+◌, ◌-◌, ◌*◌, ◌/◌, ◌%◌, ◌<◌, ◌≤◌, inl, inr, cond, ◌&&◌, List, [], length, get_or, take, drop, map, replicate, refl, sym, ◌∙◌, ap, subst, arith}
use Rattle.std.specs.List.{All}
use Rattle.std.proofs.lemmas.Bool.{cases_lt, cond-true, cond-false, le-leb, lt-leb, lt-ltb, le-ltb, and_from, and_left, and_right}
use Rattle.std.proofs.lemmas.List.{length-take-le, length-drop, length-map, get_or-drop, get_or-take, get_or-map, same_lists}
use Rattle.m4_model.specs.Field.{gf2}
use Rattle.m4_model.specs.Matrix.{at}
use Rattle.m4_model.specs.Shapes.{replace}
use Rattle.m4_model.specs.Text.{words_per_row}
use Rattle.m4_model.proofs.MatrixLemmas.{same_matrix}
use Rattle.m4_bits.specs.Bits.{bit}
use Rattle.m4_area.specs.Rectangle.{Rectangle, HasShape}
use Rattle.m4_area.specs.Rows.{row_of}
use Rattle.m4_area.proofs.ShapeLemmas.{row_width}
use Rattle.m4_mzd.specs.Window.{content}
use Rattle.m4_mzd.specs.Shown.{window, bits_of, bits_within, bits_past, IsFramed}
use Rattle.m4_mzd.specs.Held.{held, IsHeld}
use Rattle.m4_mzd.specs.Rectangles.{IsInside}
use Rattle.m4_mzd.specs.declared.rect.Rect.{Rect}
use Rattle.m4_mzd.proofs.BitRows.{get_or-bits_of, past_kept}
use Rattle.m4_mzd.proofs.WindowLemmas.{at_window, length-row_of_bits}
use Rattle.m4_mzd.proofs.AroundLemmas.{rows_patched, Patch, bit_inside, bit_outside}

-- a value that is one thing in a rectangle and another outside
by_rect : (r0 h c0 n i j x y z : ℕ)
    → (r0 ≤ i → i < r0 + h → c0 ≤ j → j < c0 + n → z ≡ x)
    → ((r0 ≤ i → i < r0 + h → c0 ≤ j → j < c0 + n → ⊥) → z ≡ y)
    → z ≡ cond ((leb r0 i && ltb i (r0 + h)) && (leb c0 j && ltb j (c0 + n))) x y
by_rect r0 h c0 n i j x y z inside outside =
    elim (cases_lt i r0) [
      | inl above ↦ outside (λ a b c d. omega arith) ∙ sym (cond-false _ x y (and_left _ _ (and_left _ _ (lt-leb r0 i above))))
      | inr from ↦ elim (cases_lt i (r0 + h)) [
        | inr below ↦ outside (λ a b c d. omega arith) ∙ sym (cond-false _ x y (and_left _ _ (and_right _ _ (le-ltb i (r0 + h) below))))
        | inl in_rows ↦ elim (cases_lt j c0) [
          | inl left ↦ outside (λ a b c d. omega arith) ∙ sym (cond-false _ x y (and_right _ _ (and_left _ _ (lt-leb c0 j left))))
          | inr past ↦ elim (cases_lt j (c0 + n)) [
            | inr right ↦ outside (λ a b c d. omega arith) ∙ sym (cond-false _ x y (and_right _ _ (and_right _ _ (le-ltb j (c0 + n) right))))
            | inl in_cols ↦
                inside from in_rows past in_cols
                ∙ sym (cond-true _ x y (and_from _ _ (and_from _ _ (le-leb r0 i from) (lt-ltb i (r0 + h) in_rows)) (and_from _ _ (le-leb c0 j past) (lt-ltb j (c0 + n) in_cols))))
          ]
        ]
      ]
    ]

-- a bit past the columns of a row of words
past_bit : (n j : ℕ) (xs : List ℕ) → n ≤ j → get_or (bits_past n xs) (j - n) 0 ≡ bit xs j
past_bit n j xs past =
    let back : n + (j - n) ≡ j = omega arith in
    get_or-drop n (bits_of xs) (j - n) 0 ∙ (get_or-bits_of xs (n + (j - n)) ∙ ap (bit xs) back)

-- what is known when a window is put back: the words before, those of the window, and those afterwards
pub record Put (v part u : Rectangle) (cols : ℕ) (rect : Rect) : Type 0 where
  pub is_held : IsHeld v cols
  pub framed : IsFramed part (rect.c1 - rect.c0)
  pub inside : IsInside rect v.rows cols
  pub whole_words : rect.c0 % 64 ≡ 0
  pub part_rows : part.rows ≡ rect.r1 - rect.r0
  pub past : map (bits_past (rect.c1 - rect.c0)) part.words ≡ map (bits_past (rect.c1 - rect.c0)) (map (take (words_per_row (rect.c1 - rect.c0))) (map (drop (rect.c0 / 64)) (drop rect.r0 (take rect.r1 v.words))))
  pub shape : HasShape u
  pub rows : u.rows ≡ v.rows
  pub width : u.width ≡ v.width
  pub words : u.words ≡ rows_patched rect.r0 rect.r1 (rect.c0 / 64) (words_per_row (rect.c1 - rect.c0)) v.words part.words

module _ (v part u : Rectangle) (cols : ℕ) (rect : Rect) (t : Put v part u cols rect) where
  abbrev p : ℕ
  p = rect.c0 / 64

  abbrev n : ℕ
  n = rect.c1 - rect.c0

  abbrev q : ℕ
  q = words_per_row n

  first : p * 64 ≡ rect.c0
  first = omega (arith, t.whole_words)

  kept_bits : (k j : ℕ) → k < rect.r1 - rect.r0 → n ≤ j → j < q * 64 → bit (row_of part.words k) j ≡ bit (take q (drop p (row_of v.words (rect.r0 + k)))) j
  kept_bits k j below past under =
      let mid = drop rect.r0 (take rect.r1 v.words) in
      let high : length mid ≡ rect.r1 - rect.r0 =
      omega (arith, length-drop rect.r0 (take rect.r1 v.words), length-take-le rect.r1 v.words (omega (arith, t.inside.in_rows, t.is_held.framed.shape.count))) in
      let mine : get_or (map (bits_past n) part.words) k [] ≡ bits_past n (row_of part.words k) =
      get_or-map (bits_past n) part.words k [] [] (omega (arith, t.framed.shape.count, t.part_rows)) in
      let theirs : get_or (map (bits_past n) (map (take q) (map (drop p) mid))) k [] ≡ bits_past n (take q (drop p (row_of v.words (rect.r0 + k)))) =
      get_or-map (bits_past n) (map (take q) (map (drop p) mid)) k [] [] (omega (arith, length-map (map (drop p) mid) (take q), length-map mid (drop p), high))
      ∙ ap (bits_past n) (get_or-map (take q) (map (drop p) mid) k [] [] (omega (arith, length-map mid (drop p), high))
      ∙ ap (take q) (get_or-map (drop p) mid k [] [] (omega (arith, high))
      ∙ ap (drop p) (get_or-drop rect.r0 (take rect.r1 v.words) k [] ∙ get_or-take rect.r1 v.words (rect.r0 + k) [] (omega arith)))) in
      sym (past_bit n j (row_of part.words k) past)
      ∙ ap (λ l. get_or l (j - n) 0) (sym mine ∙ ap (λ l. get_or l k []) t.past ∙ theirs)
      ∙ past_bit n j (take q (drop p (row_of v.words (rect.r0 + k)))) past

  patch : Patch rect.r0 rect.r1 p q n v.words part.words
  patch = record {
    in_order = t.inside.in_order;
    in_rows = omega (arith, t.inside.in_rows, t.is_held.framed.shape.count);
    count = t.framed.shape.count ∙ t.part_rows;
    room = λ i below. omega (arith, row_width v i t.is_held.framed.shape (omega (arith, t.is_held.framed.shape.count)), t.is_held.framed.wide, t.inside.in_cols, t.inside.in_order_across, t.whole_words);
    long = λ k below. row_width part k t.framed.shape (omega (arith, t.part_rows)) ∙ t.framed.wide;
    kept = kept_bits;
  }

  framed_put : IsFramed u cols
  framed_put = record { shape = t.shape; wide = t.width ∙ t.is_held.framed.wide; few_rows = omega (arith, t.rows, t.is_held.framed.few_rows); few_cols = t.is_held.framed.few_cols }

  outside_bits : (i j : ℕ) → i < v.rows → (rect.r0 ≤ i → i < rect.r1 → rect.c0 ≤ j → j < rect.c1 → ⊥) → bit (row_of u.words i) j ≡ bit (row_of v.words i) j
  outside_bits i j below out =
      ap (λ rows. bit (row_of rows i) j) t.words
      ∙ bit_outside rect.r0 rect.r1 p q n v.words part.words patch i j (omega (arith, t.is_held.framed.shape.count))
      (λ a b c d. out a b (omega (arith, first)) (omega (arith, first, t.inside.in_order_across)))

  pub replaced : held u cols ≡ replace (held v cols) rect.r0 rect.c0 (content (window part n))
  replaced =
      same_matrix gf2 v.rows cols _ (held u cols) refl t.rows refl
      (length-map u.words (bits_within cols) ∙ (t.shape.count ∙ t.rows))
      (λ i below. length-row_of_bits u cols i framed_put (omega (arith, t.rows)))
      (λ i j below within.
      at_window u cols i j framed_put (omega (arith, t.rows)) within
      ∙ by_rect rect.r0 part.rows rect.c0 n i j (at (content (window part n)) (i - rect.r0) (j - rect.c0)) (at (held v cols) i j) (bit (row_of u.words i) j)
      (λ from under left right.
      let in_rect : i < rect.r1 = omega (arith, t.part_rows, t.inside.in_order) in
      ap (λ rows. bit (row_of rows i) j) t.words
      ∙ (bit_inside rect.r0 rect.r1 p q n v.words part.words patch i j from in_rect (omega (arith, first)) (omega (arith, first)) (omega arith)
      ∙ (ap (λ m. bit (row_of part.words (i - rect.r0)) (j - m)) first
      ∙ sym (at_window part n (i - rect.r0) (j - rect.c0) t.framed (omega arith) (omega arith)))))
      (λ out.
      outside_bits i j below (λ a b c d. out a (omega (arith, t.part_rows, t.inside.in_order)) c (omega (arith, t.inside.in_order_across)))
      ∙ sym (at_window v cols i j t.is_held.framed below within)))

  pub is_held_put : IsHeld u cols
  is_held_put =
      let same : map (bits_past cols) u.words ≡ map (bits_past cols) v.words =
      same_lists (map (bits_past cols) u.words) (map (bits_past cols) v.words)
      (length-map u.words (bits_past cols) ∙ (t.shape.count ∙ (t.rows ∙ sym (length-map v.words (bits_past cols) ∙ t.is_held.framed.shape.count))))
      (λ i d below.
      let in_u : i < length u.words = omega (arith, length-map u.words (bits_past cols)) in
      let in_v : i < length v.words = omega (arith, t.shape.count, t.rows, t.is_held.framed.shape.count) in
      get_or-map (bits_past cols) u.words i [] d in_u
      ∙ (past_kept cols (row_of v.words i) (row_of u.words i)
      (row_width u i t.shape (omega (arith, t.shape.count)) ∙ (t.width ∙ sym (row_width v i t.is_held.framed.shape (omega (arith, t.is_held.framed.shape.count)))))
      (λ j past. outside_bits i j (omega (arith, t.is_held.framed.shape.count)) (λ a b c e. omega (arith, t.inside.in_cols)))
      ∙ sym (get_or-map (bits_past cols) v.words i [] d in_v))) in
      record { framed = framed_put; padded = subst (All (λ row. row ≡ replicate (length row) 0)) (sym same) t.is_held.padded }
