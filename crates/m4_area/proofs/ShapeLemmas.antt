-- The parts of a rectangle have a rectangle's shape, and so has what they are joined to.
use Rattle.std.proofs.Common.{◌≡◌, ℕ, ◌+◌, ◌-◌, ◌*◌, ◌<◌, ◌≤◌, List, [], ◌++◌, length, take, drop, map, arith, sym, ap, ◌∙◌}
use Rattle.std.proofs.Math.Nat.{add-mul, mul-le-mul_right}
use Rattle.std.specs.Simd.Lanes.{zip2}
use Rattle.std.proofs.lemmas.List.{length-append, length-drop, length-take-le, length-map}
use Rattle.std.proofs.lemmas.List.Elements.{All-take, All-drop, All-append, All-map, All-set, All-get_or, All-from_get_or, All-weaker}
use Rattle.std.proofs.lemmas.Simd.{length-zip2, get_or-zip2}
use Rattle.std.proofs.Math.ListN.{length-set}
use Rattle.m4_area.specs.Rows.{row_of, with_row, refill}
use Rattle.m4_area.specs.Rectangle.{Rectangle, HasShape}
use Rattle.m4_area.proofs.RowLemmas.{length_refill}

-- so many rows above, and the others
pub rows_less : (r rows stride : ℕ) → r ≤ rows → r * stride + (rows - r) * stride ≡ rows * stride
rows_less r rows stride h =
    let whole : r + (rows - r) ≡ rows = omega arith in
    sym (add-mul r (rows - r) stride) ∙ ap (λ k. k * stride) whole

pub row_before : (r rows stride : ℕ) → r ≤ rows → r * stride ≤ rows * stride
row_before r rows stride h = mul-le-mul_right stride h

pub shape_below : (v : Rectangle) (r : ℕ) → HasShape v → r ≤ v.rows
    → HasShape (record v { skip = v.skip + r * v.place.stride; rows = v.rows - r; words = drop r v.words })
shape_below v r s h = record {
  strided = s.strided;
  count = omega (arith, length-drop r v.words, s.count);
  widths = All-drop (λ row. length row ≡ v.width) r v.words s.widths;
  small = omega (arith, s.small, rows_less r v.rows v.place.stride h);
}

pub shape_left : (v : Rectangle) (w : ℕ) → HasShape v → w ≤ v.width → HasShape (record v { width = w; words = map (take w) v.words })
shape_left v w s h = record {
  strided = s.strided;
  count = length-map v.words (take w) ∙ s.count;
  widths = All-map (λ row. length row ≡ w) (take w) v.words
      (All-weaker (λ row. length row ≡ v.width) (λ row. length (take w row) ≡ w) (λ row e. length-take-le w row (omega arith)) v.words s.widths);
  small = omega (arith, s.small);
}

pub shape_right : (v : Rectangle) (w : ℕ) → HasShape v → w ≤ v.width
    → HasShape (record v { skip = v.skip + w; width = v.width - w; words = map (drop w) v.words })
shape_right v w s h = record {
  strided = s.strided;
  count = length-map v.words (drop w) ∙ s.count;
  widths = All-map (λ row. length row ≡ v.width - w) (drop w) v.words
      (All-weaker (λ row. length row ≡ v.width) (λ row. length (drop w row) ≡ v.width - w) (λ row e. omega (arith, length-drop w row)) v.words s.widths);
  small = omega (arith, s.small);
}

pub shape_beside : (v b : Rectangle) → HasShape v → HasShape b → b.place ≡ v.place → b.rows ≡ v.rows → b.skip ≡ v.skip + v.width
    → HasShape (record v { width = v.width + b.width; words = zip2 (λ l r. l ++ r) v.words b.words })
shape_beside v b s t place rows meets =
    let same : length v.words ≡ length b.words = omega (arith, s.count, t.count) in
    let count : length (zip2 (λ l r. l ++ r) v.words b.words) ≡ length v.words = length-zip2 (λ l r. l ++ r) v.words b.words same in
    let stride : b.rows * b.place.stride ≡ v.rows * v.place.stride = ap (λ k. k * b.place.stride) rows ∙ ap (λ p. v.rows * p.stride) place in
    record {
      strided = s.strided;
      count = count ∙ s.count;
      widths = All-from_get_or (λ row. length row ≡ v.width + b.width) (zip2 (λ l r. l ++ r) v.words b.words) [] (λ i l.
          let in_left : i < length v.words = omega arith in
          let in_right : i < length b.words = omega arith in
          ap length (get_or-zip2 (λ l r. l ++ r) v.words b.words i [] [] [] in_left in_right)
          ∙ omega (arith, length-append (row_of v.words i) (row_of b.words i), All-get_or (λ row. length row ≡ v.width) v.words i [] in_left s.widths, All-get_or (λ row. length row ≡ b.width) b.words i [] in_right t.widths));
      small = omega (arith, t.small);
    }

pub shape_row : (v : Rectangle) (r : ℕ) (new : List ℕ) → HasShape v → r < v.rows → HasShape (record v { words = with_row v.words r new })
shape_row v r new s h = record {
  strided = s.strided;
  count = length-set v.words r (refill (row_of v.words r) new) ∙ s.count;
  widths = All-set (λ row. length row ≡ v.width) v.words r (refill (row_of v.words r) new)
      (length_refill (row_of v.words r) new ∙ All-get_or (λ row. length row ≡ v.width) v.words r [] (omega (arith, s.count)) s.widths) s.widths;
  small = s.small;
}

-- a row of a rectangle has as many words as the rectangle is wide
pub row_width : (v : Rectangle) (r : ℕ) → HasShape v → r < v.rows → length (row_of v.words r) ≡ v.width
row_width v r s h = All-get_or (λ row. length row ≡ v.width) v.words r [] (omega (arith, s.count)) s.widths
