-- The numbers of a rectangle's parts name the words of their areas.
use Rattle.std.proofs.Common.{◌≡◌, ℕ, zero, suc, max, ◌+◌, ◌-◌, ◌*◌, ◌^◌, ◌<◌, ◌≤◌, List, [], ◌∷◌, ◌++◌, length, take, drop, map, arith, refl, sym, ap, subst, ◌∙◌}
use Rattle.std.proofs.Math.Nat.{mul_assoc}
use Rattle.std.proofs.lemmas.List.Elements.{All-same, All-nil, All-cons}
use Rattle.std.specs.List.{All, concat}
use Rattle.std.specs.Simd.Lanes.{zip2}
use denote.RawPtr.{Ptr, block_ptr, count_of}
use Rattle.m4_area.specs.AreaLending.{row_left}
use Rattle.m4_area.specs.Rows.{row_of}
use Rattle.m4_area.specs.Strided.{IsRowAt}
use Rattle.m4_area.specs.Rectangle.{Rectangle}
use Rattle.m4_area.specs.Storage.{rows_of}
use Rattle.m4_area.specs.Tied.{rectangle, IsTied}
use Rattle.m4_area.specs.declared.area.Area.{Area}
use Rattle.m4_area.specs.declared.words.Words.TheInside.{Inside}
use Rattle.m4_area.proofs.RowLemmas.{length-rows_of, widths-rows_of, length-concat}
use Rattle.m4_area.proofs.ShapeLemmas.{shape_below, shape_left, shape_right, shape_beside, shape_row, row_width}

-- so many rows, in bytes
pub rows_in_bytes : (r step stride : ℕ) → step ≡ stride * 8 → r * step ≡ r * stride * 8
rows_in_bytes r step stride e = ap (λ k. r * k) e ∙ sym (mul_assoc r stride 8)

pub row_at : (w : Inside) (r : ℕ) → IsTied w → IsRowAt w.area.block w.area.first w.area.step w.base (w.skip + r * w.stride) r
row_at w r t = record { within = t.within; byte = omega (arith, t.first, rows_in_bytes r w.area.step w.stride t.step) }

pub tied_below : (w : Inside) (r : ℕ) (a : Area) → IsTied w → r ≤ w.rows
    → a ≡ record w.area { first = w.area.first + r * w.area.step; rows = drop r w.area.rows }
    → IsTied (record w { skip = w.skip + r * w.stride; rows = w.rows - r; area = a })
tied_below w r a t h e =
    let P : Area → Type 0 = λ x. IsTied (record w { skip = w.skip + r * w.stride; rows = w.rows - r; area = x }) in
    subst P (sym e) (record {
      within = t.within;
      first = omega (arith, t.first, rows_in_bytes r w.area.step w.stride t.step);
      step = t.step;
      shape = shape_below (rectangle w) r t.shape h;
    })

pub tied_left : (w : Inside) (n : ℕ) (a : Area) → IsTied w → n ≤ w.width → a ≡ record w.area { rows = map (take n) w.area.rows }
    → IsTied (record w { width = n; area = a })
tied_left w n a t h e =
    let P : Area → Type 0 = λ x. IsTied (record w { width = n; area = x }) in
    subst P (sym e) (record { within = t.within; first = t.first; step = t.step; shape = shape_left (rectangle w) n t.shape h })

pub tied_right : (w : Inside) (n : ℕ) (a : Area) → IsTied w → n ≤ w.width
    → a ≡ record w.area { first = w.area.first + n * 8; rows = map (drop n) w.area.rows }
    → IsTied (record w { skip = w.skip + n; width = w.width - n; area = a })
tied_right w n a t h e =
    let P : Area → Type 0 = λ x. IsTied (record w { skip = w.skip + n; width = w.width - n; area = x }) in
    subst P (sym e) (record {
      within = t.within;
      first = omega (arith, t.first);
      step = t.step;
      shape = shape_right (rectangle w) n t.shape h;
    })

-- where the second of two areas begins
pub stacked_first : (w b : Inside) → IsTied w → IsTied b → (rectangle b).place ≡ (rectangle w).place → b.skip ≡ w.skip + w.rows * w.stride
    → b.area.first ≡ w.area.first + length w.area.rows * w.area.step
stacked_first w b t s place meets =
    let base : count_of b.base ≡ count_of w.base = ap (λ p. p.base) place in
    let rows : length w.area.rows * w.area.step ≡ w.rows * w.area.step = ap (λ k. k * w.area.step) t.shape.count in
    omega (arith, t.first, s.first, rows_in_bytes w.rows w.area.step w.stride t.step)

pub tied_beside : (w b : Inside) (a : Area) → IsTied w → IsTied b → (rectangle b).place ≡ (rectangle w).place → b.rows ≡ w.rows → b.skip ≡ w.skip + w.width
    → a ≡ record w.area { rows = zip2 (λ l r. l ++ r) w.area.rows b.area.rows }
    → IsTied (record w { width = w.width + b.width; area = a })
tied_beside w b a t s place rows meets e =
    let P : Area → Type 0 = λ x. IsTied (record w { width = w.width + b.width; area = x }) in
    subst P (sym e) (record {
      within = t.within;
      first = t.first;
      step = t.step;
      shape = shape_beside (rectangle w) (rectangle b) t.shape s.shape place rows meets;
    })

-- the same behind other words
rows_behind : (rows width stride skip : ℕ) → stride ≡ max width 1 → skip + rows * width + rows + width < 2 ^ 60 → skip + rows * stride + width < 2 ^ 60
rows_behind rows zero stride skip e h =
    let one : rows * stride ≡ rows * 1 = ap (λ k. rows * k) e in
    omega arith
rows_behind rows (suc width) stride skip e h =
    let same : stride ≡ suc width = omega arith in
    let all : rows * stride ≡ rows * suc width = ap (λ k. rows * k) same in
    omega arith

-- the rows of a whole rectangle take no more than its words, and one where it has none
rows_small : (rows width stride : ℕ) → stride ≡ max width 1 → rows * width + rows + width < 2 ^ 60 → 0 + rows * stride + width < 2 ^ 60
rows_small rows width stride e h = rows_behind rows width stride 0 e (omega (arith, h))

pub tied_whole : (base : Ptr) (rows width stride : ℕ) (a : Area) (words : List ℕ) → base ≡ block_ptr a.block a.first → a.step ≡ stride * 8 → a.rows ≡ rows_of rows width words
    → length words ≡ rows * width → rows * width + rows + width < 2 ^ 60 → stride ≡ max width 1
    → IsTied (record { base = base; skip = 0; rows = rows; width = width; stride = stride; area = a })
tied_whole base rows width stride a words at step in_rows count small strided =
    let here : count_of base ≡ a.first = ap count_of at in
    record {
      within = at ∙ ap (λ k. block_ptr a.block k) (sym here);
      first = omega arith;
      step = step;
      shape = record {
        strided = omega arith;
        count = ap length in_rows ∙ length-rows_of rows width words;
        widths = All-same (λ row. length row ≡ width) a.rows (rows_of rows width words) in_rows (widths-rows_of rows width words count);
        small = rows_small rows width stride strided small;
      };
    }

-- one row of words, as rows that follow each other with no gap
pub tied_folded : (w : Inside) (rows width stride : ℕ) (a : Area) → IsTied w → w.rows ≡ 1 → w.width ≡ rows * width
    → w.skip + w.width + rows + width < 2 ^ 60 → stride ≡ max width 1
    → a ≡ record w.area { step = stride * 8; rows = rows_of rows width (row_of w.area.rows 0) }
    → IsTied (record w { rows = rows; width = width; stride = stride; area = a })
tied_folded w rows width stride a t one all small strided e =
    let P : Area → Type 0 = λ x. IsTied (record w { rows = rows; width = width; stride = stride; area = x }) in
    let count : length (row_of w.area.rows 0) ≡ rows * width = row_width (rectangle w) 0 t.shape (omega arith) ∙ all in
    subst P (sym e) (record {
      within = t.within;
      first = t.first;
      step = refl;
      shape = record {
        strided = omega arith;
        count = length-rows_of rows width (row_of w.area.rows 0);
        widths = widths-rows_of rows width (row_of w.area.rows 0) count;
        small = rows_behind rows width stride w.skip strided (omega arith);
      };
    })

-- and rows that follow each other with no gap, as one row
pub tied_unfolded : (w : Inside) (stride : ℕ) (a : Area) → IsTied w → 0 < stride → w.skip + stride + w.rows * w.width < 2 ^ 60
    → a ≡ record w.area { step = stride * 8; rows = concat w.area.rows ∷ [] }
    → IsTied (record w { rows = 1; width = w.rows * w.width; stride = stride; area = a })
tied_unfolded w stride a t some small e =
    let P : Area → Type 0 = λ x. IsTied (record w { rows = 1; width = w.rows * w.width; stride = stride; area = x }) in
    let count : length (concat w.area.rows) ≡ w.rows * w.width = length-concat w.width w.area.rows t.shape.widths ∙ ap (λ k. k * w.width) t.shape.count in
    subst P (sym e) (record {
      within = t.within;
      first = t.first;
      step = refl;
      shape = record {
        strided = some;
        count = refl;
        widths = All-cons (λ row. length row ≡ w.rows * w.width) (concat w.area.rows) [] count (All-nil (λ row. length row ≡ w.rows * w.width));
        small = omega arith;
      };
    })

-- Facts about what contracts see of two rectangles, told of their numbers.
module _ (x y v u : Rectangle) (sees_x : x ≡ v) (sees_y : y ≡ u) where
  pub place_told : u.place ≡ v.place → y.place ≡ x.place
  place_told h = ap (λ r. r.place) sees_y ∙ h ∙ sym (ap (λ r. r.place) sees_x)

  pub rows_told : u.rows ≡ v.rows → y.rows ≡ x.rows
  rows_told h = ap (λ r. r.rows) sees_y ∙ h ∙ sym (ap (λ r. r.rows) sees_x)

  pub below_told : u.skip ≡ v.skip + v.rows * v.place.stride → y.skip ≡ x.skip + x.rows * x.place.stride
  below_told h = ap (λ r. r.skip) sees_y ∙ h ∙ sym (ap (λ r. r.skip + r.rows * r.place.stride) sees_x)

  pub beside_told : u.skip ≡ v.skip + v.width → y.skip ≡ x.skip + x.width
  beside_told h = ap (λ r. r.skip) sees_y ∙ h ∙ sym (ap (λ r. r.skip + r.width) sees_x)

pub tied_row : (w : Inside) (r : ℕ) (new : List ℕ) → IsTied w → r < w.rows → IsTied (record w { area = row_left w.area r new })
tied_row w r new t h = record { within = t.within; first = t.first; step = t.step; shape = shape_row (rectangle w) r new t.shape h }
