use Rattle.std.proofs.Common.{rules, ◌≡◌, ℕ, ◌-◌, ◌*◌, ◌^◌, ◌≤◌, ap, refl, subst, sym, ◌∙◌, arith}
use Rattle.m4_mzd.specs.Seen.{shown}
use Rattle.m4_mzd.specs.Span.{Span}
use Rattle.m4_mzd.proofs.SeenLemmas.{IsMatrix_shown}
use Rattle.m4_karatsuba.specs.Counts.{karatsuba}
use Rattle.m4_karatsuba.specs.Factors.{product_of, middle_of}
use Rattle.m4_karatsuba.specs.Rooms.{room_words}
use Rattle.m4_karatsuba.proofs.CountLemmas.{karatsuba-one}
use Rattle.m4_karatsuba.proofs.PlaceLemmas.{low_falls, high_falls, middle_falls, low_first, low_second, high_first, high_second, low_room, high_room, middle_room, low_reached, high_reached, counts}
use Rattle.m4_karatsuba.proofs.SliceLemmas.{fits_above, single, held, placed, placed_twice, sums_product, same_added, slices_of, three_added}
use Rattle.m4_karatsuba.proofs.recursion.+parts.Goals as goal

-- one slice
pub add_by_parts-returns-clause-sum : goal.add_by_parts-returns-clause-sum
add_by_parts-returns-clause-sum g t c =
    single c.args.factors.now c.args.c.now c.counted.new.c c.requires.factors (omega arith) c.requires.slices c.counted.ensures.sum

pub add_by_parts-returns-clause-ticks : goal.add_by_parts-returns-clause-ticks
add_by_parts-returns-clause-ticks g t c =
    let one : karatsuba c.args.factors.now.count ≡ 1 = karatsuba-one c.args.factors.now.count c.requires.factors.some (omega arith) in
    omega (arith, one, c.counted.ensures.ticks)

-- the sums of both halves
pub add_middle-set_sum-requires-clause-high_rows : goal.add_middle-set_sum-requires-clause-high_rows
add_middle-set_sum-requires-clause-high_rows g t c =
    fits_above c.args.low.now.count c.args.high.now.count _ c.args.high.now.shape.m c.args.low.now.shape.m _ c.requires.no_more
    c.requires.high.a_rows (ap (λ s. s.m) c.requires.same_shape) c.carve-a.ensures.rows

pub add_middle-set_sum-requires-2-clause-high_rows : goal.add_middle-set_sum-requires-2-clause-high_rows
add_middle-set_sum-requires-2-clause-high_rows g t c =
    fits_above c.args.low.now.count c.args.high.now.count _ c.args.high.now.shape.l c.args.low.now.shape.l _ c.requires.no_more
    c.requires.high.b_rows (ap (λ s. s.l) c.requires.same_shape) c.carve-b.ensures.rows

pub add_middle-returns-clause-sum : goal.add_middle-returns-clause-sum
add_middle-returns-clause-sum g t c = λ count slices room.
    let low = c.args.low.now in
    let high = c.args.high.now in
    same_added count low.shape c.args.c.now c.add_once.new.c _ (λ i j. middle_of low high i j * 2 ^ low.count) (c.add_once.ensures.sum count slices room)
    (λ i j below within. ap (λ x. x * 2 ^ low.count)
    (sums_product low high c.carve-a.result c.set_sum.new.sum c.carve-b.result c.set_sum-2.new.sum _ _ c.requires.low c.requires.high c.requires.same_shape c.requires.no_more
    c.set_sum.ensures c.set_sum-2.ensures c.see.ensures c.see-2.ensures i j below within))

-- places
pub add_once-returns-clause-sum : goal.add_once-returns-clause-sum
add_once-returns-clause-sum g t c = λ count slices room.
    let f = c.args.factors.now in
    placed count (2 * f.count - 1) c.args.place f.shape c.args.c.now c.product_in_room-product.result c.add_rows_from.new.dst (shown c.see.result) (product_of f)
    slices room c.product_in_room-product.ensures.product (IsMatrix_shown c.see.result) c.see.ensures c.add_rows_from.ensures

pub add_twice-returns-clause-sum : goal.add_twice-returns-clause-sum
add_twice-returns-clause-sum g t c = λ count slices room more.
    let f = c.args.factors.now in
    placed_twice count (2 * f.count - 1) c.args.places.0 c.args.places.1 f.shape c.args.c.now c.product_in_room-product.result c.add_rows_from.new.dst c.add_rows_from-2.new.dst
    (shown c.see.result) (shown c.see-2.result) (product_of f) slices room more c.product_in_room-product.ensures.product
    (IsMatrix_shown c.see.result) (IsMatrix_shown c.see-2.result) c.see.ensures c.see-2.ensures c.add_rows_from.ensures c.add_rows_from-2.ensures

-- a product in the room
pub product_in_room-returns-clause-product : goal.product_in_room-returns-clause-product
product_in_room-returns-clause-product g t c =
    let f = c.args.factors.now in
    held (2 * f.count - 1) f.shape c.carve-product.result c.clear.new.self c.add_by_parts.new.c (product_of f)
    c.carve-product.ensures.rows c.carve-product.ensures.cols c.clear.ensures c.add_by_parts.ensures.sum

-- three products
pub add_by_halves-add_twice-requires : goal.add_by_halves-add_twice-requires
add_by_halves-add_twice-requires g t c κs within =
    let f = c.args.factors.now in
    let low = c.halves.result.0 in
    let high = c.halves.result.1 in
    let w = c.args.c.now in
    let words = c.args.room.now.left in
    let falls = low_falls f low high w.rows words c.requires.factors c.halves.ensures c.requires.some c.requires.slices.rows c.requires.enough in
    let first = low_first f low high w.rows words c.requires.factors c.halves.ensures c.requires.some c.requires.slices.rows c.requires.enough in
    let second = low_second f low high w.rows words c.requires.factors c.halves.ensures c.requires.some c.requires.slices.rows c.requires.enough in
    let cols : w.cols ≡ low.shape.n = c.requires.slices.cols ∙ ap (λ s. s.n) (sym c.halves.ensures.low_shape) in
    let room = low_room f low high w.rows words c.requires.factors c.halves.ensures c.requires.some c.requires.slices.rows c.requires.enough in
    let reached = low_reached f low high w.rows words c.requires.factors c.halves.ensures c.requires.some c.requires.slices.rows c.requires.enough _ c.requires.reached in
    search (rules, falls, first, second, cols, room, reached)

pub add_by_halves-add_twice-requires-2 : goal.add_by_halves-add_twice-requires-2
add_by_halves-add_twice-requires-2 g t c κs within =
    let f = c.args.factors.now in
    let low = c.halves.result.0 in
    let high = c.halves.result.1 in
    let w = c.add_twice.new.c in
    let words = c.add_twice.new.room.left in
    let rows : w.rows ≡ (2 * f.count - 1) * f.shape.m = c.add_twice.ensures.rows ∙ c.requires.slices.rows in
    let enough : room_words f.count f.shape ≤ words = subst (λ (r : Span). room_words f.count f.shape ≤ r.left) (sym c.add_twice.ensures.room) c.requires.enough in
    let falls = high_falls f low high w.rows words c.requires.factors c.halves.ensures c.requires.some rows enough in
    let first = high_first f low high w.rows words c.requires.factors c.halves.ensures c.requires.some rows enough in
    let second = high_second f low high w.rows words c.requires.factors c.halves.ensures c.requires.some rows enough in
    let cols : w.cols ≡ high.shape.n = c.add_twice.ensures.cols ∙ c.requires.slices.cols ∙ ap (λ s. s.n) (sym c.halves.ensures.high_shape) in
    let room = high_room f low high w.rows words c.requires.factors c.halves.ensures c.requires.some rows enough in
    let reached = high_reached f low high w.rows words c.requires.factors c.halves.ensures c.requires.some rows enough _ c.requires.reached in
    search (rules, falls, first, second, cols, room, reached)

pub add_by_halves-add_middle-requires : goal.add_by_halves-add_middle-requires
add_by_halves-add_middle-requires g t c κs within =
    let f = c.args.factors.now in
    let low = c.halves.result.0 in
    let high = c.halves.result.1 in
    let w = c.add_twice-2.new.c in
    let words = c.add_twice-2.new.room.left in
    let rows : w.rows ≡ (2 * f.count - 1) * f.shape.m = c.add_twice-2.ensures.rows ∙ c.add_twice.ensures.rows ∙ c.requires.slices.rows in
    let enough : room_words f.count f.shape ≤ words = subst (λ (r : Span). room_words f.count f.shape ≤ r.left) (sym (c.add_twice-2.ensures.room ∙ c.add_twice.ensures.room)) c.requires.enough in
    let falls = middle_falls f low high w.rows words c.requires.factors c.halves.ensures c.requires.some rows enough in
    let place = low_second f low high w.rows words c.requires.factors c.halves.ensures c.requires.some rows enough in
    let same : high.shape ≡ low.shape = c.halves.ensures.high_shape ∙ sym c.halves.ensures.low_shape in
    let more : high.count ≤ low.count = omega (arith, c.halves.ensures.low_count, c.halves.ensures.high_count, c.requires.some) in
    let cols : w.cols ≡ low.shape.n = c.add_twice-2.ensures.cols ∙ c.add_twice.ensures.cols ∙ c.requires.slices.cols ∙ ap (λ s. s.n) (sym c.halves.ensures.low_shape) in
    let room = middle_room f low high w.rows words c.requires.factors c.halves.ensures c.requires.some rows enough in
    let reached = low_reached f low high w.rows words c.requires.factors c.halves.ensures c.requires.some rows enough _ c.requires.reached in
    search (rules, falls, place, same, more, cols, room, reached)

pub add_by_halves-returns-clause-sum : goal.add_by_halves-returns-clause-sum
add_by_halves-returns-clause-sum g t c =
    let f = c.args.factors.now in
    let low = c.halves.result.0 in
    let high = c.halves.result.1 in
    let n : ℕ = 2 * f.count - 1 in
    let is = c.halves.ensures in
    let w0 = c.args.c.now in
    let w1 = c.add_twice.new.c in
    let w2 = c.add_twice-2.new.c in
    three_added f low high w0 w1 w2 c.add_middle.new.c n is c.requires.some
    (c.add_twice.ensures.sum n (slices_of n f.shape low.shape w0 w0 is.low_shape c.requires.slices refl refl)
    (omega (arith, is.low_count, c.requires.some)) (omega (arith, is.low_count, c.requires.some)))
    (c.add_twice-2.ensures.sum n (slices_of n f.shape high.shape w0 w1 is.high_shape c.requires.slices c.add_twice.ensures.rows c.add_twice.ensures.cols)
    (omega (arith, is.low_count, is.high_count, c.requires.some)) (omega (arith, is.low_count, is.high_count, c.requires.some)))
    (c.add_middle.ensures.sum n (slices_of n f.shape low.shape w0 w2 is.low_shape c.requires.slices (c.add_twice-2.ensures.rows ∙ c.add_twice.ensures.rows) (c.add_twice-2.ensures.cols ∙ c.add_twice.ensures.cols))
    (omega (arith, is.low_count, c.requires.some)))

pub add_by_halves-returns-clause-ticks : goal.add_by_halves-returns-clause-ticks
add_by_halves-returns-clause-ticks g t c =
    let all = counts c.args.factors.now c.halves.result.0 c.halves.result.1 c.args.c.now.rows c.args.room.now.left c.requires.factors c.halves.ensures c.requires.some c.requires.slices.rows c.requires.enough in
    omega (arith, all, c.add_twice.ensures.ticks, c.add_twice-2.ensures.ticks, c.add_middle.ensures.ticks)
