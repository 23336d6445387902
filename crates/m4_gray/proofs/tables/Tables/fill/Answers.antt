use Rattle.std.proofs.Common.{◌≡◌, ◌+◌, ◌*◌, ◌%◌, ◌^◌, ◌<◌, ◌≤◌, ◌-◌, refl, ap, ◌∙◌, arith}
use Rattle.m4_model.specs.Matrix.{Matrix}
use Rattle.m4_model.specs.Shapes.{replace}
use Rattle.m4_mzd.specs.Seen.{shown}
use Rattle.m4_gray.specs.Slots.{Slots, filled, subset_sums}
use Rattle.m4_mzd.specs.declared.rect.Rect.{Rect}
use Rattle.m4_gray.proofs.PutLemmas.{still_around, replaced_by}
use Rattle.m4_gray.proofs.SlotLemmas.{begin-is, height-is, room-in_slot}
use Rattle.m4_gray.proofs.tables.Tables.fill.Given.{Over}
use Rattle.m4_gray.proofs.tables.Tables.fill.Goals.{After-rows-rows}
use Rattle.m4_gray.proofs.tables.Tables.fill.Goals as goal

pub win_mut-part-requires-clause-inside : goal.win_mut-part-requires-clause-inside
win_mut-part-requires-clause-inside g c =
    let s = c.self.invariant in
    let k = c.self.inside.k in
    let in_slots : c.args.slot < c.self.inside.count = omega (arith, c.requires.slot, ap (λ (t : Slots). t.count) c.self.view_is) in
    let few : c.args.bits ≤ k = omega (arith, c.requires.few, ap (λ (t : Slots). t.k) c.self.view_is) in
    let begin : c.args.slot * 2 ^ k % 2 ^ 32 ≡ c.args.slot * 2 ^ k = begin-is c.args.slot k (omega (arith, in_slots, s.few)) s.few_bits in
    let height : 1 * 2 ^ c.args.bits % 2 ^ 32 ≡ 2 ^ c.args.bits = height-is c.args.bits (omega (arith, few, s.few_bits)) in
    let room = room-in_slot c.args.slot c.self.inside.count k c.args.bits in_slots few in
    record {
      in_order = omega arith;
      in_order_across = omega arith;
      in_rows = omega (arith, begin, height, room, s.rows);
      in_cols = omega (arith, c.cols.ensures.cols, c.requires.in_cols, ap (λ (t : Slots). t.entries.cols) c.self.view_is);
    }

pub put_win-requires : goal.put_win-requires
put_win-requires g c =
    let E = c.self.inside.entries in
    let S = subset_sums (shown c.args.b.now) c.args.first c.args.bits in
    let begin = c.args.slot * 2 ^ c.self.inside.k % 2 ^ 32 in
    let rect : Rect = record { r0 = begin; c0 = 0; r1 = begin + 1 * 2 ^ c.args.bits % 2 ^ 32; c1 = c.cols.result } in
    record {
      fits = record {
        rect = rect;
        matrix = E;
        is = still_around c.win_mut-part.result.1 c.win_mut-part.result.0 c.fill_with_sums.new.part rect E S c.win_mut-part.ensures.whatever_it_shows c.fill_with_sums.ensures.sums;
      };
    }

-- the sums stand in the place of the slot's first entries
slot_replaced : (g : Over) → (c : After-rows-rows g)
    → c.put_win.new.self ≡ replace c.self.inside.entries (c.args.slot * 2 ^ c.self.inside.k % 2 ^ 32) 0 (subset_sums (shown c.args.b.now) c.args.first c.args.bits)
slot_replaced g c =
    let B = shown c.args.b.now in
    let S = subset_sums B c.args.first c.args.bits in
    let E = c.self.inside.entries in
    let k = c.self.inside.k in
    let part = c.win_mut-part.result.0 in
    let begin = c.args.slot * 2 ^ k % 2 ^ 32 in
    let rect : Rect = record { r0 = begin; c0 = 0; r1 = begin + 1 * 2 ^ c.args.bits % 2 ^ 32; c1 = c.cols.result } in
    let few : c.args.bits ≤ 8 = omega (arith, c.requires.few, ap (λ (t : Slots). t.k) c.self.view_is, c.self.invariant.few_bits) in
    let height : 1 * 2 ^ c.args.bits % 2 ^ 32 ≡ 2 ^ c.args.bits = height-is c.args.bits few in
    let rows : rect.r1 - rect.r0 ≡ S.rows = omega (arith, height) in
    let cols : rect.c1 - rect.c0 ≡ S.cols = omega (arith, c.cols.ensures.cols) in
    let written = c.fill_with_sums.ensures.sums in
    replaced_by part c.fill_with_sums.new.part rect E S c.put_win.new.self refl rows cols c.win_mut-part.ensures.content written
    (c.put_win.ensures rect E (still_around c.win_mut-part.result.1 part c.fill_with_sums.new.part rect E S c.win_mut-part.ensures.whatever_it_shows written))

pub invariant_of-self : goal.invariant_of-self
invariant_of-self g c =
    let whole = slot_replaced g c in
    let s = c.self.invariant in
    record {
      some_bits = s.some_bits;
      few_bits = s.few_bits;
      some = s.some;
      few = s.few;
      matrix = c.rows-rows.ensures.matrix;
      over_gf2 = c.rows-rows.ensures.over_gf2;
      rows = ap (λ (A : Matrix). A.rows) whole ∙ s.rows;
      few_cols = c.rows-rows.ensures.few_cols;
    }

pub returns-clause-sums : goal.returns-clause-sums
returns-clause-sums g c =
    let S = subset_sums (shown c.args.b.now) c.args.first c.args.bits in
    let E = c.self.inside.entries in
    let k = c.self.inside.k in
    let in_slots : c.args.slot < c.self.inside.count = omega (arith, c.requires.slot, ap (λ (t : Slots). t.count) c.self.view_is) in
    let place : c.args.slot * 2 ^ k % 2 ^ 32 ≡ c.args.slot * 2 ^ k = begin-is c.args.slot k (omega (arith, in_slots, c.self.invariant.few)) c.self.invariant.few_bits in
    ap (λ A. record { k = k; count = c.self.inside.count; entries = A }) (slot_replaced g c ∙ ap (λ r. replace E r 0 S) place)
    ∙ ap (λ (t : Slots). filled t c.args.slot S) c.self.view_is
