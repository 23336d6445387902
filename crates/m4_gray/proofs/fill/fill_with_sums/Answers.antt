use Rattle.std.proofs.Common.{◌≡◌, ◌+◌, ◌*◌, ◌%◌, ◌^◌, ◌≤◌, suc, replicate, sym, ap, lit<, ◌∙◌, arith}
use Rattle.std.proofs.Math.Nat.{pow-suc, pow-le-pow_right}
use Rattle.std.proofs.lemmas.Nat.{pow_pos}
use Rattle.m4_model.specs.Matrix.{row}
use Rattle.m4_mzd.specs.Window.{Window}
use Rattle.m4_mzd.specs.Seen.{shown}
use Rattle.m4_gray.specs.Slots.{subset_sums, doubled}
use Rattle.m4_gray.proofs.SlotLemmas.{height-is}
use Rattle.m4_gray.proofs.FillLemmas.{row-none, filled-one, filled-doubled, filled-all}
use Rattle.m4_gray.proofs.fill.fill_with_sums.Goals as goal

pub loop-bit-init : goal.loop-bit-init
loop-bit-init g c =
    let B = shown c.args.b.now in
    record {
      part =
          filled-one c.args.part.now c.clear_row.new.self (subset_sums B c.args.first c.args.bits) _ c.rows-rows_of_part.ensures.shape.matrix.height
          (omega (arith, c.requires.rows, pow_pos c.args.bits))
          (ap (λ n. replicate n 0) c.requires.cols ∙ sym (row-none B c.args.first c.args.bits)) c.clear_row.ensures;
      ticks = omega arith;
    }

pub double-requires : goal.double-requires
double-requires g c =
    let bit = c.loop-bit.bit in
    let height : 1 * 2 ^ bit % 2 ^ 32 ≡ 2 ^ bit = height-is bit (omega (arith, c.requires.few)) in
    let power : 2 ^ suc bit ≤ 2 ^ c.args.bits = pow-le-pow_right (lit< tt) (omega (arith, c.loop-bit-test.true)) in
    let same = c.loop-bit.invariant.part.same in
    record {
      room = omega (arith, height, power, pow-suc 2 bit, c.requires.rows, ap (λ (w : Window). w.rows) same);
      cols = ap (λ (w : Window). w.cols) same ∙ c.requires.cols;
      in_rows = omega (arith, c.requires.in_rows, c.loop-bit-test.true);
    }

pub loop-bit-preserved : goal.loop-bit-preserved
loop-bit-preserved g c =
    let B = shown c.args.b.now in
    let bit = c.loop-bit.bit in
    let part = c.args.part.now in
    let height : 1 * 2 ^ bit % 2 ^ 32 ≡ 2 ^ bit = height-is bit (omega (arith, c.requires.few)) in
    let power : 2 ^ suc bit ≤ 2 ^ c.args.bits = pow-le-pow_right (lit< tt) (omega (arith, c.loop-bit-test.true)) in
    let next : bit + 1 ≡ suc bit = omega arith in
    let twice : 2 ^ (bit + 1) ≡ 2 ^ suc bit = ap (λ n. 2 ^ n) next in
    record {
      part = filled-doubled part c.loop-bit.part c.double.new.part B c.args.first c.args.bits bit _ c.rows-rows.ensures.matrix c.requires.in_rows c.loop-bit-test.true twice
          (omega (arith, power, pow-suc 2 bit, c.requires.rows))
          (c.double.ensures.doubled ∙ ap (λ n. record c.loop-bit.part { bits = doubled n (row B (c.args.first + bit)) c.loop-bit.part.bits }) height)
          c.loop-bit.invariant.part;
      ticks = omega (arith, c.double.ensures.ticks, c.loop-bit.invariant.ticks, height, twice, pow-suc 2 bit);
    }

pub returns-clause-sums : goal.returns-clause-sums
returns-clause-sums g c =
    filled-all c.args.part.now c.loop-bit.part (shown c.args.b.now) c.args.first c.args.bits (2 ^ c.loop-bit.bit) c.requires.rows
    (pow-le-pow_right (lit< tt) (omega (arith, c.loop-bit.auto.bit-end, c.loop-bit-test.false))) c.loop-bit.invariant.part
