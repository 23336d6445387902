use Rattle.std.proofs.Common.{◌<◌, length, refl, arith}
use Rattle.m4_gray.proofs.SlotLemmas.{numbered-fits, numbered-more, numbered-all}
use Rattle.m4_gray.proofs.tables.numbered_by.Goals as goal

pub overflow_add-numbers : goal.overflow_add-numbers
overflow_add-numbers g c =
    let within : c.loop-slot.slot < length c.args.index.now = omega (arith, c.told-index) in
    omega (arith, numbered-fits c.args.index.now c.loop-slot.numbers c.args.k c.loop-slot.slot c.requires.small_k (omega arith) (c.requires.in_slots c.loop-slot.slot 0 within) c.loop-slot.invariant)

pub loop-slot-init : goal.loop-slot-init
loop-slot-init g c = record {
  high = refl;
  done = λ s below. absurd (omega (arith, below));
  kept = λ s from. refl;
}

pub loop-slot-preserved : goal.loop-slot-preserved
loop-slot-preserved g c =
    numbered-more c.args.index.now c.loop-slot.numbers c.args.k c.loop-slot.slot c.requires.small_k (omega arith) (omega (arith, c.told-index)) c.loop-slot.invariant

pub returns : goal.returns
returns g c = numbered-all c.args.index.now c.loop-slot.numbers c.args.k c.loop-slot.slot (omega (arith, c.told-index)) c.loop-slot.invariant
