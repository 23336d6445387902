use Rattle.std.proofs.Common.{◌≡◌, ◌*◌, ◌<◌, inl, inr, ap, arith}
use Rattle.std.proofs.lemmas.Bool.{cases_lt}
use Rattle.m4_mul.proofs.AdditionsLemmas.{additions-rows}
use Rattle.m4_mul.proofs.group.add_group.Goals as goal

pub returns-clause-ticks : goal.returns-clause-ticks
returns-clause-ticks g c =
    let slots = c.fill_slots-slots.result in
    let count = c.args.tables.now.count in
    let k = c.args.tables.now.k in
    let some : 0 < k = elim (cases_lt 0 k) [
      | inl there ↦ there
      | inr past ↦
          let none : k ≡ 0 = omega (arith, past) in
          let empty : k * count ≡ 0 * count = ap (λ n. n * count) none in
          absurd (omega (arith, empty, c.requires.some, c.requires.few))
    ] in
    omega (
      arith,
      additions-rows c.args.c.now.rows c.args.width k slots some c.requires.some c.fill_slots-slots.ensures.enough c.fill_slots-slots.ensures.no_more,
      c.fill_slots-slots.ensures.ticks,
      c.add_slots.ensures.ticks,
    )
