use Rattle.std.proofs.Common.{ℕ, ◌*◌, ◌/◌, ◌^◌, ◌<◌, sym, subst, ◌∙◌}
use Rattle.std.specs.Int.Bits.{and_mask}
use Rattle.std.proofs.Math.Nat.{mod-lt}
use Rattle.std.proofs.lemmas.Nat.{pow_pos}
use Rattle.m4_bits.proofs.BitsLemmas.{bit_at-mask_below}
use Rattle.m4_bits.proofs.TransposeLemmas.{bit_at-shr}
use Rattle.m4_mul.proofs.index.byte_of.Goals as goal

pub returns-clause-bits : goal.returns-clause-bits
returns-clause-bits c = λ u below. bit_at-mask_below (c.args.word / 2 ^ (c.args.slot * 8)) 8 u below ∙ bit_at-shr c.args.word (c.args.slot * 8) u

pub returns-clause-small : goal.returns-clause-small
returns-clause-small c =
    let word = c.args.word / 2 ^ (c.args.slot * 8) in
    let P : ℕ → Type 0 = λ x. x < 2 ^ 8 in
    subst P (sym (and_mask word 8)) (mod-lt word (pow_pos 8))
