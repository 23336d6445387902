use Rattle.std.proofs.Common.{◌≡◌, ◌-◌, ◌%◌, ◌^◌, arith, ap, ◌∙◌}
use Rattle.std.proofs.lemmas.Nat.Bits.{ones_shr}
use Rattle.m4_bits.specs.Bits.{last_bits}
use Rattle.m4_bits.proofs.BitsLemmas.{last_bits-is}
use Rattle.m4_bits.proofs.mask.Goals as goal

pub returns-else-used-eq0 : goal.returns-else-used-eq0
returns-else-used-eq0 c =
    let bits : 64 - (64 - c.args.cols % 64) ≡ last_bits c.args.cols = omega (arith, last_bits-is c.args.cols, c.if-used-eq0.false) in
    ones_shr 64 (64 - c.args.cols % 64) (omega arith) ∙ ap (λ n. 2 ^ n - 1) bits
