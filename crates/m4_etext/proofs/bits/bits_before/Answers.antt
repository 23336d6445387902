use Rattle.std.proofs.Common.{◌*◌, ◌+◌, ◌%◌, ◌/◌, ◌∙◌, ap, arith}
use Rattle.std.specs.Int.{bit_at}
use Rattle.std.proofs.lemmas.Nat.{one_shl}
use Rattle.m4_model.specs.Matrix.{Matrix, at}
use Rattle.m4_bits.proofs.TransposeLemmas.{bit_at-mod}
use Rattle.m4_etext.proofs.bits.bits_before.Goals as goal

pub returns-else-q-eq0-clause-bits : goal.returns-else-q-eq0-clause-bits
returns-else-q-eq0-clause-bits c = λ i below.
    let word = c.word-word.result in
    let used = c.args.q % 64 in
    let one = one_shl used 64 (omega arith) in
    let read = c.word-word.ensures i (omega (arith, below)) in
    ap (λ p. bit_at (word % p) i) one ∙ bit_at-mod word used i below ∙ read
    ∙ ap (λ (A : Matrix). at A c.args.r (c.args.q / 64 * 64 + i)) (c.into_bits.ensures ∙ c.see.ensures)
