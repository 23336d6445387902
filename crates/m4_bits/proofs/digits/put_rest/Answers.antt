use Rattle.std.proofs.Common.{◌+◌, length, arith}
use Rattle.std.proofs.lemmas.List.FromFn.{fill_by_all}
use Rattle.std.specs.Int.{bit_at}
use Rattle.m4_bits.proofs.digits.put_rest.Goals as goal

pub returns : goal.returns
returns c = fill_by_all (λ k. 48 + bit_at c.args.word k) c.loop-place.digits (length c.args.digits.now) 0 (omega arith) (λ k below. c.loop-place.invariant k (omega arith))
