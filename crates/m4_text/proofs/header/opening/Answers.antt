use Rattle.std.proofs.Common.{arith}
use Rattle.m4_text.proofs.Headers.{GoesWrong-opening}
use Rattle.m4_text.proofs.header.opening.Goals as goal
use Rattle.m4_text.proofs.header.opening.Goals.{then-place-bytes-via-then-place-bytes, then-place-bytes-via-else-place-bytes+then-bytes-place}

pub returns-then-place-bytes : goal.returns-then-place-bytes
returns-then-place-bytes c =
    GoesWrong-opening c.args.bytes.now c.loop-place.place (omega arith) c.loop-place.invariant.0 c.loop-place.invariant.1
    (λ inside same. elim c.then-place-bytes.branch [
      | then-place-bytes-via-then-place-bytes w ↦ omega arith
      | then-place-bytes-via-else-place-bytes+then-bytes-place w ↦ w.if-bytes-place.true same
    ])
