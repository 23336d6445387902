use Rattle.std.proofs.Common.{arith}
use Rattle.std.proofs.lemmas.Bool.{eq-eqb, eqb-true}
use Rattle.m4_text.proofs.Bares.{begins_digit, begins_with}
use Rattle.m4_etext.proofs.bare_rows.begins_row.Goals as goal

pub returns-then-byte-eq48 : goal.returns-then-byte-eq48
returns-then-byte-eq48 c = (
  λ is. begins_digit c.args.cols c.args.byte (omega arith) (omega arith, omega arith),
  λ begins. eq-eqb c.args.byte 48 c.if-byte-eq48.true,
)

pub returns-else-byte-eq48 : goal.returns-else-byte-eq48
returns-else-byte-eq48 c = (
  λ is.
      let one = eqb-true c.args.byte 49 is in
      begins_digit c.args.cols c.args.byte (omega arith) (omega arith, omega arith),
  λ begins.
      let digit = (begins_with c.args.cols c.args.byte begins).0 (omega arith) in
      eq-eqb c.args.byte 49 (omega arith),
)
