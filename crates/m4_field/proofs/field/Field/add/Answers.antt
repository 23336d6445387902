use Rattle.std.specs.Int.Bits.{xor_lt}
use Rattle.m4_field.proofs.field.Field.add.Goals as goal

pub returns-clause-element : goal.returns-clause-element
returns-clause-element c = xor_lt c.args.self.now.degree c.args.a c.args.b c.requires.first c.requires.second
