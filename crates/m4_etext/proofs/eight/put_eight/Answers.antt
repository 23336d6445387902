use Rattle.std.proofs.Common.{arith, ◌∙◌}
use Rattle.m4_etext.proofs.FourLemmas.{eight_written}
use Rattle.m4_etext.proofs.eight.put_eight.Goals as goal

pub returns-clause-written : goal.returns-clause-written
returns-clause-written c = λ k below.
    eight_written c.args.digits.now c.copy_from_slice.new.self _ c.args.start c.args.word k (let h = c.requires in omega arith) below
    (c.copy_from_slice.ensures.after ∙ c.to_le_bytes.ensures ∙ c.eight_digits.ensures)
