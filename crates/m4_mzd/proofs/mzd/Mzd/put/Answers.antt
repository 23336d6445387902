use Rattle.std.proofs.Common.{arith, ap}
use Rattle.m4_model.specs.Matrix.{Matrix}
use Rattle.m4_mzd.proofs.WriteLemmas.{wrote_bit}
use Rattle.m4_mzd.proofs.HeldLemmas.{held_written}
use Rattle.m4_mzd.proofs.mzd.Mzd.put.Goals as goal

pub invariant_of-self : goal.invariant_of-self
invariant_of-self c =
    (held_written c.self.view_is c.self.invariant c.requires.in_rows c.row_mut.ensures.words (λ mine.
    wrote_bit c.self.inside.cols c.args.c c.row_mut.result.now c.put_bit.new.row _ _ mine (omega arith)
    (omega (arith, c.requires.in_cols, ap (λ (A : Matrix). A.cols) c.self.view_is)) c.put_bit.ensures.value c.put_bit.ensures.others)).0

pub returns : goal.returns
returns c =
    (held_written c.self.view_is c.self.invariant c.requires.in_rows c.row_mut.ensures.words (λ mine.
    wrote_bit c.self.inside.cols c.args.c c.row_mut.result.now c.put_bit.new.row _ _ mine (omega arith)
    (omega (arith, c.requires.in_cols, ap (λ (A : Matrix). A.cols) c.self.view_is)) c.put_bit.ensures.value c.put_bit.ensures.others)).1
