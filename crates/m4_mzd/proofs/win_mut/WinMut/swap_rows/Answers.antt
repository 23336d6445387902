use Rattle.std.proofs.Common.{arith, ◌∙◌}
use Rattle.m4_mzd.proofs.PairLemmas.{swap_turned}
use Rattle.m4_mzd.proofs.win_mut.WinMut.swap_rows.Goals as goal

pub returns-else-i-j : goal.returns-else-i-j
returns-else-i-j c =
    c.swap_apart-else-i-j.ensures ∙ swap_turned c.args.self.now c.args.i c.args.j c.rows-rows.ensures.shape c.requires.first (omega arith)
