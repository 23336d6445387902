use Rattle.std.proofs.Common.{◌≡◌, arith, ap, ◌∙◌}
use Rattle.m4_mzd.proofs.IdentityLemmas.{diagonal, diagonal_none, diagonal_more, diagonal_all}
use Rattle.m4_mzd.proofs.mzd.Mzd.set_diagonal.Goals as goal

pub loop-i-init : goal.loop-i-init
loop-i-init c = record { so_far = c.requires ∙ diagonal_none c.args.self.now.rows; all = c.rows-i-end.ensures.rows }

pub loop-i-preserved : goal.loop-i-preserved
loop-i-preserved c = record {
  so_far = diagonal_more c.args.self.now.rows c.loop-i.i c.loop-i.self c.put.new.self (omega (arith, c.rows-i-end.ensures.rows, c.loop-i-test.true)) c.loop-i.invariant.so_far c.put.ensures;
  all = c.rows-i-end.ensures.rows;
}

pub returns : goal.returns
returns c =
    let all : c.loop-i.i ≡ c.args.self.now.rows = omega (arith, c.rows-i-end.ensures.rows, c.loop-i.auto.i-end, c.loop-i-test.false) in
    c.loop-i.invariant.so_far ∙ ap (diagonal c.args.self.now.rows) all ∙ diagonal_all c.args.self.now.rows
