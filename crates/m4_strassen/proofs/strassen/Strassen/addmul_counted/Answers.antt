use Rattle.std.proofs.Common.{arith}
use Rattle.m4_mzd.specs.Seen.{shown}
use Rattle.m4_model.proofs.RecursionLemmas.{need-rises}
use Rattle.m4_strassen.proofs.strassen.Strassen.addmul_counted.Goals as goal

pub add_by_halves-requires-clause-enough : goal.add_by_halves-requires-clause-enough
add_by_halves-requires-clause-enough g c =
    let s = c.args.self.now in
    let r = c.requires.reached in
    let more = need-rises c.args.c.now.rows (shown c.args.a.now).cols c.args.c.now.cols s.reach.m s.reach.l s.reach.n s.cutoff r.rows r.inner r.cols in
    omega (arith, more, c.requires.ready.enough, c.room-room.ensures.all)
