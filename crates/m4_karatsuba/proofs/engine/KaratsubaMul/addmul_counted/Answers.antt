use Rattle.std.proofs.Common.{sym, subst, arith}
use Rattle.m4_mzd.specs.Reach.{IsReached}
use Rattle.m4_mzed.specs.ESeen.{e_shown}
use Rattle.m4_karatsuba.specs.Engine.{Slicing}
use Rattle.m4_karatsuba.proofs.PlaceLemmas.{room_rises}
use Rattle.m4_karatsuba.proofs.engine.KaratsubaMul.addmul_counted.Goals as goal

pub add_in_scratch-requires-clause-enough : goal.add_in_scratch-requires-clause-enough
add_in_scratch-requires-clause-enough g c =
    let k = c.self.inside in
    let w = c.args.c.now in
    let l = (e_shown c.args.a.now).cols in
    let r : IsReached k.reach w.rows l w.cols = subst (λ (s : Slicing). IsReached s.reach w.rows l w.cols) (sym c.self.view_is) c.requires.reached in
    let more = room_rises k.field.degree (record { m = w.rows; l = l; n = w.cols }) k.reach r.rows r.inner r.cols in
    omega (arith, more, c.self.invariant.0.enough)
