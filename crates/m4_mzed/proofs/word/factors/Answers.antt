use Rattle.std.proofs.Common.{ℕ, ◌+◌, ◌<◌, sym, subst, set, arith}
use Rattle.m4_field.specs.Fields.{the_field}
use Rattle.m4_mzed.proofs.FactorLemmas.{AreFirst, none_written, more_written}
use Rattle.m4_mzed.proofs.word.factors.Goals as goal

pub loop-i-init : goal.loop-i-init
loop-i-init g c = none_written (the_field c.args.f.now) c.args.f.now.carried g.row.N c.args.x c.requires.element

pub loop-i-preserved : goal.loop-i-preserved
loop-i-preserved g c =
    let F = the_field c.args.f.now in
    let below : c.loop-i.i < F.degree = let t = c.loop-i-test.true in let e = c.e-i-end.ensures.degree in omega (arith, t, e) in
    let P : ℕ → Type 0 = λ y. AreFirst F g.row.N c.args.x (c.loop-i.i + 1) c.times_x-factor.result (set c.loop-i.list c.loop-i.i y) in
    subst P (sym c.from.ensures) (more_written F c.args.f.now.carried g.row.N c.args.x c.loop-i.i c.loop-i.factor c.times_x-factor.result c.loop-i.list below c.requires.enough
    c.times_x-factor.ensures.element c.times_x-factor.ensures.product c.loop-i.invariant)
