use Rattle.m4_mzed.specs.ESeen.{e_shown}
use Rattle.m4_newton.proofs.PowerLemmas.{ArePut}
use Rattle.m4_newton.proofs.multiples.put_multiples.Given as goal

abbrev pub invariant-loop-u : goal.invariant-loop-u
invariant-loop-u l = ArePut l.fn.m l.m (e_shown l.b) l.first l.t l.u
