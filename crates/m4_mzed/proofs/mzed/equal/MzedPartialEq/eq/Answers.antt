use Rattle.std.proofs.Common.{arith}
use Rattle.m4_field.specs.Fields.{the_field}
use Rattle.m4_mzed.proofs.EqualLemmas.{same_elements, same_bits, told}
use Rattle.m4_mzed.proofs.mzed.equal.MzedPartialEq.eq.Goals as goal

pub returns-clause-same : goal.returns-clause-same
returns-clause-same c =
    let F = the_field c.self.inside.field in
    let G = the_field c.other.inside.field in (
      λ yes. same_elements F G c.self.inside.cols c.other.inside.cols c.self.inside.bits c.other.inside.bits c.args.self.now c.args.other.now c.self.view_is c.other.view_is
          (omega (arith, c.e.ensures.degree, c.e-2.ensures.degree, c.if-e.false)) (omega (arith, c.poly.ensures.poly, c.poly-else-e.ensures.poly, c.if-poly.false)) c.if-self-other.false (c.eq.ensures.same.0 yes),
      λ same. c.eq.ensures.same.1 (same_bits F G c.self.inside.cols c.other.inside.cols c.self.inside.bits c.other.inside.bits c.args.self.now c.args.other.now c.self.view_is c.other.view_is
          c.self.invariant c.other.invariant c.rows-rows.ensures.matrix c.rows-rows_of_other.ensures.matrix c.rows-rows.ensures.over_gf2 c.rows-rows_of_other.ensures.over_gf2 same),
    )

pub returns-clause-test : goal.returns-clause-test
returns-clause-test c = told c.args.self.now c.args.other.now c.eq.result (returns-clause-same c)
