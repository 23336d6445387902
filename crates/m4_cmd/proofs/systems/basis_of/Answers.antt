use Rattle.std.proofs.Common.{◌≡◌, true, false, length, refl}
use Rattle.m4_cmd.proofs.BasisLemmas.{alone, basis_past_bounds}
use Rattle.m4_cmd.proofs.systems.basis_of.Goals as goal

pub returns-then-not-is_within_limits-clause-fails : goal.returns-then-not-is_within_limits-clause-fails
returns-then-not-is_within_limits-clause-fails c =
    basis_past_bounds c.args.a.now (length c.in_ok-form.form.pivots.items) c.in_ok-form.ensures.rank
    (λ limits. let refused : false ≡ true = c.if-not-is_within_limits.ensures.1 (rw (c.cols-cols.ensures.cols, c.len.ensures, c.in_ok-form.form.pivots.ok.0) limits) in absurd cc)

pub returns-clause-good : goal.returns-clause-good
returns-clause-good c =
    let form = c.in_ok-form.form in
    record {
      shared = alone c.args.a.now;
      fits = tt;
      bounds = (length form.pivots.items, c.in_ok-form.ensures.rank, rw (c.cols-cols.ensures.cols, c.len.ensures, form.pivots.ok.0) at c.if-not-is_within_limits.ensures.0 refl);
      is = c.in_ok-kernel_of.ensures.kernel c.args.a.now c.in_ok-form.ensures.reduced;
    }
