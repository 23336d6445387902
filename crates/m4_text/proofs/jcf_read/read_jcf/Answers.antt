use Rattle.std.proofs.lemmas.Result.{err_from_is_err_and}
use Rattle.std.proofs.lemmas.Bool.{ltb-true, ltb-false, lt-ltb, le-ltb}
use Rattle.m4_text.proofs.JcfRefusals.{first_of, refused_header, refused_sizes, refused_entry, refused_long, read_jcf}
use Rattle.m4_text.proofs.jcf_read.read_jcf.Goals as goal

pub returns-in_err-sizes-clause-err : goal.returns-in_err-sizes-clause-err
returns-in_err-sizes-clause-err c =
    let p = err_from_is_err_and c.from_residual.result c.from_residual.ensures.1 in
    let first = first_of c.args.bytes.now c.min.result _ c.min.ensures (ltb-true _ _) (ltb-false _ _) in
    rw (p.1, p.2) (refused_header c.args.bytes.now _ _ first _ c.in_err-sizes.ensures)

pub returns-then-not-are_within_limits-clause-err : goal.returns-then-not-are_within_limits-clause-err
returns-then-not-are_within_limits-clause-err c =
    let first = first_of c.args.bytes.now c.min.result _ c.min.ensures (ltb-true _ _) (ltb-false _ _) in
    refused_sizes c.args.bytes.now _ _ first c.in_ok-sizes.sizes.rows c.in_ok-sizes.sizes.cols c.in_ok-sizes.sizes.end c.in_ok-sizes.ensures
    (λ limits. let yes = c.are_within_limits.ensures.1 limits in cc)

pub returns-then-long-clause-err : goal.returns-then-long-clause-err
returns-then-long-clause-err c =
    let first = first_of c.args.bytes.now c.min.result _ c.min.ensures (ltb-true _ _) (ltb-false _ _) in
    refused_long c.args.bytes.now _ _ first c.in_ok-sizes.sizes.rows c.in_ok-sizes.sizes.cols c.in_ok-sizes.sizes.end c.in_ok-m.m c.read_entries.new.m
    c.in_ok-sizes.ensures (c.are_within_limits.ensures.0 c.if-not-are_within_limits.false) c.in_ok-m.ensures c.in-Ok.ensures.ok (lt-ltb _ _ c.if-long.true)

pub returns-else-long-clause-ok : goal.returns-else-long-clause-ok
returns-else-long-clause-ok c =
    let first = first_of c.args.bytes.now c.min.result _ c.min.ensures (ltb-true _ _) (ltb-false _ _) in
    read_jcf c.args.bytes.now _ _ first c.in_ok-sizes.sizes.rows c.in_ok-sizes.sizes.cols c.in_ok-sizes.sizes.end c.in_ok-m.m c.read_entries.new.m
    c.in_ok-sizes.ensures (c.are_within_limits.ensures.0 c.if-not-are_within_limits.false) c.in_ok-m.ensures c.in-Ok.ensures.ok (le-ltb _ _ c.if-long.false)

pub returns-in-Err-clause-err : goal.returns-in-Err-clause-err
returns-in-Err-clause-err c =
    let first = first_of c.args.bytes.now c.min.result _ c.min.ensures (ltb-true _ _) (ltb-false _ _) in
    refused_entry c.args.bytes.now _ _ first c.in_ok-sizes.sizes.rows c.in_ok-sizes.sizes.cols c.in_ok-sizes.sizes.end c.in-Err.place c.in_ok-m.m
    c.in_ok-sizes.ensures (c.are_within_limits.ensures.0 c.if-not-are_within_limits.false) c.in_ok-m.ensures c.in-Err.ensures.err
