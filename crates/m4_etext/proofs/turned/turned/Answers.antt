use Rattle.m4_etext.proofs.FourLemmas.{last_count, one_turned, pairs_back, pairs_there, quads_back, quads_there}
use Rattle.m4_etext.proofs.turned.turned.Goals as goal

pub returns-then-count-eq1-clause-there : goal.returns-then-count-eq1-clause-there
returns-then-count-eq1-clause-there c = one_turned c.args.count c.args.word c.if-count-eq1.true

pub returns-then-count-eq1-clause-back : goal.returns-then-count-eq1-clause-back
returns-then-count-eq1-clause-back c = one_turned c.args.count c.args.word c.if-count-eq1.true

pub returns-then-count-eq2-clause-there : goal.returns-then-count-eq2-clause-there
returns-then-count-eq2-clause-there c = pairs_there c.args.count c.args.word c.with_pairs_turned.result c.if-count-eq2.true c.with_pairs_turned.ensures

pub returns-then-count-eq2-clause-back : goal.returns-then-count-eq2-clause-back
returns-then-count-eq2-clause-back c = pairs_back c.args.count c.args.word c.with_pairs_turned.result c.if-count-eq2.true c.with_pairs_turned.ensures

pub returns-else-count-eq2-clause-there : goal.returns-else-count-eq2-clause-there
returns-else-count-eq2-clause-there c =
    quads_there c.args.count c.args.word c.with_quads_turned.result (last_count c.args.count c.requires c.if-count-eq1.false c.if-count-eq2.false) c.with_quads_turned.ensures

pub returns-else-count-eq2-clause-back : goal.returns-else-count-eq2-clause-back
returns-else-count-eq2-clause-back c =
    quads_back c.args.count c.args.word c.with_quads_turned.result (last_count c.args.count c.requires c.if-count-eq1.false c.if-count-eq2.false) c.with_quads_turned.ensures
