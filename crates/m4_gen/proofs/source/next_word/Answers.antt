use Rattle.m4_gen.proofs.WordLemmas.{drawn_word, drawn_next}
use Rattle.m4_gen.proofs.source.next_word.Goals as goal

pub returns-clause-word : goal.returns-clause-word
returns-clause-word c = λ seed k given. drawn_word seed k c.args.source.now c.next_u64.new.self c.next_u64.result given c.next_u64.ensures

pub returns-clause-next : goal.returns-clause-next
returns-clause-next c = λ seed k given. drawn_next seed k c.args.source.now c.next_u64.new.self c.next_u64.result given c.next_u64.ensures
