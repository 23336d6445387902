use Rattle.std.proofs.Common.{◌≡◌, ◌+◌, Err, refl, sym, ap, ◌∙◌, arith}
use Rattle.m4_words.specs.Told.{understood}
use Rattle.m4_words.proofs.WordsLemmas.{understand-word, understand-refused, understand-end, understand-missing}
use Rattle.m4_words.proofs.words.told_by.Goals as goal

pub returns-in_default-clause-refused : goal.returns-in_default-clause-refused
returns-in_default-clause-refused c =
    let i = c.loop-index.index in
    c.loop-index.invariant.told
    ∙ understand-refused c.args.behind.now (i + 2) i (understood c.loop-index.told) c.index-behind-index.result c.as_str.result.now c.loop-index-test.true (sym c.index-behind-index.is)
    c.as_str.ensures.value c.in_default.ensures.refused
    ∙ ap Err (sym c.fault_at.ensures)

pub loop-index-preserved : goal.loop-index-preserved
loop-index-preserved c =
    let i = c.loop-index.index in
    record {
      sound = c.in-Some.ensures.sound;
      told = c.loop-index.invariant.told
          ∙ understand-word c.args.behind.now (i + 2) i (understood c.loop-index.told) c.index-behind-index.result c.as_str.result.now (i + 1 + 2) (understood c.take.new.self) c.loop-index-test.true
          (sym c.index-behind-index.is) c.as_str.ensures.value (omega arith) c.in-Some.ensures.taken;
    }

pub returns-then-not-is_empty-clause-refused : goal.returns-then-not-is_empty-clause-refused
returns-then-not-is_empty-clause-refused c =
    let i = c.loop-index.index in
    let number : i + 2 ≡ c.fault_at-then-not-is_empty.result.word = omega arith in
    c.loop-index.invariant.told
    ∙ understand-missing c.args.behind.now (i + 2) i (understood c.loop-index.told) c.loop-index.told.wanted.now refl c.if-not-is_empty.ensures c.loop-index-test.false
    ∙ ap Err number

pub returns-clause-told : goal.returns-clause-told
returns-clause-told c =
    let i = c.loop-index.index in
    c.loop-index.invariant.told
    ∙ understand-end c.args.behind.now (i + 2) i (understood c.loop-index.told) c.loop-index.told.wanted.now refl c.if-not-is_empty.ensures c.loop-index-test.false
