use Rattle.std.proofs.Common.{arith}
use Rattle.m4_mzd.specs.Seen.{shown}
use Rattle.m4_mzd.proofs.PlaceLemmas.{read_more, read_all}
use Rattle.m4_mzd.proofs.win.Win.read_words.Goals as goal

pub loop-i-init : goal.loop-i-init
loop-i-init c = record { done = λ i j below small. absurd (omega arith) }

pub loop-i-preserved : goal.loop-i-preserved
loop-i-preserved c =
    read_more (shown c.args.self.now) c.args.r c.args.w c.loop-i.i c.word.result c.loop-i.words (omega arith) c.word.ensures c.loop-i.invariant

pub returns : goal.returns
returns c = λ i j inside small.
    read_all (shown c.args.self.now) c.args.r c.args.w c.loop-i.i c.loop-i.words c.clear_from.new.words c.rows.ensures.matrix (λ more. omega arith) c.loop-i.invariant
    (λ k past. c.clear_from.ensures.zeros k (omega arith)) (λ k first. c.clear_from.ensures.kept k (omega arith)) i j inside small
