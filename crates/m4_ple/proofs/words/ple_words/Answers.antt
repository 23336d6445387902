use Rattle.std.proofs.Common.{ℕ, inl, inr, ⊎_elim, sym, ◌∙◌, refl, ap, subst, arith, List}
use Rattle.std.specs.List.{range_with_len}
use Rattle.m4_ple.specs.Elimination.{IsEliminated}
use Rattle.m4_ple.specs.Words.{word_matrix}
use Rattle.m4_ple.proofs.Eliminated.{eliminated_start, eliminated_done, rank_reached}
use Rattle.m4_ple.proofs.WordLemmas.{HasShape-words}
use Rattle.m4_ple.proofs.words.ple_words.Goals as goal

pub loop-c-init : goal.loop-c-init
loop-c-init c =
    let A = word_matrix c.args.cols c.args.words.now in (
      refl,
      refl,
      subst (λ (p : List ℕ). IsEliminated A p c.args.q.now 0 0 A) (sym (c.number.ensures ∙ ap (range_with_len 0) c.requires.exchanges))
          (eliminated_start A c.args.q.now (HasShape-words c.args.cols c.args.words.now).is_matrix),
    )

pub eliminate_bit-rank-requires-clause-reached : goal.eliminate_bit-rank-requires-clause-reached
eliminate_bit-rank-requires-clause-reached c = rank_reached c.loop-c.invariant.2

pub eliminate_bit-rank-requires-clause-pivots : goal.eliminate_bit-rank-requires-clause-pivots
eliminate_bit-rank-requires-clause-pivots c =
    let words = c.loop-c.invariant.0 in
    let q = c.loop-c.invariant.1 in
    let inside = c.loop-c-test.true in
    ⊎_elim (λ same. inl (q ∙ same ∙ sym words)) (λ wide. inr (omega (arith, wide, q, inside))) c.requires.pivots

pub loop-c-preserved : goal.loop-c-preserved
loop-c-preserved c =
    let step = c.eliminate_bit-rank in (
      step.ensures.words ∙ c.loop-c.invariant.0,
      step.ensures.pivots ∙ c.loop-c.invariant.1,
      step.ensures.eliminated c.args.cols (word_matrix c.args.cols c.args.words.now) c.requires.one_word c.loop-c-test.true c.loop-c.invariant.2,
    )

pub returns-clause-factors : goal.returns-clause-factors
returns-clause-factors c = eliminated_done c.loop-c.invariant.2 (omega arith)
