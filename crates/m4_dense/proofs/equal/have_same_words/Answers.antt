use Rattle.std.proofs.Common.{◌≡◌, ℕ, ◌+◌, ◌*◌, ◌/◌, ◌%◌, ◌<◌, refl, sym, ◌∙◌, ap, arith}
use Rattle.std.specs.Int.{bit_at}
use Rattle.std.proofs.lemmas.Bool.{true≢false}
use borrow.Author.Count.{below_more}
use Rattle.m4_model.specs.Matrix.{at}
use Rattle.m4_mzd.specs.Seen.{shown}
use Rattle.m4_dense.proofs.EqualLemmas.{same_words}
use Rattle.m4_dense.proofs.equal.have_same_words.Goals as goal

pub returns-then-word : goal.returns-then-word
returns-then-word c = (
  λ no. absurd (true≢false (sym no)),
  λ same. absurd (c.if-word.true
      (same_words (shown c.args.a.now) (shown c.args.b.now) c.args.r c.loop-w.w c.word.result c.word-in-loop-w.result c.cols.ensures.matrix c.cols-cols.ensures.matrix
      c.requires.in_rows c.requires.same_rows c.requires.same_cols (omega arith) (omega arith) c.word.ensures c.word-in-loop-w.ensures same)),
)

pub loop-w-preserved : goal.loop-w-preserved
loop-w-preserved c =
    let A = shown c.args.a.now in
    let B = shown c.args.b.now in
    let r = c.args.r in
    let P : ℕ → Type 0 = λ v. (j : ℕ) → j < 64 → at A r (v * 64 + j) ≡ at B r (v * 64 + j) in
    record {
      same = λ v j below less. below_more P c.loop-w.w (λ u before i in_word. c.loop-w.invariant.same u i before in_word)
          (λ i in_word. sym (c.word.ensures i in_word) ∙ ap (λ x. bit_at x i) c.if-word.false ∙ c.word-in-loop-w.ensures i in_word) v below j less;
      all = c.loop-w.invariant.all;
    }

pub returns : goal.returns
returns c =
    let A = shown c.args.a.now in
    let B = shown c.args.b.now in
    let r = c.args.r in (
      λ yes j within.
          let place : j / 64 * 64 + j % 64 ≡ j = omega arith in
          let word : j / 64 < c.loop-w.w = omega (arith, within, c.loop-w.invariant.all, c.loop-w-test.false) in
          sym (ap (at A r) place) ∙ c.loop-w.invariant.same (j / 64) (j % 64) word (omega arith) ∙ ap (at B r) place,
      λ same. refl,
    )
