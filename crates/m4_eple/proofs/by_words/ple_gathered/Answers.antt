use Rattle.std.proofs.Common.{◌≡◌, ℕ, ◌+◌, ◌*◌, ◌<◌, length, get_or, refl, sym, ◌∙◌, ap, subst, arith, take}
use Rattle.std.specs.Int.{bit_at}
use Rattle.m4_model.specs.Field.{gf2}
use Rattle.m4_model.specs.Matrix.{Matrix, HasShape, at}
use Rattle.m4_model.specs.Shapes.{swaps}
use Rattle.m4_mzd.specs.Window.{content}
use Rattle.m4_ple.specs.Held.{HoldsPle}
use Rattle.m4_ple.specs.Words.{word_matrix}
use Rattle.m4_eple.proofs.GatherLemmas.{gathered, scattered}
use Rattle.m4_eple.proofs.by_words.ple_gathered.Goals as goal

pub returns-clause-factors : goal.returns-clause-factors
returns-clause-factors c =
    let V = c.args.a.now in
    let before = c.read_words.new.words in
    let after = c.ple_words-rank.new.words in
    let P = c.ple_words-rank.new.p in
    let Q = take c.ple_words-rank.result c.ple_words-rank.new.q in
    let long : length before ≡ V.rows = omega (arith, c.read_words.auto.words, c.requires.gathered) in
    let long_after : length after ≡ V.rows = c.ple_words-rank.ensures.words ∙ long in
    let shape : HasShape gf2 V.rows V.cols (content V) = record { is_matrix = c.cols-cols.ensures.shape.matrix; over = refl; rows = refl; cols = refl } in
    let shows : word_matrix V.cols before ≡ content V
    = gathered (content V) before V.rows V.cols shape long c.requires.one_word
    (subst (λ (A : Matrix). (i j : ℕ) → i < length before → j < 64 → bit_at (get_or before i 0) j ≡ at A (0 + i) (0 * 64 + j)) c.see.ensures c.read_words.ensures) in
    let written : content c.set_words.new.self ≡ word_matrix V.cols after
    = ap content c.set_words.ensures ∙ scattered V after long_after c.requires.one_word in
    subst (λ (A : Matrix). HoldsPle (content V) (swaps V.rows P) Q A) (sym written)
    (subst (λ (A : Matrix). HoldsPle A (swaps V.rows P) Q (word_matrix V.cols after)) shows
    (subst (λ (m : ℕ). HoldsPle (word_matrix V.cols before) (swaps m P) Q (word_matrix V.cols after)) long
    (subst (λ (n : ℕ). HoldsPle (word_matrix n before) (swaps (length before) P) Q (word_matrix n after)) c.cols-cols.ensures.cols c.ple_words-rank.ensures.factors)))
