use Rattle.std.proofs.Common.{rules, ◌≡◌, ◌/◌, subst, ap, ◌∙◌}
use Rattle.m4_model.specs.Matrix.{Matrix}
use Rattle.m4_area.specs.Rectangle.{Rectangle, HasShape}
use Rattle.m4_mzd.specs.Around.{upper, lower, lefts, rights, words_of_rect, IsAround}
use Rattle.m4_mzd.specs.Window.{Window, content, showing}
use Rattle.m4_mzd.specs.declared.rect.Rect.{Rect}
use Rattle.m4_mzd.specs.declared.mzd.around.Around.{Around}
use Rattle.m4_mzd.proofs.CutLemmas.{cut_content}
use Rattle.m4_mzd.proofs.HeldLemmas.{held_none}
use Rattle.m4_mzd.proofs.mzd.Mzd.win_mut.Goals as goal

pub invariant_of-self : goal.invariant_of-self
invariant_of-self c =
    held_none c.take-words.new.self (subst HasShape c.words.ensures c.rows-rows.ensures.shape) c.take-words.ensures.left c.take-words.ensures.left_width

pub returns-clause-content : goal.returns-clause-content
returns-clause-content c =
    let v = c.self.inside.words in
    let rect = c.args.rect in
    let top : c.split_rows-top.result.0 ≡ upper v rect.r1 = c.split_rows-top.ensures.above ∙ ap (λ (x : Rectangle). upper x rect.r1) c.take-words.ensures.words in
    let rows = c.split_rows-above.ensures.below ∙ ap (λ (x : Rectangle). lower x rect.r0) top in
    let rest = c.split_words-left.ensures.right ∙ ap (λ (x : Rectangle). rights x (rect.c0 / 64)) rows in
    let part : c.split_words-part.result.0 ≡ words_of_rect v rect =
    c.split_words-part.ensures.left ∙ (λ i. lefts (rest i) (c.words_for.ensures i)) in
    cut_content v c.self.inside.cols rect c.args.self.now c.split_words-part.result.0 c.self.view_is c.self.invariant c.requires.inside c.requires.whole_words part

-- a window shows what it holds
itself : {around : Around} {part : Window} {rect : Rect} {A : Matrix} → ((B : Matrix) → IsAround around (showing part B) rect A) → IsAround around part rect A
itself {around} {part} whatever = whatever (content part)

pub returns-clause-whatever_it_shows : goal.returns-clause-whatever_it_shows
returns-clause-whatever_it_shows c = λ B. search rules

pub returns-clause-around : goal.returns-clause-around
returns-clause-around c = itself (returns-clause-whatever_it_shows c)
