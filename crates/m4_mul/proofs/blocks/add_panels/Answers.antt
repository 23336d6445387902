use Rattle.std.proofs.Common.{◌≡◌, ◌%◌, refl, ap, ◌∙◌, arith}
use Rattle.m4_mzd.specs.Window.{Window, content, showing}
use Rattle.m4_mzd.specs.Seen.{shown}
use Rattle.m4_mul.specs.Parts.{with_part}
use Rattle.m4_mul.proofs.PartLemmas.{with_part-none, with_part-more, with_part-all}
use Rattle.m4_mul.proofs.blocks.add_panels.Goals as goal

pub loop-first-init : goal.loop-first-init
loop-first-init g c =
    let W = c.args.c.now in
    record {
      sum = ap (showing W) (with_part-none (content W) (shown c.args.a.now) (shown c.args.b.now) 0 refl c.rows-rows.ensures.shape.matrix);
      sizes = record { k = refl; count = refl; cols = refl };
      panel_rows = refl;
      panel_cols = refl;
      whole = λ _. refl;
      within = omega arith;
    }

pub loop-first-preserved : goal.loop-first-preserved
loop-first-preserved g c =
    let W = c.args.c.now in
    let A = shown c.args.a.now in
    let B = shown c.args.b.now in
    let h = c.loop-first.invariant in
    let first = c.loop-first.first in
    let width = c.min-width.result in
    let most = c.cols-most.result in
    let whole : first % 64 ≡ 0 = h.whole c.loop-first-test.true in
    let words : most % 64 ≡ 0 = ap (λ n. n % 64) c.cols-most.ensures.cols ∙ c.requires.whole_words in
    record {
      sum =
          c.add_panel.ensures.sum
          ∙ ap (λ (w : Window). showing w (with_part (content w) A B first width)) h.sum
          ∙ ap (showing W) (with_part-more (content W) A B first width);
      sizes = record {
        k = c.add_panel.ensures.sizes.k ∙ h.sizes.k;
        count = c.add_panel.ensures.sizes.count ∙ h.sizes.count;
        cols = c.add_panel.ensures.sizes.cols ∙ h.sizes.cols;
      };
      panel_rows = c.add_panel.ensures.panel_rows ∙ h.panel_rows;
      panel_cols = c.add_panel.ensures.panel_cols ∙ h.panel_cols;
      whole = λ before.
          let wide : width ≡ most = omega (arith, before, c.min-width.ensures) in
          omega (arith, wide, whole, words);
      within = omega (arith, c.min-width.ensures);
    }

pub returns-clause-sum : goal.returns-clause-sum
returns-clause-sum g c =
    let W = c.args.c.now in
    let h = c.loop-first.invariant in
    let all : c.loop-first.first ≡ c.args.a.now.cols = omega (arith, h.within, c.rows-end.ensures.rows, c.requires.inner) in
    h.sum ∙ ap (showing W) (with_part-all (content W) (shown c.args.a.now) (shown c.args.b.now) c.loop-first.first refl c.requires.rows c.requires.cols all)
