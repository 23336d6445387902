use Rattle.std.proofs.Common.{◌≡◌, ◌*◌, ◌+◌, ◌%◌, ◌<◌, refl, sym, ap, ◌∙◌, arith}
use Rattle.std.proofs.Math.Nat.{mod-eq_of_lt}
use Rattle.m4_mzd.specs.Window.{Window, content, showing}
use Rattle.m4_mzd.specs.Seen.{shown}
use Rattle.m4_model.specs.Additions.{additions}
use Rattle.m4_mul.specs.Parts.{with_part}
use Rattle.m4_mul.proofs.AdditionsLemmas.{additions-group, additions-none, whole-next}
use Rattle.m4_mul.proofs.PartLemmas.{with_part-none, with_part-more, with_part-all}
use Rattle.m4_mul.proofs.group.add_groups.Goals as goal

pub loop-first-init : goal.loop-first-init
loop-first-init g c =
    let W = c.args.c.now in
    let k = c.args.tables.now.k in
    let some : 0 < k = omega (arith, c.k.ensures.shape.some_bits) in
    record {
      sum = ap (showing W) (with_part-none (content W) (shown c.args.a.now) (shown c.args.b.now) 0 refl c.rows-rows.ensures.shape.matrix);
      sizes = record { k = refl; count = refl; cols = refl };
      whole = λ _. mod-eq_of_lt some;
      within = omega arith;
      ticks = omega (arith, additions-none W.rows k some);
    }

pub loop-first-preserved : goal.loop-first-preserved
loop-first-preserved g c =
    let W = c.args.c.now in
    let A = shown c.args.a.now in
    let B = shown c.args.b.now in
    let t = c.args.tables.now in
    let now = c.loop-first.tables in
    let h = c.loop-first.invariant in
    let first = c.loop-first.first in
    let width = c.min-width.result in
    let k = c.add_group.new.tables.k in
    let same_k : k ≡ t.k = c.add_group.ensures.sizes.k ∙ h.sizes.k in
    let k_now : now.k ≡ k = sym c.add_group.ensures.sizes.k in
    let some : 0 < k = omega (arith, same_k, c.k.ensures.shape.some_bits) in
    let whole : first % k ≡ 0 = (λ i. first % sym k_now i) ∙ h.whole c.loop-first-test.true in
    let rows : c.loop-first.c.rows ≡ W.rows = ap (λ (w : Window). w.rows) h.sum in
    let so_far : c.loop-first.steps ≡ c.args.steps.now + additions W.rows first k = h.ticks ∙ ap (λ n. c.args.steps.now + additions W.rows first n) k_now in
    let more : c.add_group.new.steps ≡ c.loop-first.steps + additions W.rows width k =
    c.add_group.ensures.ticks ∙ (λ i. c.loop-first.steps + additions (rows i) width (k_now i)) in
    record {
      sum =
          c.add_group.ensures.sum
          ∙ ap (λ (w : Window). showing w (with_part (content w) A B first width)) h.sum
          ∙ ap (showing W) (with_part-more (content W) A B first width);
      sizes = record {
        k = same_k;
        count = c.add_group.ensures.sizes.count ∙ h.sizes.count;
        cols = c.add_group.ensures.sizes.cols ∙ h.sizes.cols;
      };
      whole = λ before.
          let all : first + width ≡ first + k * c.count.result =
          ap (λ n. first + n) (let most : width ≡ c.k.result * c.count.result = omega (arith, before, c.min-width.ensures) in most)
          ∙ (λ i. first + (c.k.ensures.k ∙ sym same_k) i * c.count.result) in
          ap (λ n. n % k) all ∙ whole-next first k c.count.result whole;
      within = omega (arith, c.min-width.ensures);
      ticks = omega (arith, so_far, more, additions-group W.rows first width k some whole);
    }

pub returns-clause-sum : goal.returns-clause-sum
returns-clause-sum g c =
    let W = c.args.c.now in
    let h = c.loop-first.invariant in
    let all : c.loop-first.first ≡ c.args.a.now.cols = omega (arith, h.within, c.rows-end.ensures.rows, c.requires.inner) in
    h.sum ∙ ap (showing W) (with_part-all (content W) (shown c.args.a.now) (shown c.args.b.now) c.loop-first.first refl c.requires.rows c.requires.cols all)
