use Rattle.std.proofs.Common.{◌≡◌, [], length, refl, sym, arith, ◌∙◌}
use Rattle.std.proofs.lemmas.List.{length-map, get_or-map}
use Rattle.m4_model.specs.Matrix.{row, row_sum}
use Rattle.m4_mzd.specs.Seen.{shown}
use Rattle.m4_mzd.proofs.PairLemmas.{copied_all}
use Rattle.m4_mzd.proofs.PlaceLemmas.{row_step}
use Rattle.m4_gray.specs.Slots.{each_added}
use Rattle.m4_gray.proofs.fill.add_to_each.Goals as goal

pub loop-x-init : goal.loop-x-init
loop-x-init g c = record { so_far = refl; all = c.rows-x-end.ensures.rows; ticks = omega arith }

pub set_sum-requires : goal.set_sum-requires
set_sum-requires g c = rw c.loop-x.invariant.so_far (record {
  in_rows = omega (arith, c.rows-x-end.ensures.rows, c.loop-x-test.true);
  in_a = omega (arith, c.rows-x-end.ensures.rows, c.requires.rows, c.loop-x-test.true);
  in_b = c.requires.in_rows;
  same_cols = c.requires.cols;
  other_cols = c.requires.same_cols;
})

pub loop-x-preserved : goal.loop-x-preserved
loop-x-preserved g c =
    let A = shown c.args.a.now in
    let v = row (shown c.args.b.now) c.args.r in
    let x = c.loop-x.x in
    let many : length (each_added v A.entries) ≡ c.args.dst.now.rows =
    length-map A.entries (λ xs. row_sum xs v) ∙ c.rows-rows.ensures.matrix.height ∙ c.requires.rows in
    record {
      so_far = row_step c.args.dst.now c.loop-x.dst c.set_sum.new.self (each_added v A.entries) x (λ _. row_sum (row A x) v)
          (omega (arith, many, c.rows-x-end.ensures.rows, c.loop-x-test.true))
          (omega (arith, c.rows-x-end.ensures.shape.matrix.height, c.rows-x-end.ensures.rows, c.loop-x-test.true))
          c.loop-x.invariant.so_far c.set_sum.ensures
          (sym (get_or-map (λ xs. row_sum xs v) A.entries x [] [] (omega (arith, c.rows-rows.ensures.matrix.height, c.requires.rows, c.rows-x-end.ensures.rows, c.loop-x-test.true))));
      all = c.rows-x-end.ensures.rows;
      ticks = omega (arith, c.tick.ensures, c.loop-x.invariant.ticks);
    }

pub returns-clause-sums : goal.returns-clause-sums
returns-clause-sums g c =
    let A = shown c.args.a.now in
    let v = row (shown c.args.b.now) c.args.r in
    let many : length (each_added v A.entries) ≡ c.args.dst.now.rows =
    length-map A.entries (λ xs. row_sum xs v) ∙ c.rows-rows.ensures.matrix.height ∙ c.requires.rows in
    c.loop-x.invariant.so_far
    ∙ copied_all c.args.dst.now (each_added v A.entries) c.loop-x.x
    (omega (arith, many, c.rows-x-end.ensures.rows, c.loop-x.auto.x-end, c.loop-x-test.false))
    (omega (arith, c.rows-x-end.ensures.shape.matrix.height, c.rows-x-end.ensures.rows, c.loop-x.auto.x-end, c.loop-x-test.false))
