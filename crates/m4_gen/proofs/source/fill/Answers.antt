use Rattle.std.proofs.Common.{◌+◌, ◌*◌, ◌≡◌, ◌∙◌, ℕ, ap, subst, arith}
use Rattle.m4_model.specs.Matrix.{table}
use Rattle.m4_model.specs.Text.{words_per_row}
use Rattle.m4_model.proofs.MatrixLemmas.{length-table}
use Rattle.m4_mzd.specs.Window.{Window}
use Rattle.m4_mzd.proofs.PairLemmas.{copied_all}
use Rattle.m4_gen.specs.Source.{HasGiven, masked_bit}
use Rattle.m4_gen.proofs.FillLemmas.{filled_more}
use Rattle.m4_gen.proofs.source.fill.Goals as goal

pub loop-r-preserved : goal.loop-r-preserved
loop-r-preserved g c =
    let w = c.args.whole.now in
    let cols : c.loop-r.whole.cols ≡ w.cols = ap (λ (x : Window). x.cols) c.loop-r.invariant.filled in
    record {
      filled = filled_more w c.loop-r.whole c.fill_row.new.whole c.args.mask g.seed c.loop-r.r
          (let e = c.rows-r-end.ensures.rows in let t = c.loop-r-test.true in omega (arith, e, t)) c.rows-r-end.ensures.shape.matrix.height c.loop-r.invariant.filled
          c.fill_row.ensures.row;
      given = let P : ℕ → Type 0 = λ n. HasGiven g.seed ((c.loop-r.r + 1) * words_per_row n) c.fill_row.new.source in subst P cols c.fill_row.ensures.behind;
      all = c.rows-r-end.ensures.rows;
    }

pub returns : goal.returns
returns g c =
    let w = c.args.whole.now in
    let rows = table w.rows w.cols (masked_bit w.cols c.args.mask g.seed) in
    let many = length-table w.rows w.cols (masked_bit w.cols c.args.mask g.seed) in
    let h = c.rows-r-end.ensures.shape.matrix.height in
    let e = c.rows-r-end.ensures.rows in
    let a = c.loop-r.auto.r-end in
    let t = c.loop-r-test.false in
    c.loop-r.invariant.filled ∙ copied_all w rows c.loop-r.r (omega (arith, many, e, a, t)) (omega (arith, h, e, a, t))
