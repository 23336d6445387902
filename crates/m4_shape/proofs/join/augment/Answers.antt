use Rattle.std.proofs.Common.{◌≡◌, ℕ, ◌+◌, refl, ap, arith, ◌∙◌}
use Rattle.m4_model.specs.Matrix.{Matrix}
use Rattle.m4_mzd.specs.Window.{Window, content}
use Rattle.m4_mzd.specs.Seen.{shown}
use Rattle.m4_shape.proofs.PlacedLemmas.{laid, both_laid}
use Rattle.m4_shape.proofs.join.augment.Goals as goal

-- the window with B at a column, however the column is worked out
laid_at : (one : Window) (x y : ℕ) (B : Matrix) (n k : ℕ) {w : Window} → w ≡ laid one x B 0 0 n → x ≡ y → n ≡ k → w ≡ laid one y B 0 0 k
laid_at one x y B n k is place count = is ∙ (λ i. laid one (place i) B 0 0 (count i))

pub returns : goal.returns
returns c =
    let w = c.all_mut-whole.result.0 in
    let one = c.copy_columns.new.dst in
    let A = shown c.args.a.now in
    let B = shown c.args.b.now in
    let at : c.cols-cols.result ≡ A.cols = c.cols-cols.ensures.cols in
    let more : c.cols-2.result ≡ B.cols = c.cols-2.ensures.cols in
    let empty = c.all_mut-whole.ensures.content ∙ c.in_ok-m.ensures in
    c.put_all.ensures ∙ ap content (laid_at one _ A.cols B _ B.cols c.copy_columns-2.ensures (omega (arith, at)) (omega (arith, more)))
    ∙ both_laid w one A B refl (ap (λ (M : Matrix). M.rows) empty ∙ c.rows.ensures.rows) (ap (λ (M : Matrix). M.cols) empty ∙ (λ i. at i + c.cols.ensures.cols i))
    (c.copy_columns.ensures ∙ ap (laid w 0 A 0 0) at)
