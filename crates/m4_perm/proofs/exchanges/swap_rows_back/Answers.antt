use Rattle.std.proofs.Common.{◌≡◌, ◌-◌, drop, length, sym, ap, ◌∙◌, arith}
use Rattle.m4_model.specs.Matrix.{Matrix}
use Rattle.m4_model.specs.Shapes.{swaps}
use Rattle.m4_model.specs.Step.{reordered}
use Rattle.m4_mzd.specs.Window.{Window, content}
use Rattle.m4_perm.proofs.RowsLemmas.{rows_back, back_next, back_none, undone_rows, one_before}
use Rattle.m4_perm.proofs.exchanges.swap_rows_back.Goals as goal
use Rattle.m4_perm.proofs.exchanges.swap_rows_back.Goals.{After-loop-done}

pub loop-done-init : goal.loop-done-init
loop-done-init c = ap {B = Window} (λ rows. record c.args.a.now { bits = rows }) (sym (back_none _ c.args.exchanges.now c.args.a.now.bits (omega arith)))

pub loop-done-preserved : goal.loop-done-preserved
loop-done-preserved c =
    back_next c.args.a.now c.loop-done.a c.swap_rows.new.self c.args.exchanges.now c.loop-done.done (omega arith) c.loop-done.invariant c.swap_rows.ensures

-- the window at the end
last : (c : After-loop-done) → c.loop-done.a ≡ record c.args.a.now { bits = rows_back 0 c.args.exchanges.now c.args.a.now.bits }
last c =
    let none : length c.args.exchanges.now - c.loop-done.done ≡ 0 = omega arith in
    c.loop-done.invariant ∙ ap {B = Window} (λ k. record c.args.a.now { bits = rows_back k (drop k c.args.exchanges.now) c.args.a.now.bits }) none

pub returns-clause-others : goal.returns-clause-others
returns-clause-others c = last c ∙ ap {B = Window} (λ rows. record c.args.a.now { bits = rows }) (sym (ap (λ (w : Window). w.bits) (last c)))

pub returns-clause-undone : goal.returns-clause-undone
returns-clause-undone c =
    let w = c.args.a.now in
    let list = c.args.exchanges.now in
    ap (λ (x : Window). reordered (swaps w.rows list) (content x)) (last c)
    ∙ ap {B = Matrix} (λ rows. record (content w) { entries = rows }) (undone_rows (content w) list c.rows-rows.ensures.shape.matrix c.requires)

pub returns-clause-one : goal.returns-clause-one
returns-clause-one c = λ A shape made.
    let w = c.args.a.now in
    ap content (last c) ∙ one_before (content w) c.args.exchanges.now c.rows-rows.ensures.shape.matrix c.requires A shape made
