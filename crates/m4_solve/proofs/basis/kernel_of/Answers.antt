use Rattle.std.proofs.Common.{◌≡◌, ℕ, refl, ◌∙◌, sym, subst, ap, arith, List, length}
use Rattle.m4_model.specs.Matrix.{Matrix}
use Rattle.m4_model.specs.Forms.{Reduced}
use Rattle.m4_model.proofs.FieldLaws.{FieldLaws}
use Rattle.m4_model.proofs.FieldProofs.{field_laws}
use Rattle.m4_solve.specs.Reduction.{IsReducedAt}
use Rattle.m4_solve.specs.Kernel.{AreOthers}
use Rattle.m4_solve.proofs.Ranks.{pivots_seen, others_count}
use Rattle.m4_solve.proofs.KernelLemmas.{kernel_read}
use Rattle.m4_solve.proofs.basis.kernel_of.Goals as goal

-- a form with pivots that are known by another name
form_seen : {R : Matrix} {items seen : List ℕ} → seen ≡ items → Reduced R items → Reduced R seen
form_seen {R} same form = subst (Reduced R) (sym same) form

pub others_below-requires : goal.others_below-requires
others_below-requires c = (form_seen c.as_slice-pivots.ensures.value c.requires.form).echelon.rising

pub basis_for-requires-clause-rising : goal.basis_for-requires-clause-rising
basis_for-requires-clause-rising c = (form_seen c.as_slice-pivots.ensures.value c.requires.form).echelon.rising

pub basis_for-requires-clause-in_rows : goal.basis_for-requires-clause-in_rows
basis_for-requires-clause-in_rows c = (form_seen c.as_slice-pivots.ensures.value c.requires.form).echelon.within

pub basis_for-requires-clause-in_cols : goal.basis_for-requires-clause-in_cols
basis_for-requires-clause-in_cols c = (form_seen c.as_slice-pivots.ensures.value c.requires.form).echelon.columns

pub returns-clause-kernel : goal.returns-clause-kernel
returns-clause-kernel c A known =
    let R = c.args.form.now.matrix in
    let q = c.as_slice-pivots.result.now in
    let reduced : IsReducedAt R A q = pivots_seen _ _ _ _ _ c.as_slice-pivots.ensures.value refl known in
    let laws : FieldLaws A.field = subst FieldLaws reduced.form.shape.over (field_laws R.field c.cols.ensures.matrix.over_field) in
    let others : AreOthers A.cols q c.in_ok-free.free.items = subst (λ (n : ℕ). AreOthers n q c.in_ok-free.free.items) (c.cols.ensures.cols ∙ reduced.form.shape.cols) c.in_ok-free.ensures in
    kernel_read A R c.in_ok-basis.basis q c.deref.result.now laws reduced (subst (AreOthers A.cols q) (sym c.deref.ensures.value) others) c.in_ok-basis.ensures

pub returns-clause-rows : goal.returns-clause-rows
returns-clause-rows c =
    let q = c.as_slice-pivots.result.now in
    let form = form_seen c.as_slice-pivots.ensures.value c.requires.form in
    let width = c.cols.ensures.cols in
    let count = others_count c.cols.result q c.in_ok-free.free.items form.echelon.rising
    (λ s inside. let low = form.echelon.columns s inside in omega (arith, low, width)) c.in_ok-free.ensures in
    let rows = c.in_ok-basis.ensures.shape.rows in
    let pivots = ap length c.as_slice-pivots.ensures.value in
    let free = ap length c.deref.ensures.value in
    omega (arith, count, width, rows, pivots, free)
