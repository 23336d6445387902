use Rattle.std.proofs.Common.{◌≡◌, ℕ, ◌∙◌, refl, sym, subst, ap, take, List}
use Rattle.m4_model.specs.Field.{Field}
use Rattle.m4_model.specs.Matrix.{Matrix, IsMatrix, HasShape}
use Rattle.m4_model.specs.Forms.{Echelon}
use Rattle.m4_model.proofs.FieldProofs.{field_laws}
use Rattle.m4_model.proofs.ShapeLemmas.{HasShape-own, at_shape}
use Rattle.m4_model.proofs.EquivalenceLemmas.{RowEquivalent, RowEquivalent-trans, equivalent_of_ple, reduced_from_equivalent}
use Rattle.m4_mzed.specs.EWindow.{EWindow, content, showing}
use Rattle.m4_ple.specs.Held.{HoldsPle}
use Rattle.m4_ple.specs.Parts.{echelon_part}
use Rattle.m4_ple.proofs.Echelons.{echelon_held}
use Rattle.m4_solve.proofs.reduce.reduce_window.Given.{Over}
use Rattle.m4_solve.proofs.reduce.reduce_window.Goals.{After-cols-cols}
use Rattle.m4_solve.proofs.reduce.reduce_window.Goals as goal

-- the echelon form that a PLE in place holds
kept_form : (A W : Matrix) (p q : List ℕ) (held : HoldsPle A p q W) → HasShape A.field A.rows A.cols W → held.e ≡ echelon_part q W
kept_form A W p q held shape = echelon_held q held.l held.e W held.factors.e_shape held.factors.e_form.rising shape held.stored

-- a window that was written to has the shape that it had
kept_shape : {F : Field} {m n : ℕ} (v w : EWindow) → HasShape F m n (content v) → IsMatrix (content w) → w ≡ showing v (content w) → HasShape F m n (content w)
kept_shape v w old matrix kept = record {
  is_matrix = matrix;
  over = ap (λ (V : EWindow). V.field) kept ∙ old.over;
  rows = ap (λ (V : EWindow). V.rows) kept ∙ old.rows;
  cols = ap (λ (V : EWindow). V.cols) kept ∙ old.cols;
}

-- the matrix with its PLE in place
factored_shape : (g : Over) → (c : After-cols-cols g) → HasShape c.args.a.now.field c.args.a.now.rows c.args.a.now.cols (content c.ple_by_halves-rank.new.a)
factored_shape g c =
    let kept = c.ple_by_halves-rank.ensures.kept in
    record {
      is_matrix = c.cols-cols.ensures.matrix;
      over = ap (λ (V : EWindow). V.field) kept;
      rows = ap (λ (V : EWindow). V.rows) kept;
      cols = ap (λ (V : EWindow). V.cols) kept;
    }

pub scale_pivots-requires : goal.scale_pivots-requires
scale_pivots-requires g c =
    let A = content c.args.a.now in
    let W = content c.ple_by_halves-rank.new.a in
    let q = take c.ple_by_halves-rank.result c.ple_by_halves-rank.new.q in
    let held = c.ple_by_halves-rank.ensures.factors in
    let form = kept_form A W _ q held (factored_shape g (goal.at.scale_pivots-requires g c).After-cols-cols) in
    record { echelon = subst (λ (M : Matrix). Echelon M q) (form ∙ sym (ap content c.keep_echelon.ensures.echelon)) held.factors.e_form }

pub returns-clause-reduced : goal.returns-clause-reduced
returns-clause-reduced g c =
    let A = content c.args.a.now in
    let W = content c.ple_by_halves-rank.new.a in
    let E = content c.keep_echelon.new.a in
    let S = content c.scale_pivots.new.a in
    let R = content c.clear_above.new.a in
    let q = take c.ple_by_halves-rank.result c.ple_by_halves-rank.new.q in
    let held = c.ple_by_halves-rank.ensures.factors in
    let matrix = c.rows-rows.ensures.matrix in
    let laws = field_laws A.field matrix.over_field in
    let w : HasShape A.field A.rows A.cols W = factored_shape g (goal.at.returns-clause-reduced g c).After-cols-cols in
    let form : held.e ≡ E = kept_form A W _ q held w ∙ sym (ap content c.keep_echelon.ensures.echelon) in
    let e : HasShape A.field A.rows A.cols E = subst (HasShape A.field A.rows A.cols) form held.factors.e_shape in
    let s : HasShape A.field A.rows A.cols S = kept_shape c.keep_echelon.new.a c.scale_pivots.new.a e c.rows-scaled.ensures.matrix c.scale_pivots.ensures.kept in
    let r : HasShape A.field A.rows A.cols R = kept_shape c.scale_pivots.new.a c.clear_above.new.a s c.rows-shape.ensures.matrix c.clear_above.ensures.kept in
    let scaled : RowEquivalent A.field A.rows S E = at_shape e (λ F m n. RowEquivalent F m S E) c.scale_pivots.ensures.same in
    let cleared : RowEquivalent A.field A.rows R S = at_shape s (λ F m n. RowEquivalent F m R S) c.clear_above.ensures.same in
    let factored : RowEquivalent A.field A.rows E A
    = subst (λ (M : Matrix). RowEquivalent A.field A.rows M A) form (equivalent_of_ple A _ q _ held.l held.e laws matrix held.factors) in
    let own = HasShape-own A matrix in
    let same : RowEquivalent A.field A.rows R A
    = RowEquivalent-trans laws r own cleared (RowEquivalent-trans laws s own scaled factored) in
    record { form = reduced_from_equivalent R A q r c.clear_above.ensures.reduced same; at_pivots = refl }
