-- Matrices with the same entries, and packed ones with the same bits.
use Rattle.std.proofs.Common.{◌≡◌, Bool, true, ℕ, ◌+◌, ◌*◌, ◌/◌, ◌%◌, ◌<◌, refl, sym, ◌∙◌, ap, subst, arith}
use Rattle.std.specs.Prelude.{◌==◌, ◌&&◌}
use Rattle.std.specs.Bool.{Decides, one_answer}
use Rattle.std.specs.Int.{bit_at}
use Rattle.std.proofs.Math.Nat.{div-lt_iff_lt-mul, mod-lt, mod-add-div'}
use Rattle.std.proofs.lemmas.Bool.Decides.{Decides-eqb, Decides-and}
use Rattle.m4_model.specs.Field.{Field, gf2, width}
use Rattle.m4_model.specs.Matrix.{Matrix, IsMatrix, at}
use Rattle.m4_model.proofs.MatrixLemmas.{same_matrix}
use Rattle.m4_field.proofs.WidthLemmas.{width_facts}
use Rattle.m4_mzd.specs.Equal.{are_equal as have_equal_entries}
use Rattle.m4_mzd.proofs.EqualLemmas.{Decides-are_equal as Decides-entries}
use Rattle.m4_mzed.specs.Equal.{are_equal}
use Rattle.m4_mzed.specs.Owned.{e_matrix}
use Rattle.m4_mzed.specs.PackedIn.{IsPackedIn}
use Rattle.m4_mzed.proofs.RectLemmas.{matrix_bit}

-- two matrices of one shape with the same entries are the same
pub same_from_entries : (A B : Matrix) → IsMatrix A → IsMatrix B → B.field ≡ A.field → B.rows ≡ A.rows → B.cols ≡ A.cols
    → ((i j : ℕ) → i < A.rows → j < A.cols → at A i j ≡ at B i j) → A ≡ B
same_from_entries A B a b field rows cols same =
    same_matrix A.field A.rows A.cols (at A) A refl refl refl a.height a.width (λ i j below within. refl)
    ∙ sym (same_matrix A.field A.rows A.cols (at A) B field rows cols (b.height ∙ rows) (λ i below. b.width i (omega (arith, rows, below)) ∙ cols)
    (λ i j below within. sym (same i j below within)))

-- packed matrices with the same elements have the same bits
pub same_packed : (F : Field) (n : ℕ) (P Q : Matrix) → IsPackedIn F n P → IsPackedIn F n Q → IsMatrix P → IsMatrix Q → P.field ≡ gf2 → Q.field ≡ gf2
    → e_matrix F n P ≡ e_matrix F n Q → P ≡ Q
same_packed F n P Q p q p_shape q_shape p_over q_over same =
    let k = width F in
    let rows : Q.rows ≡ P.rows = sym (ap (λ (M : Matrix). M.rows) same) in
    let some : 0 < k = let f = width_facts F p.carried in omega (arith, f, p.carried.degree_low) in
    same_from_entries P Q p_shape q_shape (q_over ∙ sym p_over) rows (q.wide ∙ sym p.wide) (λ i j below within.
    let in_cols : j / k < n = (div-lt_iff_lt-mul some).1 (let e = p.wide in omega (arith, e, within)) in
    let in_place : j % k < k = mod-lt j some in
    let place : j ≡ j / k * k + j % k = let e = mod-add-div' j k in omega (arith, e) in
    ap (at P i) place
    ∙ matrix_bit F n P p p_shape p_over i (j / k) (j % k) below in_cols in_place
    ∙ ap (λ (A : Matrix). bit_at (at A i (j / k)) (j % k)) same
    ∙ sym (matrix_bit F n Q q q_shape q_over i (j / k) (j % k) (omega (arith, rows, below)) in_cols in_place)
    ∙ sym (ap (at Q i) place))

-- the bits of two matrices over fields, with one degree, polynomial and number of columns
pub same_elements : (F G : Field) (n m : ℕ) (P Q A B : Matrix) → e_matrix F n P ≡ A → e_matrix G m Q ≡ B → F.degree ≡ G.degree → F.poly ≡ G.poly → n ≡ m → P ≡ Q → A ≡ B
same_elements F G n m P Q A B is other degree poly cols same =
    sym is ∙ (λ i. e_matrix (record { degree = degree i; poly = poly i }) (cols i) (same i)) ∙ other

pub same_bits : (F G : Field) (n m : ℕ) (P Q A B : Matrix) → e_matrix F n P ≡ A → e_matrix G m Q ≡ B → IsPackedIn F n P → IsPackedIn G m Q
    → IsMatrix P → IsMatrix Q → P.field ≡ gf2 → Q.field ≡ gf2 → A ≡ B → P ≡ Q
same_bits F G n m P Q A B is other p q p_shape q_shape p_over q_over same =
    let whole : e_matrix F n P ≡ e_matrix G m Q = is ∙ same ∙ sym other in
    let field : G ≡ F = sym (ap (λ (M : Matrix). M.field) whole) in
    let cols : m ≡ n = sym (ap (λ (M : Matrix). M.cols) whole) in
    let S : Field → Type 0 = λ H. IsPackedIn H m Q in
    let T : ℕ → Type 0 = λ c. IsPackedIn F c Q in
    same_packed F n P Q p (subst T cols (subst S field q)) p_shape q_shape p_over q_over
    (whole ∙ (λ i. e_matrix (field i) (cols i) Q))

-- the test of matrices decides whether they are equal
same_field : (A B : Matrix) → A.field.degree ≡ B.field.degree → A.field.poly ≡ B.field.poly → A.field ≡ B.field
same_field A B degree poly = λ i. record { degree = degree i; poly = poly i }

pub Decides-are_equal : (A B : Matrix) → Decides (are_equal A B) (A ≡ B)
Decides-are_equal A B =
    let both = Decides-and (A.field.degree == B.field.degree) ((A.field.poly == B.field.poly) && have_equal_entries A B) (Decides-eqb A.field.degree B.field.degree)
    (Decides-and (A.field.poly == B.field.poly) (have_equal_entries A B) (Decides-eqb A.field.poly B.field.poly) (itself (have_equal_entries A B))) in (
      λ yes. let parts = both.0 yes in (Decides-entries A B (same_field A B parts.0 parts.1.0)).0 parts.1.1,
      λ same. both.1 (
        ap (λ (M : Matrix). M.field.degree) same,
        (ap (λ (M : Matrix). M.field.poly) same, (Decides-entries A B (ap (λ (M : Matrix). M.field) same)).1 same),
      ),
    )
  where
    itself : (b : Bool) → Decides b (b ≡ true)
    itself b = (λ yes. yes, λ yes. yes)

pub told : (A B : Matrix) (r : Bool) → Decides r (A ≡ B) → r ≡ are_equal A B
told A B r says = one_answer r (are_equal A B) says (Decides-are_equal A B)
