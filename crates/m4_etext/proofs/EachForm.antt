-- In each form no bytes are both read and refused, they are refused with one fault, and a text is read back.
use Rattle.std.proofs.Common.{◌≡◌, ℕ, ◌^◌, ◌≤◌, List, length, refl, sym, ◌∙◌, ap, subst, inl, inr}
use Rattle.m4_model.specs.Field.{gf2, width}
use Rattle.m4_model.specs.Matrix.{Matrix}
use Rattle.m4_model.specs.Text.{IsWithinLimits}
use Rattle.m4_model.specs.Text.{Fault as BitsFault, BadAt as bits_bad_at, PastLimit as bits_past_limit, InLimits as InLimitsBits}
use Rattle.m4_model.specs.Texts.{RefusalAs as RefusalBits}
use Rattle.m4_model.specs.Headed.{Fault, BadAt, BadDegreeAt, ReducibleAt, PastLimit, InLimits}
use Rattle.m4_model.specs.FormTexts.{can_hold, text_as, ReadsAs, RefusalAs, RefusalBare, RefusalJcf}
use Rattle.m4_model.specs.declared.form.Form.{Form}
use Rattle.m4_model.specs.declared.form.Form.TheVariants.{Headed, Bare, Jcf, Hex}
use Rattle.m4_text.proofs.Once.{never_both as never_both_bits, one_matrix as one_matrix_bits, one_fault as one_fault_bits}
use Rattle.m4_text.proofs.JcfBack.{read_back as read_back_bits}
use Rattle.m4_etext.proofs.Once.{read_or_refused}
use Rattle.m4_etext.proofs.OneFault.{refused_once}
use Rattle.m4_etext.proofs.OneMatrix.{read_once}

-- a fault of a text over GF(2), among those over every field
abbrev raised : BitsFault → Fault
raised (bits_bad_at place) = BadAt place
raised bits_past_limit = PastLimit

-- a refusal over every field is one over GF(2)
bare_raised : (bytes : List ℕ) (fault : Fault) → RefusalBare bytes fault → (low : BitsFault) × RefusalBits Bare bytes low × (raised low ≡ fault)
bare_raised bytes (BadAt place) refused = (bits_bad_at place, refused, refl)
bare_raised bytes (BadDegreeAt place) refused = absurd refused
bare_raised bytes (ReducibleAt place) refused = absurd refused
bare_raised bytes PastLimit refused = (bits_past_limit, refused, refl)

jcf_raised : (bytes : List ℕ) (fault : Fault) → RefusalJcf bytes fault → (low : BitsFault) × RefusalBits Jcf bytes low × (raised low ≡ fault)
jcf_raised bytes (BadAt place) refused = (bits_bad_at place, refused, refl)
jcf_raised bytes (BadDegreeAt place) refused = absurd refused
jcf_raised bytes (ReducibleAt place) refused = absurd refused
jcf_raised bytes PastLimit refused = (bits_past_limit, refused, refl)

pub never_both : (form : Form) (bytes : List ℕ) (M : Matrix) (fault : Fault) → ReadsAs form bytes M → RefusalAs form bytes fault → ⊥
never_both Headed bytes M fault reads refused = read_or_refused bytes M fault reads refused
never_both Bare bytes M fault reads refused = let low = bare_raised bytes fault refused in never_both_bits Bare bytes M low.0 reads low.1
never_both Jcf bytes M fault reads refused = let low = jcf_raised bytes fault refused in never_both_bits Jcf bytes M low.0 reads low.1
never_both Hex bytes M fault reads refused = read_or_refused bytes M fault reads refused

pub one_fault : (form : Form) (bytes : List ℕ) (f g : Fault) → RefusalAs form bytes f → RefusalAs form bytes g → f ≡ g
one_fault Headed bytes f g first second = refused_once bytes f g first second
one_fault Bare bytes f g first second =
    let low = bare_raised bytes f first in
    let other = bare_raised bytes g second in
    sym low.2 ∙ ap raised (one_fault_bits Bare bytes low.0 other.0 low.1 other.1) ∙ other.2
one_fault Jcf bytes f g first second =
    let low = jcf_raised bytes f first in
    let other = jcf_raised bytes g second in
    sym low.2 ∙ ap raised (one_fault_bits Jcf bytes low.0 other.0 low.1 other.1) ∙ other.2
one_fault Hex bytes f g first second = refused_once bytes f g first second

pub one_matrix : (form : Form) (bytes : List ℕ) (A B : Matrix) → ReadsAs form bytes A → ReadsAs form bytes B → A ≡ B
one_matrix Headed bytes A B first second = read_once bytes A B first second
one_matrix Bare bytes A B first second = one_matrix_bits Bare bytes A B first second
one_matrix Jcf bytes A B first second = one_matrix_bits Jcf bytes A B first second
one_matrix Hex bytes A B first second = read_once bytes A B first second

-- a matrix over GF(2) within the limits
over_bits_within : (M : Matrix) → InLimits M → M.field ≡ gf2 → InLimitsBits M
over_bits_within M accepted over = record {
  matrix = accepted.matrix;
  over_gf2 = over;
  limits = subst (λ F. IsWithinLimits (width F) M.rows M.cols) over accepted.limits;
}

pub read_back : (form : Form) (M : Matrix) → InLimits M → can_hold form M → length (text_as form M) ≤ 2 ^ 29 → ReadsAs form (text_as form M) M
read_back Headed M accepted held short = record { accepted = accepted; spelled = inl refl }
read_back Bare M accepted held short = read_back_bits Bare M (over_bits_within M accepted held.0) held.1 short
read_back Jcf M accepted held short = read_back_bits Jcf M (over_bits_within M accepted held.0) held.1 short
read_back Hex M accepted held short = record { accepted = accepted; spelled = inr refl }
