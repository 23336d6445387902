-- The two versions of a headed text.
use Rattle.std.proofs.Common.{◌≡◌, ℕ, List, refl, sym, ◌∙◌, ap, subst, arith, ◌⊎◌, inl, inr}
use Rattle.std.proofs.lemmas.Bool.{cond-false, ne_eqb}
use Rattle.m4_model.specs.Field.{Field, width, IsExtension}
use Rattle.m4_model.specs.Matrix.{Matrix}
use Rattle.m4_model.specs.Text.{IsWithinLimits}
use Rattle.m4_model.specs.Headed.{Spelling, Bits, Fours, Elements, Reads, HasField, field_of, text_in, headed_text, hex_text, first_version, second_version}
use Rattle.m4_etext.specs.Pieces.{Kept, StandsForLines}
use Rattle.m4_etext.specs.Kinds.{spelled_by, Suits}
use Rattle.m4_etext.specs.declared.kind.Kind.{Kind}
use Rattle.m4_etext.specs.declared.kind.Kind.TheVariants.{OfBits, OfFours, OfElements}
use Rattle.m4_etext.proofs.Pieces.{lines_read}

-- the spellings of a field
pub first_of_extension : (F : Field) → IsExtension F → first_version F ≡ Elements F
first_of_extension F is = let low = is.degree_low in cond-false _ _ _ (ne_eqb F.degree 1 (λ one. omega (arith, low, one)))

pub second_of_extension : (F : Field) → IsExtension F → second_version F ≡ Elements F
second_of_extension F is = let low = is.degree_low in cond-false _ _ _ (ne_eqb F.degree 1 (λ one. omega (arith, low, one)))

-- a text in a spelling is one of the versions
pub of_version : (S : Spelling) (M : Matrix) (bytes : List ℕ) → HasField S → M.field ≡ field_of S → bytes ≡ text_in S M → (bytes ≡ headed_text M) ⊎ (bytes ≡ hex_text M)
of_version Bits M bytes has field e = inl (e ∙ ap (λ S. text_in S M) (sym (ap first_version field)))
of_version Fours M bytes has field e = inr (e ∙ ap (λ S. text_in S M) (sym (ap second_version field)))
of_version (Elements F) M bytes has field e = inl (e ∙ ap (λ S. text_in S M) (sym (ap first_version field ∙ first_of_extension F has)))

-- all lines are there, and the matrix is read
pub lines_whole : (k : Kept) (bytes : List ℕ) → StandsForLines k bytes → k.row_next ≡ k.matrix.rows → Reads bytes k.matrix
lines_whole k bytes stands all =
    let (e, matrix) = lines_read k bytes stands all in
    let field = stands.read.field in
    record {
      accepted = record { matrix = matrix; limits = subst (λ F. IsWithinLimits (width F) k.matrix.rows k.matrix.cols) (sym field) stands.limits };
      spelled = of_version k.spelling k.matrix bytes stands.has_field field e;
    }

-- the field of a spelling
pub field_suits : (kind : Kind) (F : Field) → Suits kind F → field_of (spelled_by kind F) ≡ F
field_suits OfBits F suits = sym suits
field_suits OfFours F suits = sym suits
field_suits OfElements F suits = refl
