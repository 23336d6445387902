-- A headed text is refused with one fault.
use Rattle.std.proofs.Common.{◌≡◌, ℕ, ◌++◌, List, length, codes, decimal, refl, sym, ◌∙◌, ap, subst, subst₂, ◌⊎◌, inl, inr}
use Rattle.std.proofs.lemmas.Bool.{cases_order}
use Rattle.m4_model.specs.Field.{Field, width, IsExtension}
use Rattle.m4_model.specs.Text.{IsLongest, IsWithinLimits}
use Rattle.m4_model.specs.Headed.{Spelling, Elements, HasHeader, HasField, IsHeader, IsBadHeader, IsTextOf, IsDegree, Refusal, Fault, BadAt, BadDegreeAt, ReducibleAt, PastLimit, field_of}
use Rattle.m4_etext.proofs.Once.{same_sizes}

-- the longest front has one length
pub longest_once : (P : List ℕ → Type 0) (bytes : List ℕ) (m n : ℕ) → IsLongest P bytes m → IsLongest P bytes n → m ≡ n
longest_once P bytes m n first second =
    elim (cases_order m n) [
      | inl same ↦ same
      | inr (inl less) ↦ absurd (first.longest n less second.within second.begins)
      | inr (inr more) ↦ absurd (second.longest m more first.within first.begins)
    ]

-- why bytes that begin with this header line are refused
abbrev Behind : List ℕ → Spelling → ℕ → ℕ → Fault → Type 0
Behind bytes S m n (BadAt place) = HasField S × IsWithinLimits (width (field_of S)) m n × IsLongest (IsTextOf S m n) bytes place
Behind bytes S m n (BadDegreeAt place) = (F : Field) × (S ≡ Elements F) × (IsDegree F.degree → ⊥) × (place ≡ length (codes "gf2e "))
Behind bytes S m n (ReducibleAt place) = (F : Field) × (S ≡ Elements F) × IsDegree F.degree × (IsExtension F → ⊥) × (place ≡ length (codes "gf2e " ++ (decimal F.degree ++ codes " ")))
Behind bytes S m n PastLimit = HasField S × (IsWithinLimits (width (field_of S)) m n → ⊥)

-- the header line is refused, or what it tells, or what stands behind it
abbrev IsHeadOf : List ℕ → Fault → Type 0
IsHeadOf bytes fault = (place : ℕ) × (fault ≡ BadAt place) × IsBadHeader bytes place

abbrev IsBehind : List ℕ → Fault → Type 0
IsBehind bytes fault = (S : Spelling) × (m n : ℕ) × HasHeader bytes S m n × Behind bytes S m n fault

where_refused : (bytes : List ℕ) (fault : Fault) → Refusal bytes fault → IsHeadOf bytes fault ⊎ IsBehind bytes fault
where_refused bytes (BadAt place) (inl bad) = inl (place, refl, bad)
where_refused bytes (BadAt place) (inr bad) = inr (bad.spelling, bad.rows, bad.cols, bad.begins, (bad.field, bad.limits, bad.longest))
where_refused bytes (BadDegreeAt place) bad = inr (Elements bad.field, bad.rows, bad.cols, bad.begins, (bad.field, refl, bad.refused, bad.here))
where_refused bytes (ReducibleAt place) bad = inr (Elements bad.field, bad.rows, bad.cols, bad.begins, (bad.field, refl, bad.degree, bad.refused, bad.here))
where_refused bytes PastLimit bad = inr (bad.spelling, bad.rows, bad.cols, bad.begins, (bad.field, bad.past))

-- a header line tells one field, or none
no_degree : (S : Spelling) (F : Field) → HasField S → S ≡ Elements F → (IsDegree F.degree → ⊥) → ⊥
no_degree S F has is none = let field : IsExtension F = subst HasField is has in none (field.degree_low, field.degree_high)

no_field : (S : Spelling) (F : Field) → HasField S → S ≡ Elements F → (IsExtension F → ⊥) → ⊥
no_field S F has is none = none (subst HasField is has)

same_field : (S : Spelling) (F G : Field) → S ≡ Elements F → S ≡ Elements G → F ≡ G
same_field S F G first second = ap field_of (sym first ∙ second)

-- behind one header line there is one fault
behind_once : (bytes : List ℕ) (S : Spelling) (m n : ℕ) (f g : Fault) → Behind bytes S m n f → Behind bytes S m n g → f ≡ g
behind_once bytes S m n (BadAt p) (BadAt q) (has, limits, first) (has', limits', second) = ap BadAt (longest_once (IsTextOf S m n) bytes p q first second)
behind_once bytes S m n (BadAt p) (BadDegreeAt q) (has, limits, first) (F, is, none, here) = absurd (no_degree S F has is none)
behind_once bytes S m n (BadAt p) (ReducibleAt q) (has, limits, first) (F, is, degree, none, here) = absurd (no_field S F has is none)
behind_once bytes S m n (BadAt p) PastLimit (has, limits, first) (has', past) = absurd (past limits)
behind_once bytes S m n (BadDegreeAt p) (BadAt q) (F, is, none, here) (has, limits, second) = absurd (no_degree S F has is none)
behind_once bytes S m n (BadDegreeAt p) (BadDegreeAt q) (F, is, none, here) (G, is', none', here') = ap BadDegreeAt (here ∙ sym here')
behind_once bytes S m n (BadDegreeAt p) (ReducibleAt q) (F, is, none, here) (G, is', degree, none', here') = absurd (none (subst (λ (H : Field). IsDegree H.degree) (same_field S G F is' is) degree))
behind_once bytes S m n (BadDegreeAt p) PastLimit (F, is, none, here) (has, past) = absurd (no_degree S F has is none)
behind_once bytes S m n (ReducibleAt p) (BadAt q) (F, is, degree, none, here) (has, limits, second) = absurd (no_field S F has is none)
behind_once bytes S m n (ReducibleAt p) (BadDegreeAt q) (F, is, degree, none, here) (G, is', none', here') = absurd (none' (subst (λ (H : Field). IsDegree H.degree) (same_field S F G is is') degree))
behind_once bytes S m n (ReducibleAt p) (ReducibleAt q) (F, is, degree, none, here) (G, is', degree', none', here') =
    ap ReducibleAt (here ∙ ap (λ (H : Field). length (codes "gf2e " ++ (decimal H.degree ++ codes " "))) (same_field S F G is is') ∙ sym here')
behind_once bytes S m n (ReducibleAt p) PastLimit (F, is, degree, none, here) (has, past) = absurd (no_field S F has is none)
behind_once bytes S m n PastLimit (BadAt q) (has, past) (has', limits, second) = absurd (past limits)
behind_once bytes S m n PastLimit (BadDegreeAt q) (has, past) (F, is, none, here) = absurd (no_degree S F has is none)
behind_once bytes S m n PastLimit (ReducibleAt q) (has, past) (F, is, degree, none, here) = absurd (no_field S F has is none)
behind_once bytes S m n PastLimit PastLimit first second = refl

-- so there is one in all
pub refused_once : (bytes : List ℕ) (f g : Fault) → Refusal bytes f → Refusal bytes g → f ≡ g
refused_once bytes f g first second =
    elim (where_refused bytes f first) [
      | inl (p, is, bad) ↦
          elim (where_refused bytes g second) [
            | inl (q, is', bad') ↦ is ∙ ap BadAt (longest_once IsHeader bytes p q bad.longest bad'.longest) ∙ sym is'
            | inr (S, m, n, begins, behind) ↦ absurd (bad.none S m n begins)
          ]
      | inr (S, m, n, begins, behind) ↦
          elim (where_refused bytes g second) [
            | inl (q, is', bad') ↦ absurd (bad'.none S m n begins)
            | inr (T, k, l, begins', behind') ↦
                let same = same_sizes bytes T S k l m n begins' begins in
                let there = subst (λ U. Behind bytes U k l g) same.spelling behind' in
                behind_once bytes S m n f g behind (subst₂ (λ i j. Behind bytes S i j g) same.rows same.cols there)
          ]
    ]
