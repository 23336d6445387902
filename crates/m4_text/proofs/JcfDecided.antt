-- JCF is read as a matrix or refused: one of the two can always be found.
use Rattle.std.proofs.Common.{◌≡◌, ℕ, ◌+◌, ◌^◌, ◌<◌, ◌≤◌, List, [], ◌∷◌, ◌++◌, length, Option, Some, None, refl, sym, ◌∙◌, ap, subst, arith, ◌⊎◌, inl, inr, ◌↔◌, append_assoc, append-nil}
use Rattle.std.specs.Option.{IsSome}
use Rattle.std.proofs.lemmas.Bool.{cases_lt, cases_eq}
use Rattle.m4_model.specs.Field.{gf2}
use Rattle.m4_model.specs.Matrix.{Matrix, matrix_of}
use Rattle.m4_model.specs.Text.{Fault, BadAt, PastLimit, IsWithinLimits}
use Rattle.m4_model.specs.Jcf.{Token, Entry, entry, number, tokens, judged, rows_begun, Takes, SpellsEntries, HasJcfHeader, IsJcf, ReadsJcf, RefusalJcf}
use Rattle.m4_model.proofs.FieldLemmas.{gf2_field}
use Rattle.m4_model.proofs.MatrixLemmas.{IsMatrix-matrix_of, at-table}
use Rattle.m4_text.specs.Tokens.{IsBadNumber, IsCutHeader}
use Rattle.m4_text.proofs.Decided.{limits_or_not}
use Rattle.m4_text.proofs.JcfHeaders.{no_entries, begins_all, begins_none, begins_rows, begins_cols, begins_modulus, wrong_rows, wrong_cols, wrong_modulus, wrong_unused, none_apart, other_apart, number_fault}
use Rattle.m4_text.proofs.JcfEntries.{spells_more}
use Rattle.m4_text.proofs.JcfRefusals.{bad_number, judged_all, within_limits, first_wrong}

some_or_none : {X : Type 0} (o : Option X) → ((x : X) × (o ≡ Some x)) ⊎ (o ≡ None)
some_or_none None = inr refl
some_or_none (Some x) = inl (x, refl)

-- A header, or why there is none.
abbrev HeaderOrNot : List Token → Type 0
HeaderOrNot words =
    ((m n : ℕ) × (rest : List Token) × HasJcfHeader words m n rest) ⊎ (((place : ℕ) × IsBadNumber words place) ⊎ IsCutHeader words)

behind_modulus : (a b c : Token) (m n : ℕ) → number a.bytes ≡ Some m → number b.bytes ≡ Some n → number c.bytes ≡ Some 2
    → (words : List Token) → HeaderOrNot (a ∷ b ∷ c ∷ words)
behind_modulus a b c m n rows cols modulus [] = inr (inr (record { few = omega arith; begins = begins_modulus a b c m n rows cols modulus }))
behind_modulus a b c m n rows cols modulus (t ∷ words) =
    elim (some_or_none (number t.bytes)) [
      | inr none ↦
          inr (inl (t.place, number_fault _ (a ∷ b ∷ c ∷ []) words t refl (begins_modulus a b c m n rows cols modulus) (wrong_unused a b c t none)))
      | inl (v, is) ↦
          inl (
            m,
            n,
            words,
            record {
              first = a;
              second = b;
              third = c;
              fourth = t;
              four = refl;
              rows = rows;
              cols = cols;
              modulus = modulus;
              unused = subst IsSome (sym is) refl;
            },
          )
    ]

behind_cols : (a b : Token) (m n : ℕ) → number a.bytes ≡ Some m → number b.bytes ≡ Some n → (words : List Token) → HeaderOrNot (a ∷ b ∷ words)
behind_cols a b m n rows cols [] = inr (inr (record { few = omega arith; begins = begins_cols a b m n rows cols }))
behind_cols a b m n rows cols (t ∷ words) =
    elim (some_or_none (number t.bytes)) [
      | inr none ↦
          inr (inl (t.place, number_fault _ (a ∷ b ∷ []) words t refl (begins_cols a b m n rows cols) (wrong_modulus a b t (none_apart t none))))
      | inl (v, is) ↦
          elim (cases_eq v 2) [
            | inl two ↦ behind_modulus a b t m n rows cols (is ∙ ap Some two) words
            | inr other ↦
                inr (inl (t.place, number_fault _ (a ∷ b ∷ []) words t refl (begins_cols a b m n rows cols) (wrong_modulus a b t (other_apart t v is other))))
          ]
    ]

behind_rows : (a : Token) (m : ℕ) → number a.bytes ≡ Some m → (words : List Token) → HeaderOrNot (a ∷ words)
behind_rows a m rows [] = inr (inr (record { few = omega arith; begins = begins_rows a m rows }))
behind_rows a m rows (t ∷ words) =
    elim (some_or_none (number t.bytes)) [
      | inr none ↦ inr (inl (t.place, number_fault _ (a ∷ []) words t refl (begins_rows a m rows) (wrong_cols a t none)))
      | inl (n, cols) ↦ behind_cols a t m n rows cols words
    ]

header_or_not : (words : List Token) → HeaderOrNot words
header_or_not [] = inr (inr (record { few = omega arith; begins = begins_none }))
header_or_not (t ∷ words) =
    elim (some_or_none (number t.bytes)) [
      | inr none ↦ inr (inl (t.place, number_fault _ [] words t refl begins_none (wrong_rows t none)))
      | inl (m, rows) ↦ behind_rows t m rows words
    ]

-- an entry is taken or not
takes_or_not : (m n : ℕ) (es : List Entry) (e : Entry) → Takes m n es e ⊎ (Takes m n es e → ⊥)
takes_or_not m n es e =
    elim (cases_lt 0 e.column) [
      | inr none ↦ inr (λ takes. omega (arith, takes.counted))
      | inl counted ↦
          elim (cases_lt n e.column) [
            | inl past ↦ inr (λ takes. omega (arith, takes.in_cols))
            | inr in_cols ↦
                elim (cases_lt 0 (rows_begun (es ++ e ∷ []))) [
                  | inr none ↦ inr (λ takes. omega (arith, takes.begun))
                  | inl begun ↦
                      elim (cases_lt m (rows_begun (es ++ e ∷ []))) [
                        | inl past ↦ inr (λ takes. omega (arith, takes.in_rows))
                        | inr in_rows ↦ inl (record { counted = counted; in_cols = in_cols; begun = begun; in_rows = in_rows })
                      ]
                ]
          ]
    ]

-- A token among these is the first that isn't taken as an entry.
record IsRefusedAmong (m n : ℕ) (words : List Token) : Type 0 where
  before : List Token
  token : Token
  after : List Token
  entries : List Entry
  split : words ≡ before ++ token ∷ after
  spelled : SpellsEntries m n before entries
  wrong : (e : Entry) → entry token.bytes ≡ Some e → Takes m n entries e → ⊥

entries_or_not : (m n : ℕ) (words done : List Token) (es : List Entry) → SpellsEntries m n done es
    → ((all : List Entry) × SpellsEntries m n (done ++ words) all) ⊎ IsRefusedAmong m n (done ++ words)
entries_or_not m n [] done es far = inl (es, subst (λ w. SpellsEntries m n w es) (sym (append-nil done)) far)
entries_or_not m n (t ∷ words) done es far =
    let refused : ((e : Entry) → entry t.bytes ≡ Some e → Takes m n es e → ⊥) → IsRefusedAmong m n (done ++ t ∷ words) = λ wrong.
    record { before = done; token = t; after = words; entries = es; split = refl; spelled = far; wrong = wrong } in
    elim (some_or_none (entry t.bytes)) [
      | inr none ↦ inr (refused (λ e is. let clash : None ≡ Some e = sym none ∙ is in cc (clash)))
      | inl (e, is) ↦
          elim (takes_or_not m n es e) [
            | inr wrong ↦
                inr (refused (λ f spelled takes.
                let both : Some e ≡ Some f = sym is ∙ spelled in
                let same : f ≡ e = cc (both) in
                wrong (subst (Takes m n es) same takes)))
            | inl takes ↦
                subst (λ w. ((all : List Entry) × SpellsEntries m n w all) ⊎ IsRefusedAmong m n w) (append_assoc done (t ∷ []) words)
                (entries_or_not m n words (done ++ t ∷ []) (es ++ e ∷ []) (spells_more m n done es t e far is takes))
          ]
    ]

-- Behind others, an entry stands in row i and column j.
abbrev HasBehind : List Entry → List Entry → ℕ → ℕ → Type 0
HasBehind others es i j =
    (o after : List Entry) × (e : Entry) × (es ≡ o ++ e ∷ after) × (rows_begun (others ++ (o ++ e ∷ [])) ≡ i + 1) × (e.column ≡ j + 1)

has_or_not : (es others : List Entry) (i j : ℕ) → HasBehind others es i j ⊎ (HasBehind others es i j → ⊥)
has_or_not [] others i j = inr none
  where
    none : HasBehind others [] i j → ⊥
    none ([], after, e, split, here, there) = cc (split)
    none (x ∷ o, after, e, split, here, there) = cc (split)
has_or_not (x ∷ es) others i j =
    elim (has_or_not es (others ++ x ∷ []) i j) [
      | inl (o, after, e, split, here, there) ↦
          inl (x ∷ o, after, e, ap (λ w. x ∷ w) split, ap rows_begun (sym (append_assoc others (x ∷ []) (o ++ e ∷ []))) ∙ here, there)
      | inr none ↦
          elim (cases_eq (rows_begun (others ++ x ∷ [])) (i + 1)) [
            | inr apart ↦ inr (behind none (λ here there. apart here))
            | inl here ↦
                elim (cases_eq x.column (j + 1)) [
                  | inl there ↦ inl ([], es, x, refl, here, there)
                  | inr apart ↦ inr (behind none (λ _ there. apart there))
                ]
          ]
    ]
  where
    behind : (HasBehind (others ++ x ∷ []) es i j → ⊥) → (rows_begun (others ++ x ∷ []) ≡ i + 1 → x.column ≡ j + 1 → ⊥)
        → HasBehind others (x ∷ es) i j → ⊥
    behind none first ([], after, e, split, here, there) =
        let same : e ≡ x = cc (split) in
        first (ap (λ y. rows_begun (others ++ y ∷ [])) (sym same) ∙ here) (ap (λ (y : Entry). y.column) (sym same) ∙ there)
    behind none first (y ∷ o, after, e, split, here, there) =
        let head : y ≡ x = cc (split) in
        let rest : es ≡ o ++ e ∷ after = cc (split) in
        none (
          o,
          after,
          e,
          rest,
          ap rows_begun (append_assoc others (x ∷ []) (o ++ e ∷ []) ∙ ap (λ z. others ++ (z ∷ (o ++ e ∷ []))) (sym head)) ∙ here,
          there,
        )

-- the entry of a matrix where it is known whether an entry stands
bit : {P : Type 0} → P ⊎ (P → ⊥) → ℕ
bit (inl has) = 1
bit (inr none) = 0

bit_one : {P : Type 0} (d : P ⊎ (P → ⊥)) → (bit d ≡ 1) ↔ P
unfolding bit
bit_one (inl has) = (λ _. has, λ _. refl)
bit_one (inr none) = (λ one. absurd (omega arith), λ has. absurd (none has))

bit_small : {P : Type 0} (d : P ⊎ (P → ⊥)) → bit d < 2 ^ 1
unfolding bit
bit_small (inl has) = omega arith
bit_small (inr none) = omega arith

-- the matrix of entries
read_entries : (bytes : List ℕ) (m n : ℕ) (es : List Entry) → length bytes ≤ 2 ^ 29 → IsWithinLimits 1 m n → IsJcf (tokens bytes) m n es
    → (M : Matrix) × ReadsJcf bytes M
read_entries bytes m n es short limits spelled =
    let g = λ (i j : ℕ). bit (has_or_not es [] i j) in
    let M = matrix_of gf2 m n g in (
      M,
      record {
        short = short;
        accepted = record {
          matrix = IsMatrix-matrix_of gf2 m n g gf2_field (λ i j in_rows in_cols. bit_small (has_or_not es [] i j));
          over_gf2 = refl;
          limits = limits;
        };
        entries = es;
        spelled = spelled;
        ones = λ i j in_rows in_cols.
            let value = at-table m n g i j in_rows in_cols in
            let one = bit_one (has_or_not es [] i j) in
            (λ is. one.0 (sym value ∙ is), λ has. value ∙ one.1 has);
      },
    )

-- JCF is read or refused
pub jcf_or_not : (bytes : List ℕ) → ((M : Matrix) × ReadsJcf bytes M) ⊎ ((fault : Fault) × RefusalJcf bytes fault)
jcf_or_not bytes =
    elim (header_or_not (judged bytes)) [
      | inr none ↦
          elim none [
            | inl (place, bad) ↦
                let (t, refused, limits, here) = bad_number (judged bytes) place bad in
                inr (BadAt place, inl (record { token = t; refused = refused; limits = limits; here = here }))
            | inr cut ↦
                elim (cases_lt (2 ^ 29) (length bytes)) [
                  | inl long ↦ inr (PastLimit, inr (long, cut.begins))
                  | inr short ↦ inr (BadAt (length bytes), inr (record { short = short; begins = cut.begins; few = cut.few; here = refl }))
                ]
          ]
      | inl (m, n, rest, h) ↦
          elim (limits_or_not m n) [
            | inr past ↦ inr (PastLimit, inl (m, n, rest, h, past))
            | inl limits ↦
                elim (entries_or_not m n rest [] [] (no_entries m n)) [
                  | inr bad ↦
                      inr (
                        BadAt bad.token.place,
                        inl (record {
                          token = bad.token;
                          refused = first_wrong (judged bytes) m n rest h bad.before bad.after bad.token bad.entries bad.split bad.spelled bad.wrong;
                          limits = within_limits (judged bytes) m n rest h limits;
                          here = refl;
                        }),
                      )
                  | inl (es, spelled) ↦
                      let is : IsJcf (judged bytes) m n es = record { rest = rest; header = h; body = spelled } in
                      elim (cases_lt (2 ^ 29) (length bytes)) [
                        | inl long ↦ inr (PastLimit, inr (long, begins_all (judged bytes) m n es is))
                        | inr short ↦ inl (read_entries bytes m n es short limits (subst (λ w. IsJcf w m n es) (judged_all bytes short) is))
                      ]
                ]
          ]
    ]
