-- The header of JCF, token by token.
use Rattle.std.proofs.Common.{◌≡◌, ℕ, ◌<◌, Bool, List, [], ◌∷◌, ◌++◌, length, Some, None, codes, refl, sym, ◌∙◌, ap, subst, arith, inl, inr, append_assoc, append-nil, length-append}
use Rattle.std.specs.Option.{IsSome}
use Rattle.std.proofs.lemmas.Bool.{false≢true}
use Rattle.m4_model.specs.Jcf.{Token, number, SpellsEntries, HasJcfHeader, BeginsJcf, Entry, IsJcf}
use Rattle.m4_text.specs.declared.fault.TextFault.{TextFault}
use Rattle.m4_text.specs.declared.fault.TextFault.TheVariants.{Bad, Limit, NoMemory}
use Rattle.m4_text.specs.Tokens.{judged_from, LacksNumber, IsBadNumber, IsCutHeader, IsHeaderFault}

-- no tokens spell no entries
pub no_entries : (m n : ℕ) → SpellsEntries m n [] []
no_entries m n = record {
  spelled = refl;
  taken = λ others after e split. absurd (omega (arith, ap length split, length-append others (e ∷ after)));
}

-- A token with these bytes.
abbrev word : List ℕ → Token
word bytes = record { place = 0; bytes = bytes }

-- what begins a header alone begins a header and entries
header_begins : (words more : List Token) (m n : ℕ) → HasJcfHeader (words ++ more) m n [] → BeginsJcf words
header_begins words more m n header = (more, m, n, [], record { rest = []; header = header; body = no_entries m n })

-- all tokens begin what they are
pub begins_all : (words : List Token) (m n : ℕ) (es : List Entry) → IsJcf words m n es → BeginsJcf words
begins_all words m n es is = ([], m, n, es, subst (λ w. IsJcf w m n es) (sym (append-nil words)) is)

-- the tokens of a header begin one
pub begins_none : BeginsJcf []
begins_none =
    header_begins [] (word (codes "0") ∷ word (codes "0") ∷ word (codes "2") ∷ word (codes "0") ∷ []) 0 0
    (record { first = _; second = _; third = _; fourth = _; four = refl; rows = refl; cols = refl; modulus = refl; unused = refl })

pub begins_rows : (a : Token) (m : ℕ) → number a.bytes ≡ Some m → BeginsJcf (a ∷ [])
begins_rows a m rows =
    header_begins (a ∷ []) (word (codes "0") ∷ word (codes "2") ∷ word (codes "0") ∷ []) m 0
    (record { first = _; second = _; third = _; fourth = _; four = refl; rows = rows; cols = refl; modulus = refl; unused = refl })

pub begins_cols : (a b : Token) (m n : ℕ) → number a.bytes ≡ Some m → number b.bytes ≡ Some n → BeginsJcf (a ∷ b ∷ [])
begins_cols a b m n rows cols =
    header_begins (a ∷ b ∷ []) (word (codes "2") ∷ word (codes "0") ∷ []) m n
    (record { first = _; second = _; third = _; fourth = _; four = refl; rows = rows; cols = cols; modulus = refl; unused = refl })

pub begins_modulus : (a b c : Token) (m n : ℕ) → number a.bytes ≡ Some m → number b.bytes ≡ Some n → number c.bytes ≡ Some 2
    → BeginsJcf (a ∷ b ∷ c ∷ [])
begins_modulus a b c m n rows cols modulus =
    header_begins (a ∷ b ∷ c ∷ []) (word (codes "0") ∷ []) m n
    (record { first = _; second = _; third = _; fourth = _; four = refl; rows = rows; cols = cols; modulus = modulus; unused = refl })

-- A token behind these is no token of a header.
abbrev pub IsWrongBehind : List Token → Token → Type 0
IsWrongBehind before t = (more : List Token) (m n : ℕ) (rest : List Token) → HasJcfHeader ((before ++ t ∷ []) ++ more) m n rest → ⊥

-- tokens that are no numbers
pub wrong_rows : (t : Token) → number t.bytes ≡ None → IsWrongBehind [] t
wrong_rows t none more m n rest h =
    let same : t ≡ h.first = cc (h.four) in
    let clash : None ≡ Some m = sym none ∙ ap (λ (w : Token). number w.bytes) same ∙ h.rows in
    cc (clash)

pub wrong_cols : (a t : Token) → number t.bytes ≡ None → IsWrongBehind (a ∷ []) t
wrong_cols a t none more m n rest h =
    let same : t ≡ h.second = cc (h.four) in
    let clash : None ≡ Some n = sym none ∙ ap (λ (w : Token). number w.bytes) same ∙ h.cols in
    cc (clash)

pub wrong_modulus : (a b t : Token) → (number t.bytes ≡ Some 2 → ⊥) → IsWrongBehind (a ∷ b ∷ []) t
wrong_modulus a b t other more m n rest h =
    let same : t ≡ h.third = cc (h.four) in
    other (ap (λ (w : Token). number w.bytes) same ∙ h.modulus)

pub none_apart : (t : Token) → number t.bytes ≡ None → number t.bytes ≡ Some 2 → ⊥
none_apart t none two = let clash : None ≡ Some 2 = sym none ∙ two in cc (clash)

pub other_apart : (t : Token) (v : ℕ) → number t.bytes ≡ Some v → (v ≡ 2 → ⊥) → number t.bytes ≡ Some 2 → ⊥
other_apart t v is other two = let both : Some v ≡ Some 2 = sym is ∙ two in let same : v ≡ 2 = cc (both) in other same

pub wrong_unused : (a b c t : Token) → number t.bytes ≡ None → IsWrongBehind (a ∷ b ∷ c ∷ []) t
wrong_unused a b c t none more m n rest h =
    let same : t ≡ h.fourth = cc (h.four) in
    false≢true (subst IsSome (sym (ap (λ (w : Token). number w.bytes) same) ∙ none) h.unused)

-- behind tokens of a header no number stands
pub header_fault : (bytes : List ℕ) (long : Bool) (from : ℕ) (before : List Token) (fault : TextFault)
    → judged_from bytes long 0 ≡ before ++ judged_from bytes long from → BeginsJcf before → length before < 4
    → ((t : Token) → number t.bytes ≡ None → IsWrongBehind before t) → LacksNumber bytes long from fault
    → IsHeaderFault bytes long fault
header_fault bytes long from before (Bad place) split begins few wrong (inl (short, none, here)) =
    let all : judged_from bytes long 0 ≡ before = split ∙ ap (λ w. before ++ w) none ∙ append-nil before in
    inr (short, subst IsCutHeader (sym all) (record { few = few; begins = begins }), here)
header_fault bytes long from before (Bad place) split begins few wrong (inr (t, after, next, none, here)) =
    inl (record {
      before = before;
      token = t;
      after = after;
      split = split ∙ ap (λ w. before ++ w) next ∙ sym (append_assoc before (t ∷ []) after);
      begins = begins;
      wrong = wrong t none;
      here = here;
    })
header_fault bytes long from before Limit split begins few wrong (is, none) =
    let all : judged_from bytes long 0 ≡ before = split ∙ ap (λ w. before ++ w) none ∙ append-nil before in
    (is, subst IsCutHeader (sym all) (record { few = few; begins = begins }))
header_fault bytes long from before NoMemory split begins few wrong lacks = lacks

-- a token that is the wrong number
pub number_fault : (words before after : List Token) (t : Token) → words ≡ before ++ t ∷ after → BeginsJcf before
    → IsWrongBehind before t → IsBadNumber words t.place
number_fault words before after t split begins wrong = record {
  before = before;
  token = t;
  after = after;
  split = split ∙ sym (append_assoc before (t ∷ []) after);
  begins = begins;
  wrong = wrong;
  here = refl;
}
