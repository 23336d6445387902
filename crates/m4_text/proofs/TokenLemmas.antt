-- The tokens of bytes, one after the other, and the numbers and entries that they spell.
use Rattle.std.proofs.Common.{◌≡◌, ℕ, zero, suc, ◌+◌, ◌-◌, ◌<◌, ◌≤◌, Bool, true, false, not, ◌||◌, nat_lt, ◌==◌, if◌then◌else◌, List, [], ◌∷◌, ◌++◌, length, get_or, take, drop, refl, sym, ◌∙◌, ap, ap₂, subst, arith, inl, inr, length-drop, length-take, take-append-drop}
use Rattle.std.specs.List.{AllByRecursion, filter}
use Rattle.std.proofs.lemmas.Bool.{cases_Bool, cases_lt, ne_eqb, eq-eqb, lt-ltb, le-ltb}
use Rattle.std.proofs.lemmas.List.{drop_more, drop-drop, drop_all}
use Rattle.m4_model.specs.Jcf.{Token, tokens_from, put_before, is_white, end_of}
use Rattle.m4_text.specs.Tokens.{judged_from, token_at, IsNextToken}

-- The tokens begin at or behind a place.
abbrev AreBehind : ℕ → List Token → Type 0
AreBehind place words = AllByRecursion (λ (t : Token). place ≤ t.place) words

further_behind : (p q : ℕ) (words : List Token) → p ≤ q → AreBehind q words → AreBehind p words
further_behind p q [] less all = tt
further_behind p q (t ∷ words) less all = (omega (arith, all.0), further_behind p q words less all.1)

put_behind : (p byte : ℕ) (words : List Token) → AreBehind (p + 1) words → AreBehind p (put_before p byte words)
put_behind p byte [] all = (omega arith, tt)
put_behind p byte (t ∷ words) all = by_test (t.place == p + 1)
  where
    by_test : (b : Bool) → AreBehind p (if b then record { place = p; bytes = byte ∷ t.bytes } ∷ words else record { place = p; bytes = byte ∷ [] } ∷ t ∷ words)
    by_test true = (omega arith, further_behind p (p + 1) words (omega arith) all.1)
    by_test false = (omega arith, further_behind p (p + 1) (t ∷ words) (omega arith) all)

-- white space is passed, and another byte is put before the tokens
pub tokens_white : (p byte : ℕ) (bytes : List ℕ) → is_white byte ≡ true → tokens_from p (byte ∷ bytes) ≡ tokens_from (p + 1) bytes
unfolding tokens_from
tokens_white p byte bytes is =
    ap (λ b. if b then tokens_from (p + 1) bytes else put_before p byte (tokens_from (p + 1) bytes)) is

tokens_black : (p byte : ℕ) (bytes : List ℕ) → is_white byte ≡ false
    → tokens_from p (byte ∷ bytes) ≡ put_before p byte (tokens_from (p + 1) bytes)
unfolding tokens_from
tokens_black p byte bytes is =
    ap (λ b. if b then tokens_from (p + 1) bytes else put_before p byte (tokens_from (p + 1) bytes)) is

pub tokens_none : (p : ℕ) → tokens_from p [] ≡ []
unfolding tokens_from
tokens_none p = refl

tokens_behind : (p : ℕ) (bytes : List ℕ) → AreBehind p (tokens_from p bytes)
tokens_behind p [] = subst (AreBehind p) (sym (tokens_none p)) tt
tokens_behind p (byte ∷ bytes) =
    elim (cases_Bool (is_white byte)) [
      | inl white ↦
          subst (AreBehind p) (sym (tokens_white p byte bytes white)) (further_behind p (p + 1) _ (omega arith) (tokens_behind (p + 1) bytes))
      | inr black ↦ subst (AreBehind p) (sym (tokens_black p byte bytes black)) (put_behind p byte _ (tokens_behind (p + 1) bytes))
    ]

-- a byte before tokens that begin further behind is a token of its own
put_apart : (p byte : ℕ) (words : List Token) → AreBehind (p + 1 + 1) words
    → put_before p byte words ≡ record { place = p; bytes = byte ∷ [] } ∷ words
put_apart p byte [] all = refl
put_apart p byte (t ∷ words) all =
    ap (λ b. if b then record { place = p; bytes = byte ∷ t.bytes } ∷ words else record { place = p; bytes = byte ∷ [] } ∷ t ∷ words)
    (ne_eqb t.place (p + 1) (λ e. omega (arith, all.0, e)))

-- a byte right before a token is its first
put_joined : (p byte q : ℕ) (bytes : List ℕ) (words : List Token) → q ≡ p + 1
    → put_before p byte (record { place = q; bytes = bytes } ∷ words) ≡ record { place = p; bytes = byte ∷ bytes } ∷ words
put_joined p byte q bytes words same =
    ap (λ b. if b then record { place = p; bytes = byte ∷ bytes } ∷ words else record { place = p; bytes = byte ∷ [] } ∷ record { place = q; bytes = bytes } ∷ words)
    (eq-eqb q (p + 1) same)

-- White space stands first, or nothing.
abbrev pub BeginsWhite : List ℕ → Type 0
BeginsWhite [] = Unit {0}
BeginsWhite (byte ∷ bytes) = is_white byte ≡ true

-- Not one of the bytes is white space.
abbrev pub AreBlack : List ℕ → Type 0
AreBlack bytes = AllByRecursion (λ byte. is_white byte ≡ false) bytes

behind_white : (p : ℕ) (bytes : List ℕ) → BeginsWhite bytes → AreBehind (p + 1) (tokens_from p bytes)
behind_white p [] white = subst (AreBehind (p + 1)) (sym (tokens_none p)) tt
behind_white p (byte ∷ bytes) white = subst (AreBehind (p + 1)) (sym (tokens_white p byte bytes white)) (tokens_behind (p + 1) bytes)

-- a run of bytes that white space ends is the first token
pub first_token : (p byte : ℕ) (bytes rest : List ℕ) → is_white byte ≡ false → AreBlack bytes → BeginsWhite rest
    → tokens_from p (byte ∷ bytes ++ rest) ≡ record { place = p; bytes = byte ∷ bytes } ∷ tokens_from (p + suc (length bytes)) rest
first_token p byte [] rest black all white =
    let here : p + 1 ≡ p + suc 0 = omega arith in
    tokens_black p byte rest black ∙ put_apart p byte _ (behind_white (p + 1) rest white)
    ∙ ap (λ q. record { place = p; bytes = byte ∷ [] } ∷ tokens_from q rest) here
first_token p byte (c ∷ bytes) rest black all white =
    let here : p + 1 + suc (length bytes) ≡ p + suc (length (c ∷ bytes)) = omega arith in
    tokens_black p byte (c ∷ bytes ++ rest) black
    ∙ ap (put_before p byte) (first_token (p + 1) c bytes rest all.0 all.1 white)
    ∙ put_joined p byte (p + 1) (c ∷ bytes) _ refl
    ∙ ap (λ q. record { place = p; bytes = byte ∷ (c ∷ bytes) } ∷ tokens_from q rest) here

-- the same by places
pub skip_one : (bytes : List ℕ) (p : ℕ) → p < length bytes → is_white (get_or bytes p 0) ≡ true
    → tokens_from p (drop p bytes) ≡ tokens_from (p + 1) (drop (p + 1) bytes)
skip_one bytes p inside white = ap (tokens_from p) (drop_more bytes p 0 inside) ∙ tokens_white p _ _ white

black_run : (bytes : List ℕ) (p n : ℕ) → p + n ≤ length bytes → ((j : ℕ) → p ≤ j → j < p + n → is_white (get_or bytes j 0) ≡ false)
    → AreBlack (take n (drop p bytes))
black_run bytes p zero within black = tt
black_run bytes p (suc n) within black =
    let inside : p < length bytes = omega arith in
    let rest = black_run bytes (p + 1) n (omega arith) (λ j low high. black j (omega arith) (omega arith)) in
    subst (λ w. AreBlack (take (suc n) w)) (sym (drop_more bytes p 0 inside)) (black p (omega arith) (omega arith), rest)

white_at : (bytes : List ℕ) (p : ℕ) → (p < length bytes → is_white (get_or bytes p 0) ≡ true) → BeginsWhite (drop p bytes)
white_at bytes p white =
    elim (cases_lt p (length bytes)) [
      | inl inside ↦ subst BeginsWhite (sym (drop_more bytes p 0 inside)) (white inside)
      | inr past ↦ subst BeginsWhite (sym (drop_all p bytes past)) tt
    ]

pub token_here : (bytes : List ℕ) (start end : ℕ) → start < end → end ≤ length bytes
    → ((j : ℕ) → start ≤ j → j < end → is_white (get_or bytes j 0) ≡ false)
    → (end < length bytes → is_white (get_or bytes end 0) ≡ true)
    → tokens_from start (drop start bytes) ≡ token_at bytes start end ∷ tokens_from end (drop end bytes)
token_here bytes start end some within black white =
    let byte = get_or bytes start 0 in
    let n = end - start - 1 in
    let more : drop start bytes ≡ byte ∷ drop (start + 1) bytes = drop_more bytes start 0 (omega arith) in
    let run = take n (drop (start + 1) bytes) in
    let far : start + 1 + n ≡ end = omega arith in
    let rest : drop n (drop (start + 1) bytes) ≡ drop end bytes = drop-drop n (start + 1) bytes ∙ ap (λ k. drop k bytes) far in
    let split : drop start bytes ≡ byte ∷ (run ++ drop end bytes) =
    more ∙ ap (λ w. byte ∷ w) (sym (take-append-drop n (drop (start + 1) bytes)) ∙ ap (λ w. run ++ w) rest) in
    let all = black_run bytes (start + 1) n (omega arith) (λ j low high. black j (omega arith) (omega arith)) in
    let count : suc n ≡ end - start = omega arith in
    let spelled : byte ∷ run ≡ take (end - start) (drop start bytes) =
    ap (take (suc n)) (sym more) ∙ ap (λ k. take k (drop start bytes)) count in
    let wide : length run ≡ n = omega (arith, length-take n (drop (start + 1) bytes), length-drop (start + 1) bytes) in
    let there : start + suc (length run) ≡ end = omega (arith, wide) in
    ap (tokens_from start) split
    ∙ first_token start byte run (drop end bytes) (black start (omega arith) some) all (white_at bytes end white)
    ∙ ap₂ (λ w q. record { place = start; bytes = w } ∷ tokens_from q (drop end bytes)) spelled there

-- The token is judged.
abbrev counts : List ℕ → Bool → Token → Bool
counts bytes long token = nat_lt (end_of token) (length bytes) || not long

token_length : (bytes : List ℕ) (start end : ℕ) → start < end → end ≤ length bytes → end_of (token_at bytes start end) ≡ end
token_length bytes start end some within = omega (arith, length-take (end - start) (drop start bytes), length-drop start bytes)

-- the first judged token
module _ (bytes : List ℕ) (long : Bool) (from start end : ℕ) (behind : from ≤ start) (some : start < end) (within : end ≤ length bytes)
    (same : tokens_from from (drop from bytes) ≡ token_at bytes start end ∷ tokens_from end (drop end bytes)) where
  judged_more : counts bytes long (token_at bytes start end) ≡ true → IsNextToken bytes long from start end
  judged_more is = record {
    behind = behind;
    some = some;
    within = within;
    next = ap (filter (counts bytes long)) same
        ∙ ap (λ b. if b then token_at bytes start end ∷ judged_from bytes long end else judged_from bytes long end) is;
  }

  -- white space, or a short file, has ended it
  pub next_ended : end < length bytes → IsNextToken bytes long from start end
  next_ended inside =
      let before : nat_lt (end_of (token_at bytes start end)) (length bytes) ≡ true =
      lt-ltb _ _ (omega (arith, token_length bytes start end some within)) in
      judged_more (ap (λ b. b || not long) before)

  pub next_short : long ≡ false → IsNextToken bytes long from start end
  next_short is = judged_more (by_test (nat_lt (end_of (token_at bytes start end)) (length bytes)) long is)
    where
      by_test : (b l : Bool) → l ≡ false → (b || not l) ≡ true
      by_test true l e = refl
      by_test false l e = ap not e

  -- nothing has
  pub none_ended : long ≡ true → end ≡ length bytes → judged_from bytes long from ≡ []
  none_ended is last =
      let after : nat_lt (end_of (token_at bytes start end)) (length bytes) ≡ false =
      le-ltb _ _ (omega (arith, token_length bytes start end some within)) in
      let not_counted : counts bytes long (token_at bytes start end) ≡ false = ap₂ (λ b l. b || not l) after is in
      ap (filter (counts bytes long)) same
      ∙ ap (λ b. if b then token_at bytes start end ∷ judged_from bytes long end else judged_from bytes long end) not_counted
      ∙ ap (filter (counts bytes long)) (ap (tokens_from end) (drop_all end bytes (omega arith)) ∙ tokens_none end)

-- no token is left
pub no_token : (bytes : List ℕ) (long : Bool) (from start : ℕ) → tokens_from from (drop from bytes) ≡ tokens_from start (drop start bytes)
    → start ≡ length bytes → judged_from bytes long from ≡ []
no_token bytes long from start same last =
    ap (filter (counts bytes long)) (same ∙ ap (tokens_from start) (drop_all start bytes (omega arith)) ∙ tokens_none start)
