-- Longest fronts, of one language and of two joined end to end.
use Rattle.std.proofs.Common.{◌≡◌, ℕ, ◌+◌, ◌-◌, ◌<◌, ◌≤◌, List, [], ◌∷◌, ◌++◌, length, take, drop, refl, sym, ◌∙◌, ap, subst, arith, inl, inr, append_assoc, append-nil, length-append, length-take, take-append-drop, take-add}
use Rattle.std.proofs.lemmas.List.{take-append-le, nil_from_length}
use Rattle.std.proofs.Math.Seq.{take-append-add, take-append_seam}
use Rattle.std.proofs.lemmas.Bool.{cases_lt}
use Rattle.m4_model.specs.Text.{Begins, IsLongest}
use Rattle.m4_etext.specs.Place.{GoesWrong}

-- of two fronts of one list the shorter begins the longer
pub shorter_front : (a b c d : List ℕ) → a ++ b ≡ c ++ d → length a ≤ length c → (x : List ℕ) × (c ≡ a ++ x) × (b ≡ x ++ d)
shorter_front [] b c d e h = (c, refl, e)
shorter_front (y ∷ a) b [] d e h = absurd (omega arith)
shorter_front (y ∷ a) b (z ∷ c) d e h =
    let rest : a ++ b ≡ c ++ d = cc in
    let head : y ≡ z = cc in
    let r = shorter_front a b c d rest (omega arith) in
    (r.0, cc (r.1), r.2)

-- the first k are the first j and some more
pub longer_take : (j k : ℕ) (xs : List ℕ) → j ≤ k → take k xs ≡ take j xs ++ take (k - j) (drop j xs)
longer_take j k xs h = let e : k ≡ j + (k - j) = omega arith in ap (λ n. take n xs) e ∙ take-add j (k - j) xs

-- a front of a front
pub Begins-front : (P : List ℕ → Type 0) (a b : List ℕ) → Begins P (a ++ b) → Begins P a
Begins-front P a b begins = (b ++ begins.0, subst P (append_assoc a b begins.0) begins.1)

pub Begins-take : (P : List ℕ → Type 0) (j k : ℕ) (xs : List ℕ) → j ≤ k → Begins P (take k xs) → Begins P (take j xs)
Begins-take P j k xs h begins =
    Begins-front P (take j xs) (take (k - j) (drop j xs)) (subst (Begins P) (longer_take j k xs h) begins)

-- a front is the longest where no next byte goes on
pub IsLongest-from_next : (P : List ℕ → Type 0) (bytes : List ℕ) (n : ℕ) → n ≤ length bytes → Begins P (take n bytes)
    → (n < length bytes → Begins P (take (n + 1) bytes) → ⊥) → IsLongest P bytes n
IsLongest-from_next P bytes n within begins next = record {
  within = within;
  begins = begins;
  longest = λ k more inside goes. next (omega arith) (Begins-take P (n + 1) k bytes (omega arith) goes);
}

-- bytes that go wrong before their end do so whatever follows them
pub IsLongest-append : (P : List ℕ → Type 0) (bytes more : List ℕ) (n : ℕ) → n < length bytes → IsLongest P bytes n
    → IsLongest P (bytes ++ more) n
IsLongest-append P bytes more n before found =
    IsLongest-from_next P (bytes ++ more) n (omega (arith, length-append bytes more))
    (subst (Begins P) (sym (take-append-le n bytes more (omega arith))) found.begins)
    (λ inside goes. found.longest (n + 1) (omega arith) (omega arith)
    (subst (Begins P) (take-append-le (n + 1) bytes more (omega arith)) goes))

-- the same, with a bound on texts
pub GoesWrong-append : (P : List ℕ → Type 0) (bytes more : List ℕ) (n : ℕ) → n < length bytes → GoesWrong P bytes n
    → GoesWrong P (bytes ++ more) n
GoesWrong-append P bytes more n before found = record {
  longest = IsLongest-append P bytes more n before found.longest;
  unfinished = λ whole. found.unfinished (subst P (take-append-le n bytes more (omega arith)) whole);
}

-- No text with P begins another.
abbrev pub IsPrefixFree : (List ℕ → Type 0) → Type 0
IsPrefixFree P = (a b : List ℕ) → P a → P (a ++ b) → b ≡ []

-- Texts of one length don't begin one another.
pub IsPrefixFree-same_length : (P : List ℕ → Type 0) → ((a b : List ℕ) → P a → P b → length a ≡ length b) → IsPrefixFree P
IsPrefixFree-same_length P same a b whole longer =
    nil_from_length b (omega (arith, length-append a b, same a (a ++ b) whole longer))

-- a text with P is no front of another's front but itself
no_more : (P : List ℕ → Type 0) → IsPrefixFree P → (a x r : List ℕ) → P a → P ((a ++ x) ++ r) → x ≡ []
no_more P free a x r whole longer =
    let none : x ++ r ≡ [] = free a (x ++ r) whole (subst P (append_assoc a x r) longer) in
    nil_from_length x (omega (arith, length-append x r, ap length none))

-- bytes that begin with a text with P don't go wrong in it
pub no_front : (P : List ℕ → Type 0) → IsPrefixFree P → (front rest : List ℕ) (n : ℕ)
    → GoesWrong P (front ++ rest) n → P front → ⊥
no_front P free front rest n found whole =
    elim (cases_lt n (length front)) [
      | inr short ↦
          let split = shorter_front front rest (take n (front ++ rest)) (drop n (front ++ rest)) (sym (take-append-drop n (front ++ rest)))
          (omega (arith, length-take n (front ++ rest), found.longest.within)) in
          let none : split.0 ≡ [] = no_more P free front split.0 found.longest.begins.0 whole
          (subst (λ w. P (w ++ found.longest.begins.0)) split.1 found.longest.begins.1) in
          found.unfinished (subst P (sym (split.1 ∙ ap (λ w. front ++ w) none ∙ append-nil front)) whole)
      | inl long ↦
          found.longest.longest (length front) (omega arith) (omega (arith, length-append front rest))
          ([], subst P (sym (append-nil _ ∙ take-append_seam front rest)) whole)
    ]

-- A text with P, and then one with Q.
abbrev pub Joined : (List ℕ → Type 0) → (List ℕ → Type 0) → List ℕ → Type 0
Joined P Q bytes = (a b : List ℕ) × P a × Q b × (bytes ≡ a ++ b)

-- of two joined texts, both parts are told
pub same_parts : (P : List ℕ → Type 0) → IsPrefixFree P → (a x b y : List ℕ) → P a → P b → a ++ x ≡ b ++ y → (a ≡ b) × (x ≡ y)
same_parts P free a x b y first second e =
    elim (cases_lt (length b) (length a)) [
      | inl shorter ↦
          let split = shorter_front b y a x (sym e) (omega arith) in
          let none : split.0 ≡ [] = no_more P free b split.0 [] second (subst P (split.1 ∙ sym (append-nil _)) first) in
          (split.1 ∙ ap (λ w. b ++ w) none ∙ append-nil b, sym (split.2 ∙ ap (λ w. w ++ x) none))
      | inr shorter ↦
          let split = shorter_front a x b y e (omega arith) in
          let none : split.0 ≡ [] = no_more P free a split.0 [] first (subst P (split.1 ∙ sym (append-nil _)) second) in
          (sym (split.1 ∙ ap (λ w. a ++ w) none ∙ append-nil a), split.2 ∙ ap (λ w. w ++ y) none)
    ]

-- joined texts don't begin one another where their parts don't
pub IsPrefixFree-joined : (P Q : List ℕ → Type 0) → IsPrefixFree P → IsPrefixFree Q → IsPrefixFree (Joined P Q)
IsPrefixFree-joined P Q free free_next c d short long =
    let e : short.0 ++ (short.1 ++ d) ≡ long.0 ++ long.1 =
    sym (append_assoc short.0 short.1 d) ∙ ap (λ w. w ++ d) (sym short.4) ∙ long.4 in
    let same = same_parts P free short.0 (short.1 ++ d) long.0 long.1 short.2 long.2 e in
    free_next short.1 d short.3 (subst Q (sym same.1) long.3)

-- a text with P doesn't end inside bytes that go wrong in P
no_end : (P : List ℕ → Type 0) → IsPrefixFree P → (bytes : List ℕ) (n : ℕ) → GoesWrong P bytes n → (a x : List ℕ) → P a
    → take n bytes ≡ a ++ x → ⊥
no_end P free bytes n found a x whole e =
    let begins = found.longest.begins in
    let none : x ≡ [] = no_more P free a x begins.0 whole (subst (λ w. P (w ++ begins.0)) e begins.1) in
    found.unfinished (subst P (sym (e ∙ ap (λ w. a ++ w) none ∙ append-nil a)) whole)

-- bytes that go wrong in the first part
pub GoesWrong-first : (P Q : List ℕ → Type 0) → IsPrefixFree P → (last : List ℕ) → Q last → (bytes : List ℕ) (n : ℕ)
    → GoesWrong P bytes n → GoesWrong (Joined P Q) bytes n
GoesWrong-first P Q free last ends bytes n found = record {
  longest =
      let begins = found.longest.begins in
      IsLongest-from_next (Joined P Q) bytes n found.longest.within
      (begins.0 ++ last, (take n bytes ++ begins.0, last, begins.1, ends, sym (append_assoc (take n bytes) begins.0 last)))
      (λ inside goes.
      let (rest, (a, b, first, second, e)) = goes in
      elim (cases_lt n (length a)) [
        | inl long ↦
            let split = shorter_front (take (n + 1) bytes) rest a b e (omega (arith, length-take (n + 1) bytes)) in
            found.longest.longest (n + 1) (omega arith) (omega arith) (split.0, subst P split.1 first)
        | inr short ↦
            let next = take 1 (drop n bytes) in
            let joined : a ++ b ≡ take n bytes ++ (next ++ rest) =
            sym e ∙ ap (λ w. w ++ rest) (take-add n 1 bytes) ∙ append_assoc (take n bytes) next rest in
            let split = shorter_front a b (take n bytes) (next ++ rest) joined (omega (arith, length-take n bytes)) in
            no_end P free bytes n found a split.0 first split.1
      ]);
  unfinished = λ whole.
      let (a, b, first, second, e) = whole in
      no_end P free bytes n found a b first e;
}

-- bytes that go wrong in the second part
pub GoesWrong-second : (P Q : List ℕ → Type 0) → IsPrefixFree P → (front : List ℕ) → P front → (after : List ℕ) (n : ℕ)
    → GoesWrong Q after n → GoesWrong (Joined P Q) (front ++ after) (length front + n)
GoesWrong-second P Q free front whole after n found = record {
  longest =
      let begins = found.longest.begins in
      IsLongest-from_next (Joined P Q) (front ++ after) (length front + n) (omega (arith, length-append front after, found.longest.within)) (
        begins.0,
        (
          front,
          take n after ++ begins.0,
          whole,
          begins.1,
          ap (λ w. w ++ begins.0) (take-append-add front after n) ∙ append_assoc front (take n after) begins.0,
        ),
      )
      (λ inside goes.
      let (rest, (a, b, first, second, e)) = goes in
      let one : take (length front + n + 1) (front ++ after) ≡ front ++ take (n + 1) after =
      ap (λ k. take k (front ++ after)) (omega arith) ∙ take-append-add front after (n + 1) in
      let parted : front ++ (take (n + 1) after ++ rest) ≡ a ++ b =
      sym (ap (λ w. w ++ rest) one ∙ append_assoc front (take (n + 1) after) rest) ∙ e in
      let same = same_parts P free front (take (n + 1) after ++ rest) a b whole first parted in
      found.longest.longest (n + 1) (omega arith) (omega (arith, length-append front after))
      (rest, subst Q (sym same.1) second));
  unfinished = λ joined.
      let (a, b, first, second, e) = joined in
      let parted : front ++ take n after ≡ a ++ b = sym (take-append-add front after n) ∙ e in
      found.unfinished (subst Q (sym (same_parts P free front (take n after) a b whole first parted).1) second);
}

-- the same of a language with the same texts
pub GoesWrong-same : (P Q : List ℕ → Type 0) → ((w : List ℕ) → P w → Q w) → ((w : List ℕ) → Q w → P w)
    → (bytes : List ℕ) (n : ℕ) → GoesWrong P bytes n → GoesWrong Q bytes n
GoesWrong-same P Q to from bytes n found = record {
  longest = record {
    within = found.longest.within;
    begins = (found.longest.begins.0, to _ found.longest.begins.1);
    longest = λ k more inside goes. found.longest.longest k more inside (goes.0, from _ goes.1);
  };
  unfinished = λ whole. found.unfinished (from _ whole);
}

pub IsPrefixFree-within : (P Q : List ℕ → Type 0) → ((w : List ℕ) → Q w → P w) → IsPrefixFree P → IsPrefixFree Q
IsPrefixFree-within P Q from free a b short long = free a b (from _ short) (from _ long)
