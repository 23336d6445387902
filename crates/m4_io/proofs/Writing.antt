-- Lemmas on the writing of whole texts: how a loop writes one, and that two texts written one after the other are one.
use Rattle.std.proofs.Common.{◌≡◌, ℕ, ◌<◌, ◌≤◌, ◌-◌, List, [], ◌++◌, length, take, drop, Option, Result, Ok, Err, refl, sym, ap, ◌∙◌, subst, arith, append_assoc, append-nil, take-append-drop, length-append}
use Rattle.std.proofs.lemmas.List.{take_rest}
use Rattle.std.specs.Io.KnownBytes.{Appends, Keeps}
use Rattle.std.proofs.KnownBytes.{Appends-nil, Appends-trans, Appends-kept}
use Rattle.m4_io.specs.Outside.{Rose, AppendsFront, WritesAll}

-- A front of the text was taken, this rest of it is left, and no fault was counted.
pub record WritesSoFar (old new : Option (List ℕ)) (before now : ℕ) (text rest : List ℕ) : Type 0 where
  pub front : List ℕ
  pub split : text ≡ front ++ rest
  pub taken : Appends old new front
  pub kept : now ≡ before

-- At the start nothing was taken.
pub writes_begin : (old : Option (List ℕ)) (before : ℕ) (text : List ℕ) → WritesSoFar old old before before text text
writes_begin old before text = record { front = []; split = refl; taken = Appends-nil old; kept = refl }

-- A write takes the first bytes of the rest, and the slice of what follows them is left.
pub writes_more : (old mid new : Option (List ℕ)) (before between now : ℕ) (text rest : List ℕ) (n : ℕ)
    → WritesSoFar old mid before between text rest → Appends mid new (take n rest) → now ≡ between
    → WritesSoFar old new before now text (take (length rest - n) (drop n rest))
writes_more old mid new before between now text rest n far taken kept = record {
  front = far.front ++ take n rest;
  split = far.split ∙ ap (λ l. far.front ++ l) (sym (take-append-drop n rest)) ∙ sym (append_assoc far.front (take n rest) (drop n rest))
      ∙ ap (λ l. (far.front ++ take n rest) ++ l) (sym (take_rest rest n));
  taken = Appends-trans old mid new far.front (take n rest) far.taken taken;
  kept = kept ∙ far.kept;
}

-- Where nothing is left, all was written.
pub writes_end : {T E : Type 0} (old new : Option (List ℕ)) (before now : ℕ) (text rest : List ℕ) (u : T)
    → WritesSoFar old new before now text rest → rest ≡ [] → WritesAll {E = E} old new before now (Ok u) text
writes_end old new before now text rest u far empty = record {
  taken = subst (Appends old new) (sym (far.split ∙ ap (λ l. far.front ++ l) empty ∙ append-nil far.front)) far.taken;
  later = omega (arith, far.kept);
  kept = far.kept;
  cause = tt;
  grown = λ h. absurd (omega (arith, far.kept, h));
}

-- A write that fails with bytes left leaves a proper front taken.
pub writes_fail : {T E : Type 0} (old mid new : Option (List ℕ)) (before between now : ℕ) (text rest : List ℕ) (e : E)
    → WritesSoFar old mid before between text rest → 0 < length rest → Keeps mid new → between ≤ now → Rose between now
    → WritesAll {T = T} old new before now (Err e) text
writes_fail old mid new before between now text rest e far left keeps later rose = record {
  taken = (far.front, (rest, left, far.split), Appends-kept old mid new far.front far.taken keeps);
  later = omega (arith, far.kept);
  kept = tt;
  cause = subst (λ b. Rose b now) far.kept rose;
  grown = λ _. refl;
}

-- Writing no text does nothing.
pub writes_nothing : {T E : Type 0} (old : Option (List ℕ)) (before : ℕ) (u : T) → WritesAll {E = E} old old before before (Ok u) []
writes_nothing old before u = writes_end old old before before [] [] u (writes_begin old before []) refl

-- A front of the second text, after all of the first, is a front of the two.
front_of_both : (old mid new : Option (List ℕ)) (first second : List ℕ) → Appends old mid first → AppendsFront mid new second → AppendsFront old new (first ++ second)
front_of_both old mid new first second whole (front, (rest, left, split), taken) =
    (first ++ front, (rest, left, ap (λ l. first ++ l) split ∙ sym (append_assoc first front rest)), Appends-trans old mid new first front whole taken)

-- A text that was written, and then a second one with any answer, is the writing of both with that answer.
pub writes_both : {T U E D : Type 0} (old mid new : Option (List ℕ)) (before between now : ℕ) (u : T) (result : Result U D) (first second : List ℕ)
    → WritesAll {E = E} old mid before between (Ok u) first → WritesAll mid new between now result second
    → WritesAll old new before now result (first ++ second)
writes_both old mid new before between now u (Ok v) first second one two = record {
  taken = Appends-trans old mid new first second one.taken two.taken;
  later = omega (arith, one.later, two.later);
  kept = two.kept ∙ one.kept;
  cause = tt;
  grown = λ h. absurd (omega (arith, one.kept, two.kept, h));
}
writes_both old mid new before between now u (Err e) first second one two = record {
  taken = front_of_both old mid new first second one.taken two.taken;
  later = omega (arith, one.later, two.later);
  kept = tt;
  cause = subst (λ b. Rose b now) one.kept two.cause;
  grown = λ _. refl;
}

-- A text that was not all written, and no second one after it, is the failed writing of both.
pub writes_stopped : {T U E D : Type 0} (old new : Option (List ℕ)) (before now : ℕ) (e : E) (d : D) (first second : List ℕ)
    → WritesAll {T = T} old new before now (Err e) first → WritesAll {T = U} old new before now (Err d) (first ++ second)
writes_stopped old new before now e d first second one =
    let (front, (rest, left, split), taken) = one.taken in
    record {
      taken = (front, (rest ++ second, omega (arith, length-append rest second), ap (λ l. l ++ second) split ∙ append_assoc front rest second), taken);
      later = one.later;
      kept = tt;
      cause = one.cause;
      grown = λ _. refl;
    }
