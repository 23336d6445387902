-- The putting of bytes piece by piece.
use Rattle.std.proofs.Common.{◌≡◌, ℕ, ◌+◌, ◌*◌, ◌<◌, List, [], ◌++◌, length, get_or, take, drop, flat_map, take-add, Option, Result, Ok, Err, refl, sym, ◌∙◌, ap, subst, arith, append_assoc, append-nil, take-append-drop}
use Rattle.std.proofs.lemmas.List.{take_more, flat_map_more}
use Rattle.std.proofs.lemmas.List.Concat.{flat_map-append}
use Rattle.m4_io.specs.Outside.{WritesAll}
use Rattle.m4_io.specs.declared.failed.Failed.{Failed}
use Rattle.m4_io.proofs.Writing.{writes_nothing, writes_both, writes_stopped}
use Rattle.m4_etext.specs.Pending.{Puts}

-- nothing is put
pub puts_nothing : (old : Option (List ℕ)) (before : ℕ) (waits : List ℕ) → Puts old old before before waits waits (Ok tt) []
puts_nothing old before waits = record { ok = ([], writes_nothing old before tt, append-nil waits); err = tt }

-- a few bytes, behind those that wait when there is room
pub puts_behind : {old new : Option (List ℕ)} {before now : ℕ} {waited room waits : List ℕ} {bytes : List ℕ}
    → Puts old new before now waited room (Ok tt) [] → waits ≡ room ++ bytes → Puts old new before now waited waits (Ok tt) bytes
puts_behind {old} {new} {before} {now} {waited} {room} {waits} {bytes} moved is =
    let (went, written, split) = moved.ok in
    record {
      ok = (went, written, ap (λ w. w ++ bytes) (sym (append-nil waited) ∙ split) ∙ append_assoc went room bytes ∙ ap (λ w. went ++ w) (sym is));
      err = tt;
    }

-- bytes behind others that were put
pub puts_both : {old mid new : Option (List ℕ)} {before between now : ℕ} {waited waits left : List ℕ} (result : Result (Unit {0}) Failed)
    (first second : List ℕ) → Puts old mid before between waited waits (Ok tt) first
    → Puts mid new between now waits left result second → Puts old new before now waited left result (first ++ second)
puts_both {old} {mid} {new} {before} {between} {now} {waited} {waits} {left} (Ok done) first second one two =
    let (went, written, split) = one.ok in
    let (more, further, rest) = two.ok in
    record {
      ok = (
        went ++ more,
        writes_both old mid new before between now tt (Ok done) went more written further,
        sym (append_assoc waited first second) ∙ ap (λ w. w ++ second) split ∙ append_assoc went waits second
            ∙ ap (λ w. went ++ w) rest ∙ sym (append_assoc went more left),
      );
      err = tt;
    }
puts_both {old} {mid} {new} {before} {between} {now} {waited} {waits} {left} (Err fault) first second one two =
    let (went, written, split) = one.ok in
    record {
      ok = tt;
      err = subst (WritesAll {T = Unit {0}} old new before now (Err fault))
          (sym (append_assoc went waits second) ∙ ap (λ w. w ++ second) (sym split) ∙ append_assoc waited first second)
          (writes_both old mid new before between now tt (Err fault) went (waits ++ second) written two.err);
    }

-- a front that fails
pub front_fails : {old new : Option (List ℕ)} {before now : ℕ} {waited waits left : List ℕ} {result : Result (Unit {0}) Failed} {e d : Failed}
    {whole front : List ℕ} (rest : List ℕ) → whole ≡ front ++ rest → Puts old new before now waited waits (Err e) front
    → result ≡ Err d → Puts old new before now waited left result whole
front_fails {old} {new} {before} {now} {waited} {waits} {left} {result} {e} {d} {whole} {front} rest split first is =
    subst (λ r. Puts old new before now waited left r whole) (sym is) (record {
      ok = tt;
      err = subst (WritesAll {T = Unit {0}} old new before now (Err d)) (append_assoc waited front rest ∙ ap (λ w. waited ++ w) (sym split))
          (writes_stopped old new before now e d (waited ++ front) rest first.err);
    })

-- a piece behind a front that was put
pub piece_put : {old mid new : Option (List ℕ)} {before between now : ℕ} {waited waits left : List ℕ} {result : Result (Unit {0}) Failed}
    {whole front piece : List ℕ} → whole ≡ front ++ piece → Puts old mid before between waited waits (Ok tt) front
    → Puts mid new between now waits left result piece → Puts old new before now waited left result whole
piece_put {old} {mid} {new} {before} {between} {now} {waited} {waits} {left} {result} {whole} {front} {piece} split first second =
    subst (Puts old new before now waited left result) (sym split) (puts_both result front piece first second)

-- a piece behind such a front that fails
pub piece_fails : {old mid new : Option (List ℕ)} {before between now : ℕ} {waited waits left last : List ℕ} {result : Result (Unit {0}) Failed}
    {e d : Failed} {whole front piece : List ℕ} (rest : List ℕ) → whole ≡ (front ++ piece) ++ rest
    → Puts old mid before between waited waits (Ok tt) front → Puts mid new between now waits left (Err e) piece → result ≡ Err d
    → Puts old new before now waited last result whole
piece_fails {left} rest split first second is = front_fails {waits = left} rest split (piece_put {left = left} refl first second) is

-- a text whose putting failed
pub put_fails : {D : Type 0} {old new : Option (List ℕ)} {before now : ℕ} {waits : List ℕ} {result : Result (Unit {0}) D} {e : Failed} {d : D}
    {start text front : List ℕ} (rest : List ℕ) → start ≡ [] → text ≡ front ++ rest → Puts old new before now start waits (Err e) front
    → result ≡ Err d → WritesAll old new before now result text
put_fails {old} {new} {before} {now} {result} {e} {d} {start} {text} {front} rest none split put is =
    let whole : (start ++ front) ++ rest ≡ text = ap (λ w. (w ++ front) ++ rest) none ∙ sym split in
    subst (λ r. WritesAll old new before now r text) (sym is)
    (subst (WritesAll {T = Unit {0}} old new before now (Err d)) whole (writes_stopped old new before now e d (start ++ front) rest put.err))

-- what waits at last is written, with any answer
put_and_written : {old mid new : Option (List ℕ)} {before between now : ℕ} {waits : List ℕ} {result : Result (Unit {0}) Failed}
    {start text : List ℕ} → start ≡ [] → Puts old mid before between start waits (Ok tt) text → WritesAll mid new between now result waits
    → WritesAll old new before now result text
put_and_written {old} {mid} {new} {before} {between} {now} {waits} {result} {start} {text} none put last =
    let (went, written, split) = put.ok in
    let whole : went ++ waits ≡ text = sym split ∙ ap (λ w. w ++ text) none in
    subst (WritesAll old new before now result) whole (writes_both old mid new before between now tt result went waits written last)

-- a text that is written by and by
pub put_ends : {D : Type 0} {old mid new : Option (List ℕ)} {before between now : ℕ} {waits start text : List ℕ}
    → start ≡ [] → Puts old mid before between start waits (Ok tt) text → WritesAll {T = Unit {0}} {E = Failed} mid new between now (Ok tt) waits
    → WritesAll {T = Unit {0}} {E = D} old new before now (Ok tt) text
put_ends none put last =
    let whole = put_and_written {result = Ok tt} none put last in
    record {
      taken = whole.taken;
      later = whole.later;
      kept = whole.kept;
      cause = tt;
      grown = λ more. absurd (omega (arith, whole.kept, more));
    }

-- a text whose last bytes are not all written
pub put_end_fails : {D : Type 0} {old mid new : Option (List ℕ)} {before between now : ℕ} {waits : List ℕ} {result : Result (Unit {0}) D} {e : Failed} {d : D}
    {start text : List ℕ} → start ≡ [] → Puts old mid before between start waits (Ok tt) text → WritesAll {T = Unit {0}} mid new between now (Err e) waits
    → result ≡ Err d → WritesAll old new before now result text
put_end_fails {old} {new = new} {before} {now = now} {result = result} {e = e} {d = d} {text = text} none put last is =
    let whole = put_and_written {result = Err e} none put last in
    subst (λ r. WritesAll old new before now r text) (sym is)
    (subst (WritesAll {T = Unit {0}} old new before now (Err d)) (append-nil text) (writes_stopped old new before now e d text [] whole))

-- what is put of a list's elements one by one, and one more
module _ {X : Type 0} (written : X → List ℕ) (xs : List X) (d : X) (r : ℕ) (inside : r < length xs) where
  pub more_put : flat_map written (take (r + 1) xs) ≡ flat_map written (take r xs) ++ written (get_or xs r d)
  more_put =
      ap (λ (l : List X). flat_map written l) (take_more xs r d inside)
      ∙ sym (flat_map_more written [] (take r xs) (get_or xs r d))

  -- and the rest of the text
  pub more_left : flat_map written xs ≡ (flat_map written (take r xs) ++ written (get_or xs r d)) ++ flat_map written (drop (r + 1) xs)
  more_left =
      let front = take (r + 1) xs in
      let back = drop (r + 1) xs in
      ap (λ (l : List X). flat_map written l) (sym (take-append-drop (r + 1) xs))
      ∙ flat_map-append written front back
      ∙ ap (λ l. l ++ flat_map written back) more_put

-- a list that is put group by group
module _ (xs : List ℕ) (size k : ℕ) {piece : List ℕ} (is : take size (drop (size * k) xs) ≡ piece) where
  pub group_put : take (size * (k + 1)) xs ≡ take (size * k) xs ++ piece
  group_put =
      let next : size * (k + 1) ≡ size * k + size = omega arith in
      ap (λ n. take n xs) next ∙ take-add (size * k) size xs ∙ ap (λ l. take (size * k) xs ++ l) is

  pub group_left : xs ≡ (take (size * k) xs ++ piece) ++ drop (size * (k + 1)) xs
  group_left = sym (take-append-drop (size * (k + 1)) xs) ∙ ap (λ l. l ++ drop (size * (k + 1)) xs) group_put
