-- JCF that is refused, whatever follows where it is long, and JCF that is read.
use Rattle.std.proofs.Common.{◌≡◌, ℕ, ◌^◌, ◌<◌, ◌≤◌, min, Bool, true, false, not, ◌||◌, nat_lt, nat_le, if◌then◌else◌, List, [], ◌∷◌, ◌++◌, length, take, map, Some, refl, sym, ◌∙◌, ap, ap₂, subst, subst₂, arith, ◌⊎◌, inl, inr, append_assoc, append-nil, length-append, length-take, take_all}
use Rattle.std.specs.List.{filter}
use Rattle.std.proofs.lemmas.Bool.{le-leb, lt-leb, true≢false}
use Rattle.std.proofs.lemmas.List.{take_min, take-append-le}
use Rattle.m4_model.specs.Field.{gf2}
use Rattle.m4_model.specs.Matrix.{Matrix, at, zero_matrix}
use Rattle.m4_model.specs.Text.{IsWithinLimits, BadAt, PastLimit}
use Rattle.m4_model.specs.Jcf.{Token, tokens, tokens_from, end_of, most_bytes, judged, number, Entry, entry, Takes, SpellsEntries, HasJcfHeader, IsJcf, IsFirstRefused, PassesLimit, ReadsJcf, RefusalJcf}
use Rattle.m4_model.proofs.MatrixLemmas.{at-table}
use Rattle.m4_text.specs.declared.fault.TextFault.{TextFault}
use Rattle.m4_text.specs.declared.fault.TextFault.TheVariants.{Bad, Limit, NoMemory}
use Rattle.m4_text.specs.Refused.{IsRefusedIn, IsRefusalIn}
use Rattle.m4_model.specs.declared.form.Form.TheVariants.{Jcf}
use Rattle.m4_text.specs.Tokens.{judged_from, IsBadNumber, IsCutHeader, IsHeaderFault, IsHeaderBefore, ReadsEntries, RefusesEntry}

most_is : most_bytes ≡ 2 ^ 29
unfolding most_bytes
most_is = refl

-- The first bytes of a file, and whether it is long.
pub record IsFirstOf (bytes first : List ℕ) (long : Bool) : Type 0 where
  pub front : first ≡ take most_bytes bytes
  pub longer : long ≡ true → 2 ^ 29 < length bytes
  pub shorter : long ≡ false → length bytes ≤ 2 ^ 29

-- the slice that has them
pub first_of : (bytes : List ℕ) (n : ℕ) (long : Bool) → n ≡ min (length bytes) (2 ^ 29) → (long ≡ true → 2 ^ 29 < length bytes)
    → (long ≡ false → length bytes ≤ 2 ^ 29) → IsFirstOf bytes (take n bytes) long
first_of bytes n long is longer shorter =
    let order : min (length bytes) (2 ^ 29) ≡ min (2 ^ 29) (length bytes) = omega arith in
    record {
      front = ap (λ k. take k bytes) (is ∙ order ∙ ap (λ k. min k (length bytes)) (sym most_is)) ∙ take_min most_bytes bytes;
      longer = longer;
      shorter = shorter;
    }

-- they are those of every file that begins so
still_first : (bytes first more : List ℕ) (long : Bool) → IsFirstOf bytes first long → (more ≡ []) ⊎ (2 ^ 29 < length bytes)
    → IsFirstOf (bytes ++ more) first long
still_first bytes first more long found (inl none) =
    subst (λ w. IsFirstOf w first long) (sym (ap (λ w. bytes ++ w) none ∙ append-nil bytes)) found
still_first bytes first more long found (inr far) = record {
  front = found.front ∙ sym (take-append-le most_bytes bytes more (omega (arith, most_is)));
  longer = λ is. omega (arith, length-append bytes more);
  shorter = λ is. let few = found.shorter is in omega arith;
}

-- a filter that lets all pass
filter_all : {X : Type 0} (p : X → Bool) (xs : List X) → ((x : X) → p x ≡ true) → filter p xs ≡ xs
filter_all p [] all = refl
filter_all p (x ∷ xs) all =
    ap (λ b. if b then x ∷ filter p xs else filter p xs) (all x) ∙ ap (λ w. x ∷ w) (filter_all p xs all)

or_true : (a b : Bool) → b ≡ true → (a || b) ≡ true
or_true true b is = refl
or_true false b is = is

-- the judged tokens are those of the first bytes
judged_long : (bytes first : List ℕ) (long : Bool) → IsFirstOf bytes first long → long ≡ true → judged bytes ≡ judged_from first long 0
judged_long bytes first long found is =
    let far = found.longer is in
    let width : most_bytes ≡ length first = sym (ap length found.front ∙ length-take most_bytes bytes ∙ least) in
    let past : nat_le (length bytes) most_bytes ≡ not long = lt-leb _ _ (omega (arith, most_is)) ∙ sym (ap not is) in
    ap (λ w. filter (λ t. nat_lt (end_of t) most_bytes || nat_le (length bytes) most_bytes) (tokens_from 0 w)) (sym found.front)
    ∙ ap₂ (λ k b. filter (λ t. nat_lt (end_of t) k || b) (tokens_from 0 first)) width past
  where
    least : min most_bytes (length bytes) ≡ most_bytes
    least = let far = found.longer is in omega (arith, most_is)

all_judged : (bytes first : List ℕ) (long : Bool) → IsFirstOf bytes first long → long ≡ false → first ≡ bytes
all_judged bytes first long found is = let few = found.shorter is in found.front ∙ take_all most_bytes bytes (omega (arith, most_is))

short_tokens : (bytes first : List ℕ) (long : Bool) → IsFirstOf bytes first long → long ≡ false → judged_from first long 0 ≡ tokens bytes
short_tokens bytes first long found is =
    filter_all _ (tokens_from 0 first) (λ t. or_true (nat_lt (end_of t) (length first)) (not long) (ap not is))
    ∙ ap (tokens_from 0) (all_judged bytes first long found is)

judged_short : (bytes first : List ℕ) (long : Bool) → IsFirstOf bytes first long → long ≡ false → judged bytes ≡ judged_from first long 0
judged_short bytes first long found is =
    let few = found.shorter is in
    let within : nat_le (length bytes) most_bytes ≡ true = le-leb _ _ (omega (arith, most_is)) in
    filter_all _ (tokens_from 0 (take most_bytes bytes)) (λ t. or_true (nat_lt (end_of t) most_bytes) _ within)
    ∙ ap (tokens_from 0) (take_all most_bytes bytes (omega (arith, most_is)))
    ∙ sym (short_tokens bytes first long found is)

judged_is : (bytes first : List ℕ) (long : Bool) → IsFirstOf bytes first long → judged bytes ≡ judged_from first long 0
judged_is bytes first true found = judged_long bytes first true found refl
judged_is bytes first false found = judged_short bytes first false found refl

-- all tokens of a file of at most 2^29 bytes are judged
pub judged_all : (bytes : List ℕ) → length bytes ≤ 2 ^ 29 → judged bytes ≡ tokens bytes
judged_all bytes few =
    let found : IsFirstOf bytes bytes false = record {
      front = sym (take_all most_bytes bytes (omega (arith, most_is)));
      longer = λ is. absurd (true≢false (sym is));
      shorter = λ is. few;
    } in
    judged_is bytes bytes false found ∙ short_tokens bytes bytes false found refl

-- a header tells its sizes and what stands behind it
pub header_same : (words other : List Token) (m n k l : ℕ) (rest behind : List Token) (h : HasJcfHeader words m n rest)
    → HasJcfHeader (h.first ∷ h.second ∷ h.third ∷ h.fourth ∷ other) k l behind → (m ≡ k) × (n ≡ l) × (other ≡ behind)
header_same words other m n k l rest behind h h' =
    let a : h.first ≡ h'.first = cc (h'.four) in
    let b : h.second ≡ h'.second = cc (h'.four) in
    let tail : other ≡ behind = cc (h'.four) in
    let rows : Some m ≡ Some k = sym h.rows ∙ ap (λ (w : Token). number w.bytes) a ∙ h'.rows in
    let cols : Some n ≡ Some l = sym h.cols ∙ ap (λ (w : Token). number w.bytes) b ∙ h'.cols in
    (cc (rows), cc (cols), tail)

-- a refused token of the header
pub bad_number : (words : List Token) (place : ℕ) → IsBadNumber words place
    → (t : Token) × IsFirstRefused words t × (PassesLimit words → ⊥) × (place ≡ t.place)
bad_number words place bad = (
  bad.token,
  record {
    before = bad.before;
    after = bad.after;
    split = bad.split ∙ append_assoc bad.before (bad.token ∷ []) bad.after;
    begins = bad.begins;
    wrong = λ (more, m, n, es, is). bad.wrong more m n is.rest is.header;
  },
  λ (m, n, rest, header, past). bad.wrong bad.after m n rest (subst (λ w. HasJcfHeader w m n rest) bad.split header),
  bad.here,
)

-- a fault in the header
module _ (bytes first : List ℕ) (long : Bool) (found : IsFirstOf bytes first long) where
  same : judged_from first long 0 ≡ judged bytes
  same = sym (judged_is bytes first long found)

  header_bad : (place : ℕ) → IsHeaderFault first long (Bad place) → RefusalJcf bytes (BadAt place)
  header_bad place (inl bad) =
      let (t, refused, limits, here) = bad_number (judged bytes) place (subst (λ w. IsBadNumber w place) same bad) in
      inl (record { token = t; refused = refused; limits = limits; here = here })
  header_bad place (inr (short, cut, here)) =
      let cut' = subst IsCutHeader same cut in
      inr (record {
        short = found.shorter short;
        begins = cut'.begins;
        few = cut'.few;
        here = here ∙ ap length (all_judged bytes first long found short);
      })

  header_limit : IsHeaderFault first long Limit → RefusalJcf bytes PastLimit
  header_limit (is, cut) = inr (found.longer is, (subst IsCutHeader same cut).begins)

  -- sizes past a limit
  sizes_past : (m n end : ℕ) → IsHeaderBefore first long m n end → (IsWithinLimits 1 m n → ⊥) → RefusalJcf bytes PastLimit
  sizes_past m n end read past = inl (m, n, judged_from first long end, subst (λ w. HasJcfHeader w m n (judged_from first long end)) same read.header, past)

-- entries that tokens spell, and one that is refused
spelled_apart : (words more : List Token) (es all : List Entry) (t : Token)
    → map (λ (w : Token). entry w.bytes) words ≡ map (λ (e : Entry). Some e) es
    → map (λ (w : Token). entry w.bytes) (words ++ t ∷ more) ≡ map (λ (e : Entry). Some e) all
    → (e : Entry) × (after : List Entry) × (all ≡ es ++ e ∷ after) × (entry t.bytes ≡ Some e)
spelled_apart [] more [] [] t first both = absurd (omega (arith, ap length both))
spelled_apart [] more [] (e ∷ all) t first both = (e, all, refl, cc)
spelled_apart [] more (e ∷ es) all t first both = absurd (omega (arith, ap length first))
spelled_apart (w ∷ words) more [] all t first both = absurd (omega (arith, ap length first))
spelled_apart (w ∷ words) more (e ∷ es) [] t first both = absurd (omega (arith, ap length both))
spelled_apart (w ∷ words) more (e ∷ es) (f ∷ all) t first both =
    let rest : map (λ (w : Token). entry w.bytes) words ≡ map (λ (e : Entry). Some e) es = cc in
    let rest' : map (λ (w : Token). entry w.bytes) (words ++ t ∷ more) ≡ map (λ (e : Entry). Some e) all = cc in
    let (x, after, split, is) = spelled_apart words more es all t rest rest' in
    let head : f ≡ e = cc in
    (x, after, ap₂ (λ h l. h ∷ l) head split, is)

-- tokens that begin with a header
module _ (words : List Token) (m n : ℕ) (rest : List Token) (h : HasJcfHeader words m n rest) where
  -- the header with other tokens behind it
  headed : (other : List Token) → HasJcfHeader (h.first ∷ h.second ∷ h.third ∷ h.fourth ∷ other) m n other
  headed other = record {
    first = h.first;
    second = h.second;
    third = h.third;
    fourth = h.fourth;
    four = refl;
    rows = h.rows;
    cols = h.cols;
    modulus = h.modulus;
    unused = h.unused;
  }

  -- it passes no limit where its sizes are within them
  pub within_limits : IsWithinLimits 1 m n → PassesLimit words → ⊥
  within_limits limits (k, l, behind, header, past) =
      let same = header_same words rest m n k l rest behind h (subst (λ w. HasJcfHeader w k l behind) h.four header) in
      past (subst₂ (IsWithinLimits 1) same.0 same.1 limits)

  -- the first entry that isn't taken is the first refused token
  pub first_wrong : (before after : List Token) (t : Token) (es : List Entry) → rest ≡ before ++ t ∷ after → SpellsEntries m n before es
      → ((e : Entry) → entry t.bytes ≡ Some e → Takes m n es e → ⊥) → IsFirstRefused words t
  first_wrong before after t es split spelled wrong =
      let front = h.first ∷ h.second ∷ h.third ∷ h.fourth ∷ before in
      record {
        before = front;
        after = after;
        split = h.four ∙ ap (λ w. h.first ∷ h.second ∷ h.third ∷ h.fourth ∷ w) split;
        begins = (
          [],
          m,
          n,
          es,
          record { rest = before; header = subst (λ w. HasJcfHeader w m n before) (sym (append-nil front)) (headed before); body = spelled },
        );
        wrong = λ (more, k, l, all, is).
            let same = header_same words ((before ++ t ∷ []) ++ more) m n k l rest is.rest h is.header in
            let (e, behind, parts, token) = spelled_apart before more es all t spelled.spelled
            (ap (map (λ (w : Token). entry w.bytes)) (sym (append_assoc before (t ∷ []) more) ∙ same.2) ∙ is.body.spelled) in
            wrong e token (subst₂ (λ i j. Takes i j es e) (sym same.0) (sym same.1) (is.body.taken es behind e parts));
      }

module _ (bytes first : List ℕ) (long : Bool) (found : IsFirstOf bytes first long) (m n end : ℕ) (read : IsHeaderBefore first long m n end)
    (limits : IsWithinLimits 1 m n) where
  h : HasJcfHeader (judged bytes) m n (judged_from first long end)
  h = subst (λ w. HasJcfHeader w m n (judged_from first long end)) (sym (judged_is bytes first long found)) read.header

  -- a refused entry
  entry_bad : (place : ℕ) → RefusesEntry first long end m n place → RefusalJcf bytes (BadAt place)
  entry_bad place bad =
      inl (record {
        token = bad.token;
        refused = first_wrong (judged bytes) m n (judged_from first long end) h bad.before bad.after bad.token bad.entries bad.split bad.spelled bad.wrong;
        limits = within_limits (judged bytes) m n (judged_from first long end) h limits;
        here = bad.here;
      })

  -- more bytes than a file may have
  too_long : (old new : Matrix) → old.rows ≡ m → old.cols ≡ n → ReadsEntries first long end old new → long ≡ true → RefusalJcf bytes PastLimit
  too_long old new many wide entries is =
      let is_jcf : IsJcf (judged bytes ++ []) m n entries.entries = record {
        rest = judged_from first long end;
        header = subst (λ w. HasJcfHeader w m n (judged_from first long end)) (sym (append-nil (judged bytes))) h;
        body = subst₂ (λ i j. SpellsEntries i j (judged_from first long end) entries.entries) many wide entries.spelled;
      } in
      inr (found.longer is, ([], m, n, entries.entries, is_jcf))

  -- the matrix that is read
  all_read : (old new : Matrix) → old ≡ zero_matrix gf2 m n → ReadsEntries first long end old new → long ≡ false → ReadsJcf bytes new
  all_read old new is entries short =
      let many : old.rows ≡ m = ap (λ (A : Matrix). A.rows) is in
      let wide : old.cols ≡ n = ap (λ (A : Matrix). A.cols) is in
      let rows : m ≡ new.rows = sym (entries.rows ∙ many) in
      let cols : n ≡ new.cols = sym (entries.cols ∙ wide) in
      let rest = judged_from first long end in
      let spelled : IsJcf (tokens bytes) m n entries.entries = record {
        rest = rest;
        header = subst (λ w. HasJcfHeader w m n rest) (short_tokens bytes first long found short) read.header;
        body = subst₂ (λ i j. SpellsEntries i j rest entries.entries) many wide entries.spelled;
      } in
      record {
        short = found.shorter short;
        accepted = record { matrix = entries.matrix; over_gf2 = entries.over_gf2; limits = subst₂ (IsWithinLimits 1) rows cols limits };
        entries = entries.entries;
        spelled = subst₂ (λ i j. IsJcf (tokens bytes) i j entries.entries) rows cols spelled;
        ones = λ i j in_rows in_cols. (
          λ one.
              elim (entries.kept i j (omega (arith, entries.rows)) (omega (arith, entries.cols)) one) [
                | inl has ↦ has
                | inr was ↦
                    let none : at old i j ≡ 0 =
                    ap (λ (A : Matrix). at A i j) is ∙ at-table m n (λ k l. 0) i j (omega (arith, rows)) (omega (arith, cols)) in
                    absurd (omega (arith, was, none))
              ],
          entries.ones i j,
        );
      }

-- every file that begins so is refused
module _ (bytes first : List ℕ) (long : Bool) (found : IsFirstOf bytes first long) where
  pub refused_header : (fault : TextFault) → IsHeaderFault first long fault → IsRefusedIn Jcf bytes fault
  refused_header (Bad place) bad = λ more either.
      header_bad (bytes ++ more) first long (still_first bytes first more long found either) place bad
  refused_header Limit limit = λ more either.
      header_limit (bytes ++ more) first long (still_first bytes first more long found either) limit
  refused_header NoMemory none = tt

  pub refused_sizes : (m n end : ℕ) → IsHeaderBefore first long m n end → (IsWithinLimits 1 m n → ⊥) → IsRefusalIn Jcf bytes PastLimit
  refused_sizes m n end read past more either =
      sizes_past (bytes ++ more) first long (still_first bytes first more long found either) m n end read past

  pub refused_entry : (m n end place : ℕ) (old : Matrix) → IsHeaderBefore first long m n end → IsWithinLimits 1 m n → old ≡ zero_matrix gf2 m n
      → RefusesEntry first long end old.rows old.cols place → IsRefusalIn Jcf bytes (BadAt place)
  refused_entry m n end place old read limits is bad more either =
      entry_bad (bytes ++ more) first long (still_first bytes first more long found either) m n end read limits place
      (subst₂ (λ i j. RefusesEntry first long end i j place) (ap (λ (A : Matrix). A.rows) is) (ap (λ (A : Matrix). A.cols) is) bad)

  pub refused_long : (m n end : ℕ) (old new : Matrix) → IsHeaderBefore first long m n end → IsWithinLimits 1 m n → old ≡ zero_matrix gf2 m n
      → ReadsEntries first long end old new → long ≡ true → IsRefusalIn Jcf bytes PastLimit
  refused_long m n end old new read limits is entries far more either =
      too_long (bytes ++ more) first long (still_first bytes first more long found either) m n end read limits old new
      (ap (λ (A : Matrix). A.rows) is) (ap (λ (A : Matrix). A.cols) is) entries far

  pub read_jcf : (m n end : ℕ) (old new : Matrix) → IsHeaderBefore first long m n end → IsWithinLimits 1 m n → old ≡ zero_matrix gf2 m n
      → ReadsEntries first long end old new → long ≡ false → ReadsJcf bytes new
  read_jcf m n end old new read limits is entries short = all_read bytes first long found m n end read limits old new is entries short
