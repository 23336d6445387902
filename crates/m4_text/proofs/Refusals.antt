-- Texts that are refused, whatever follows where they are long, and never both read and refused.
use Rattle.std.proofs.Common.{◌≡◌, ℕ, ◌*◌, ◌^◌, ◌≤◌, List, [], ◌∷◌, ◌++◌, length, take, drop, flat_map, codes, decimal, refl, sym, ◌∙◌, ap, subst, subst₂, arith, inl, inr, append_assoc, append-nil, length-append, length-take-le, take-append-drop, mul-le-mul_left, lit<}
use Rattle.std.proofs.lemmas.Fmt.{length-decimal-le, decimal_injective}
use Rattle.std.proofs.lemmas.List.{append_cancel_left, append_cancel_right}
use Rattle.m4_model.specs.Matrix.{Matrix}
use Rattle.m4_model.specs.Text.{IsLongest, IsHeader, IsHeaderNumber, HasHeader, IsTextOf, IsWithinLimits, InLimits, Reads, Refusal, Fault, BadAt, PastLimit, IsBadHeader, header, line, text, words_per_row}
use Rattle.m4_text.specs.Place.{GoesWrong, IsHeaderOf, IsWrongText}
use Rattle.m4_text.specs.Refused.{IsRefusal}
use Rattle.m4_text.proofs.Fronts.{no_front, GoesWrong-append, IsLongest-append, same_parts}
use Rattle.m4_text.proofs.Numbers.{word_sized, digits_apart, AreDigits-decimal}
use Rattle.m4_text.proofs.Headers.{IsPrefixFree-header, space_apart}
use Rattle.m4_text.proofs.Bodies.{length-text}

-- a header line is short
pub length-header-le : (m n : ℕ) → IsHeaderNumber m → IsHeaderNumber n → length (header m n) ≤ 24
length-header-le m n few_rows few_cols =
    let rows = length-decimal-le 9 m (lit< tt) few_rows (word_sized m few_rows) in
    let cols = length-decimal-le 9 n (lit< tt) few_cols (word_sized n few_cols) in
    omega (arith, length-append (decimal m) (32 ∷ (decimal n ++ 10 ∷ [])), length-append (decimal n) (10 ∷ []), rows, cols)

-- a text within the limits has at most 2^29 bytes
pub bounded_text : (m n : ℕ) (w : List ℕ) → IsWithinLimits 1 m n → IsTextOf m n w → length w ≤ 2 ^ 29
bounded_text m n w limits is =
    let words = words_per_row (n * 1) in
    let wide : n ≤ 64 * words = omega arith in
    let most : m * n ≤ m * (64 * words) = mul-le-mul_left m wide in
    omega (arith, length-text m n w is, length-header-le m n (omega (arith, limits.rows)) (omega (arith, limits.cols)), most, limits.words, limits.rows)

pub length-text-le : (M : Matrix) → InLimits M → length (text M) ≤ 2 ^ 29
length-text-le M accepted =
    bounded_text M.rows M.cols (text M) accepted.limits (M, accepted.matrix, accepted.over_gf2, refl, refl, refl)

-- bytes that begin with a header line
pub HasHeader-read : (bytes more : List ℕ) (m n end : ℕ) → IsHeaderOf bytes m n end → HasHeader (bytes ++ more) m n
HasHeader-read bytes more m n end read = (
  read.rows,
  read.cols,
  drop end bytes ++ more,
  ap (λ w. w ++ more) (sym (take-append-drop end bytes) ∙ ap (λ w. w ++ drop end bytes) read.spelled)
      ∙ append_assoc (header m n) (drop end bytes) more,
)

-- bytes that go wrong in the header line
bad_header : (bytes : List ℕ) (place : ℕ) → GoesWrong IsHeader bytes place → IsBadHeader bytes place
bad_header bytes place found = record {
  none = λ m n has.
      let (rows, cols, rest, e) = has in
      no_front IsHeader IsPrefixFree-header (header m n) rest place (subst (λ w. GoesWrong IsHeader w place) e found)
      (m, n, rows, cols, refl);
  longest = found.longest;
}

pub refused_header : (bytes : List ℕ) (place : ℕ) → GoesWrong IsHeader bytes place → IsRefusal bytes (BadAt place)
refused_header bytes place found more (inl none) =
    inl (bad_header (bytes ++ more) place
    (subst (λ w. GoesWrong IsHeader w place) (sym (ap (λ w. bytes ++ w) none ∙ append-nil bytes)) found))
refused_header bytes place found more (inr long) =
    let (rest, (m, n, rows, cols, e)) = found.longest.begins in
    let short : place ≤ 24 =
    omega (arith, length-header-le m n rows cols, ap length e, length-append (take place bytes) rest, length-take-le place bytes found.longest.within) in
    inl (bad_header (bytes ++ more) place (GoesWrong-append IsHeader bytes more place (omega arith) found))

-- numbers past a limit
pub refused_limit : (bytes : List ℕ) (m n end : ℕ) → IsHeaderOf bytes m n end → (IsWithinLimits 1 m n → ⊥) → IsRefusal bytes PastLimit
refused_limit bytes m n end read past more either = (m, n, HasHeader-read bytes more m n end read, past)

-- bytes that go wrong behind the header line
pub refused_body : (bytes : List ℕ) (m n end place : ℕ) → IsHeaderOf bytes m n end → IsWithinLimits 1 m n → IsWrongText m n bytes place
    → IsRefusal bytes (BadAt place)
refused_body bytes m n end place read limits wrong more (inl none) =
    let same : bytes ≡ bytes ++ more = sym (ap (λ w. bytes ++ w) none ∙ append-nil bytes) in
    inr (
      m,
      n,
      record {
        begins = HasHeader-read bytes more m n end read;
        limits = limits;
        none = λ whole. wrong.none (subst (IsTextOf m n) (sym same) whole);
        longest = subst (λ w. IsLongest (IsTextOf m n) w place) same wrong.longest;
      },
    )
refused_body bytes m n end place read limits wrong more (inr long) =
    let begun = wrong.longest.begins in
    let short : place ≤ 2 ^ 29 =
    omega (arith, bounded_text m n _ limits begun.1, length-append (take place bytes) begun.0, length-take-le place bytes wrong.longest.within) in
    inr (
      m,
      n,
      record {
        begins = HasHeader-read bytes more m n end read;
        limits = limits;
        none = λ whole. omega (arith, bounded_text m n _ limits whole, length-append bytes more);
        longest = IsLongest-append (IsTextOf m n) bytes more place (omega arith) wrong.longest;
      },
    )

-- a header line tells its numbers
pub same_header : (m n k l : ℕ) → IsHeaderNumber m → IsHeaderNumber n → IsHeaderNumber k → IsHeaderNumber l
    → header m n ≡ header k l → (m ≡ k) × (n ≡ l)
same_header m n k l rows cols rows' cols' e =
    let behind = append_cancel_left (codes "gf2 ") (decimal m ++ 32 ∷ (decimal n ++ 10 ∷ [])) (decimal k ++ 32 ∷ (decimal l ++ 10 ∷ [])) e in
    elim (digits_apart (decimal m) (decimal k) (decimal n ++ 10 ∷ []) (decimal l ++ 10 ∷ []) 32 32
    (AreDigits-decimal m (word_sized m rows)) (AreDigits-decimal k (word_sized k rows')) space_apart behind) [
      | inl same ↦ (
        decimal_injective m k (word_sized m rows) (word_sized k rows') same.0,
        decimal_injective n l (word_sized n cols) (word_sized l cols') (append_cancel_right (decimal n) (decimal l) (10 ∷ []) same.2),
      )
      | inr longer ↦ absurd (space_apart longer.0)
    ]

-- and so do bytes that begin with one
pub same_sizes : (bytes : List ℕ) (m n k l : ℕ) → HasHeader bytes m n → HasHeader bytes k l → (m ≡ k) × (n ≡ l)
same_sizes bytes m n k l (rows, cols, rest, e) (rows', cols', rest', e') =
    let both : header m n ++ rest ≡ header k l ++ rest' = sym e ∙ e' in
    same_header m n k l rows cols rows' cols'
    (same_parts IsHeader IsPrefixFree-header (header m n) rest (header k l) rest' (m, n, rows, cols, refl) (k, l, rows', cols', refl) both).0

-- a text begins with its header line
pub own_header : (bytes : List ℕ) (M : Matrix) → Reads bytes M → HasHeader bytes M.rows M.cols
own_header bytes M reads =
    (omega (arith, reads.accepted.limits.rows), omega (arith, reads.accepted.limits.cols), flat_map line M.entries, reads.spelled)

-- no bytes are both read and refused
pub read_or_refused : (bytes : List ℕ) (M : Matrix) (fault : Fault) → Reads bytes M → Refusal bytes fault → ⊥
read_or_refused bytes M (BadAt place) reads (inl bad) = bad.none M.rows M.cols (own_header bytes M reads)
read_or_refused bytes M (BadAt place) reads (inr (m, n, bad)) =
    let same = same_sizes bytes M.rows M.cols m n (own_header bytes M reads) bad.begins in
    bad.none (M, reads.accepted.matrix, reads.accepted.over_gf2, same.0, same.1, reads.spelled)
read_or_refused bytes M PastLimit reads (m, n, has, past) =
    let same = same_sizes bytes M.rows M.cols m n (own_header bytes M reads) has in
    past (subst₂ (IsWithinLimits 1) same.0 same.1 reads.accepted.limits)
