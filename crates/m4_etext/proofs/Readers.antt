-- A reader of headed text that is fed in pieces.
use Rattle.std.proofs.Common.{◌≡◌, ℕ, ◌<◌, ◌≤◌, List, [], ◌++◌, length, take, drop, refl, sym, ◌∙◌, ap, ap₂, subst, subst₂, arith, inl, append_assoc, append-nil, take-append-drop, take_all}
use Rattle.m4_model.specs.Field.{Field, width}
use Rattle.m4_model.specs.Matrix.{Matrix, zero_matrix}
use Rattle.m4_model.specs.Text.{IsWithinLimits}
use Rattle.m4_model.specs.Headed.{Spelling, IsHeader, IsBadHeader, HasHeader, HasField, AreHeaderNumbers, Reads, Refusal, BadAt, PastLimit, field_of, header}
use Rattle.m4_etext.specs.Place.{GoesWrong, IsHeaderOf}
use Rattle.m4_etext.specs.Pieces.{Kept, StandsForLines}
use Rattle.m4_etext.specs.Standing.{IsFaultOf, IsFaultOfAll}
use Rattle.m4_etext.specs.Reading.{StandsFor}
use Rattle.m4_etext.specs.declared.reader.State.{State}
use Rattle.m4_etext.specs.declared.reader.State.TheVariants.{AtHead, AtLines, Told}
use Rattle.m4_etext.specs.declared.fault.TextFault.{TextFault}
use Rattle.m4_etext.specs.declared.fault.TextFault.TheVariants.{Bad}
use Rattle.m4_etext.proofs.Fronts.{no_front, GoesWrong-append}
use Rattle.m4_etext.proofs.Headers.{IsPrefixFree-header}
use Rattle.m4_etext.proofs.HeadLemmas.{length-header-le}

-- every file that begins with more bytes
pub all_more : (bytes piece : List ℕ) (fault : TextFault) → IsFaultOfAll bytes fault → IsFaultOfAll (bytes ++ piece) fault
all_more bytes piece fault all more = subst (λ l. IsFaultOf l fault) (sym (append_assoc bytes piece more)) (all (piece ++ more))

pub all_itself : (bytes : List ℕ) (fault : TextFault) → IsFaultOfAll bytes fault → IsFaultOf bytes fault
all_itself bytes fault all = subst (λ l. IsFaultOf l fault) (append-nil bytes) (all [])

-- a told fault
pub told_all : (s : State) (bytes : List ℕ) (fault : TextFault) → s ≡ Told fault → StandsFor s bytes → IsFaultOfAll bytes fault
told_all s bytes fault is stands = subst (λ (x : State). StandsFor x bytes) is stands

pub told_more : (s : State) (bytes piece : List ℕ) (fault : TextFault) → s ≡ Told fault → StandsFor s bytes → IsFaultOfAll (bytes ++ piece) fault
told_more s bytes piece fault is stands = all_more bytes piece fault (told_all s bytes fault is stands)

pub told_itself : (s : State) (bytes : List ℕ) (fault : TextFault) → s ≡ Told fault → StandsFor s bytes → IsFaultOf bytes fault
told_itself s bytes fault is stands = all_itself bytes fault (told_all s bytes fault is stands)

-- bytes that go wrong in the header line
bad_header : (bytes : List ℕ) (place : ℕ) → GoesWrong IsHeader bytes place → IsBadHeader bytes place
bad_header bytes place found = record {
  none = λ S m n has.
      let (are, rest, e) = has in
      no_front IsHeader IsPrefixFree-header (header S m n) rest place (subst (λ w. GoesWrong IsHeader w place) e found) (S, m, n, are, refl);
  longest = found.longest;
}

-- a header line goes wrong, whatever follows
pub head_wrong : (s : State) (seen bytes piece : List ℕ) (at : ℕ) → s ≡ AtHead seen → StandsFor s bytes → at < length (seen ++ piece)
    → GoesWrong IsHeader (seen ++ piece) at → IsFaultOfAll (bytes ++ piece) (Bad at)
head_wrong s seen bytes piece at is stands inside found more =
    let same : seen ≡ bytes = (subst (λ (x : State). StandsFor x bytes) is stands).0 in
    let fed : seen ++ piece ≡ bytes ++ piece = ap (λ l. l ++ piece) same in
    inl (bad_header ((bytes ++ piece) ++ more) at (subst (λ l. GoesWrong IsHeader (l ++ more) at) fed (GoesWrong-append IsHeader (seen ++ piece) more at inside found)))

-- a header line that ends too early
pub head_short : (s : State) (seen bytes : List ℕ) (at : ℕ) → s ≡ AtHead seen → at ≡ length seen → StandsFor s bytes → Refusal bytes (BadAt at)
head_short s seen bytes at is here stands =
    let (same, begins) = subst (λ (x : State). StandsFor x bytes) is stands in
    let place : length bytes ≡ at = ap length (sym same) ∙ sym here in
    inl (bad_header bytes at (subst (GoesWrong IsHeader bytes) place begins))

-- lines that are read
pub lines_read_as : (s : State) (k : Kept) (bytes : List ℕ) (M : Matrix) → s ≡ AtLines k → StandsFor s bytes
    → ((bytes : List ℕ) → StandsForLines k bytes → Reads bytes M) → Reads bytes M
lines_read_as s k bytes M is stands read = read bytes (subst (λ (x : State). StandsFor x bytes) is stands)

-- bytes that begin with a header line
pub HasHeader-read : (bytes more : List ℕ) (S : Spelling) (m n end : ℕ) → IsHeaderOf bytes S m n end → HasHeader (bytes ++ more) S m n
HasHeader-read bytes more S m n end read = (
  read.numbers,
  drop end bytes ++ more,
  ap (λ w. w ++ more) (sym (take-append-drop end bytes) ∙ ap (λ w. w ++ drop end bytes) read.spelled) ∙ append_assoc (header S m n) (drop end bytes) more,
)

pub HasHeader-fed : (bytes rest more : List ℕ) (S : Spelling) (m n end : ℕ) → IsHeaderOf bytes S m n end → HasHeader ((bytes ++ rest) ++ more) S m n
HasHeader-fed bytes rest more S m n end read = subst (λ l. HasHeader l S m n) (sym (append_assoc bytes rest more)) (HasHeader-read bytes (rest ++ more) S m n end read)

-- a header line is short
pub header_len : (bytes : List ℕ) (S : Spelling) (m n end : ℕ) → IsHeaderOf bytes S m n end → end ≡ length bytes → end ≤ 44
header_len bytes S m n end found here =
    omega (arith, length-header-le S m n found.numbers, ap length found.spelled, ap length (take_all end bytes (omega (arith, here))))

-- the bytes behind a header line in a piece
pub split_fed : (seen bytes piece : List ℕ) (end : ℕ) → seen ≡ bytes → (seen ++ take end piece) ++ drop end piece ≡ bytes ++ piece
split_fed seen bytes piece end same =
    append_assoc seen (take end piece) (drop end piece) ∙ ap₂ (λ x y. x ++ y) same (take-append-drop end piece)

-- the matrix of a header line
pub begun : (k : Kept) (A : Matrix) (F : Field) (S T : Spelling) (m n end : ℕ) (bytes : List ℕ) → A ≡ zero_matrix F m n → T ≡ S → HasField T → field_of T ≡ F
    → (HasField T → AreHeaderNumbers T A.rows A.cols → IsWithinLimits (width A.field) A.rows A.cols → end ≡ length (header T A.rows A.cols) → StandsForLines k (header T A.rows A.cols))
    → IsWithinLimits (width F) m n → IsHeaderOf bytes S m n end → end ≡ length bytes → StandsForLines k bytes
begun k A F S T m n end bytes is same has over stands limits found here =
    let field : A.field ≡ F = ap (λ (B : Matrix). B.field) is in
    let rows : A.rows ≡ m = ap (λ (B : Matrix). B.rows) is in
    let cols : A.cols ≡ n = ap (λ (B : Matrix). B.cols) is in
    let head : header T A.rows A.cols ≡ bytes = ap₂ (header T) rows cols ∙ ap (λ S. header S m n) same ∙ sym found.spelled ∙ take_all end bytes (omega (arith, here)) in
    subst (StandsForLines k) head
    (stands has (subst (λ S. AreHeaderNumbers S A.rows A.cols) (sym same) (subst₂ (AreHeaderNumbers S) (sym rows) (sym cols) found.numbers))
    (subst (λ F. IsWithinLimits (width F) A.rows A.cols) (sym field) (subst₂ (IsWithinLimits (width F)) (sym rows) (sym cols) limits)) (here ∙ ap length (sym head)))

-- a header line that passes a limit
pub begun_past : (bytes rest more : List ℕ) (F : Field) (S T : Spelling) (m n end : ℕ) → T ≡ S → HasField T → field_of T ≡ F → IsHeaderOf bytes S m n end → (IsWithinLimits (width F) m n → ⊥)
    → Refusal ((bytes ++ rest) ++ more) PastLimit
begun_past bytes rest more F S T m n end same has over found past = record {
  spelling = S;
  rows = m;
  cols = n;
  begins = HasHeader-fed bytes rest more S m n end found;
  field = subst HasField same has;
  past = λ within. past (subst (λ F. IsWithinLimits (width F) m n) (ap field_of (sym same) ∙ over) within);
}
