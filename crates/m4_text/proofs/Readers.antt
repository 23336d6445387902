-- A reader that is fed a text in pieces.
use Rattle.std.proofs.Common.{◌≡◌, ℕ, ◌^◌, ◌≤◌, List, [], ◌++◌, length, Some, None, Result, Ok, Err, IfOk, IfErr, MatchOption, refl, sym, subst, ◌⊎◌, inl, inr, append_assoc, append-nil}
use Rattle.std.proofs.lemmas.Result.{MatchResult-weaker}
use Rattle.m4_model.specs.Matrix.{Matrix}
use Rattle.m4_model.specs.Text.{BadAt, PastLimit}
use Rattle.m4_model.specs.declared.form.Form.{Form}
use Rattle.m4_model.specs.Texts.{RefusalAs, ReadsAs}
use Rattle.m4_model.specs.declared.form.Form.TheVariants.{Headed, Bare, Jcf, Hex}
use Rattle.m4_text.specs.declared.fault.TextFault.{TextFault}
use Rattle.m4_text.specs.declared.fault.TextFault.TheVariants.{Bad, Limit, NoMemory}
use Rattle.m4_text.specs.Refused.{IsRefusedIn}
use Rattle.m4_text.specs.Reader.{Collected, IsFaultOf, IsFaultOfAll, StandsFor}
use Rattle.m4_text.proofs.Refusals.{length-text-le}
use Rattle.m4_text.proofs.Bares.{length-bare-le}
use Rattle.m4_text.proofs.Once.{never_both, one_fault}

-- what is read has at most 2^29 bytes
pub reads_short : (form : Form) (bytes : List ℕ) (M : Matrix) → ReadsAs form bytes M → length bytes ≤ 2 ^ 29
reads_short Headed bytes M reads = subst (λ w. length w ≤ 2 ^ 29) (sym reads.spelled) (length-text-le M reads.accepted)
reads_short Bare bytes M reads = length-bare-le bytes (M, reads)
reads_short Jcf bytes M reads = reads.short
reads_short Hex bytes M reads = subst (λ w. length w ≤ 2 ^ 29) (sym reads.spelled) (length-text-le M reads.accepted)

-- a fault that is told
pub told : (reader : Collected) (bytes : List ℕ) (fault : TextFault) → reader.fault ≡ Some fault → StandsFor reader bytes
    → IsFaultOfAll reader.form bytes fault
told reader bytes fault is stands =
    subst (λ f. MatchOption f ((reader.bytes ≡ bytes) × (length bytes ≤ 2 ^ 29)) (IsFaultOfAll reader.form bytes)) is stands

pub stands_told : (reader : Collected) (bytes : List ℕ) (fault : TextFault) → reader.fault ≡ Some fault
    → IsFaultOfAll reader.form bytes fault → StandsFor reader bytes
stands_told reader bytes fault is all =
    subst (λ f. MatchOption f ((reader.bytes ≡ bytes) × (length bytes ≤ 2 ^ 29)) (IsFaultOfAll reader.form bytes)) (sym is) all

-- no fault is told
pub untold : (reader : Collected) (bytes : List ℕ) → reader.fault ≡ None → StandsFor reader bytes → reader.bytes ≡ bytes
untold reader bytes is stands =
    let kept : (reader.bytes ≡ bytes) × (length bytes ≤ 2 ^ 29) =
    subst (λ f. MatchOption f ((reader.bytes ≡ bytes) × (length bytes ≤ 2 ^ 29)) (IsFaultOfAll reader.form bytes)) is stands in
    kept.0

-- a fault of every file that begins so is one of every file that begins with more, and of the bytes themselves
pub all_more : (form : Form) (bytes piece : List ℕ) (fault : TextFault) → IsFaultOfAll form bytes fault
    → IsFaultOfAll form (bytes ++ piece) fault
all_more form bytes piece fault all more =
    subst (λ w. IsFaultOf form w fault) (sym (append_assoc bytes piece more)) (all (piece ++ more))

pub all_itself : (form : Form) (bytes : List ℕ) (fault : TextFault) → IsFaultOfAll form bytes fault → IsFaultOf form bytes fault
all_itself form bytes fault all = subst (λ w. IsFaultOf form w fault) (append-nil bytes) (all [])

-- a refusal is a fault
pub refused_itself : (form : Form) (bytes : List ℕ) (fault : TextFault) → IsRefusedIn form bytes fault → IsFaultOf form bytes fault
refused_itself form bytes (Bad at) refused = subst (λ w. RefusalAs form w (BadAt at)) (append-nil bytes) (refused [] (inl refl))
refused_itself form bytes Limit refused = subst (λ w. RefusalAs form w PastLimit) (append-nil bytes) (refused [] (inl refl))
refused_itself form bytes NoMemory refused = tt

-- both versions of headed text are read alike
hex_refused : (bytes : List ℕ) (fault : TextFault) → IsRefusedIn Headed bytes fault → IsRefusedIn Hex bytes fault
hex_refused bytes (Bad at) refused = refused
hex_refused bytes Limit refused = refused
hex_refused bytes NoMemory refused = tt

pub hex_result : (bytes : List ℕ) (result : Result Matrix TextFault) → IfErr result (IsRefusedIn Headed bytes) → IfErr result (IsRefusedIn Hex bytes)
hex_result bytes result refused = MatchResult-weaker result refused (λ _ _. tt) (hex_refused bytes)

-- a told fault stays for more bytes
pub stands_more : (reader : Collected) (bytes piece : List ℕ) (fault : TextFault) → reader.fault ≡ Some fault → StandsFor reader bytes
    → StandsFor reader (bytes ++ piece)
stands_more reader bytes piece fault is stands =
    stands_told reader (bytes ++ piece) fault is (all_more reader.form bytes piece fault (told reader bytes fault is stands))

-- bytes that pass a limit are refused so, unless memory is wanting
pub limit_told : (form : Form) (bytes : List ℕ) (result : Result Matrix TextFault) → IfOk result (ReadsAs form bytes) → IfErr result (IsFaultOf form bytes)
    → RefusalAs form bytes PastLimit → (result ≡ Err Limit) ⊎ (result ≡ Err NoMemory)
limit_told form bytes (Ok m) reads refused passed = absurd (never_both form bytes m PastLimit reads passed)
limit_told form bytes (Err (Bad at)) reads refused passed =
    let same : BadAt at ≡ PastLimit = one_fault form bytes (BadAt at) PastLimit refused passed in
    absurd (cc)
limit_told form bytes (Err Limit) reads refused passed = inl refl
limit_told form bytes (Err NoMemory) reads refused passed = inr refl

pub limit_refused : (form : Form) (bytes : List ℕ) (result : Result Matrix TextFault) → IfOk result (ReadsAs form bytes) → IfErr result (IsRefusedIn form bytes)
    → RefusalAs form bytes PastLimit → (result ≡ Err Limit) ⊎ (result ≡ Err NoMemory)
limit_refused form bytes result reads refused =
    limit_told form bytes result reads (MatchResult-weaker result refused (λ _ _. tt) (λ fault. refused_itself form bytes fault))
