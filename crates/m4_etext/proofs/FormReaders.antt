-- A reader of a text in any form, from the readers of headed text and of texts over GF(2).
use Rattle.std.proofs.Common.{◌≡◌, ℕ, List, ◌++◌, Option, Some, None, option_map, Result, Ok, Err, IfErr, refl, sym, ◌∙◌, ap, subst}
use Rattle.std.proofs.lemmas.Result.{MatchResult-weaker}
use Rattle.m4_model.specs.Matrix.{Matrix}
use Rattle.m4_model.specs.Headed.{Reads}
use Rattle.m4_model.specs.Bare.{ReadsBare}
use Rattle.m4_model.specs.FormTexts.{ReadsAs}
use Rattle.m4_model.specs.Texts.{ReadsAs as ReadsBits}
use Rattle.m4_model.specs.declared.form.Form.{Form}
use Rattle.m4_model.specs.declared.form.Form.TheVariants.{Headed, Bare, Jcf, Hex}
use Rattle.m4_field.specs.declared.field.FieldFault.TheVariants.{BadDegree, Reducible}
use Rattle.m4_text.specs.declared.fault.TextFault.{TextFault as BitsFault}
use Rattle.m4_text.specs.declared.fault.TextFault.TheVariants.{Bad as bits_bad, Limit as bits_limit, NoMemory as bits_no_memory}
use Rattle.m4_text.specs.Reader.{Collected}
use Rattle.m4_text.specs.Reader.{StandsFor as StandsForBits, IsFaultOf as IsBitsFault, IsFaultOfAll as IsBitsFaultOfAll}
use Rattle.m4_etext.specs.Standing.{IsFaultOf, IsFaultOfAll}
use Rattle.m4_etext.specs.Reading.{StandsFor, IsUntold}
use Rattle.m4_etext.specs.BareReading.{StandsForBare}
use Rattle.m4_etext.specs.FormFaults.{IsFaultIn, IsFaultOfAllIn}
use Rattle.m4_etext.specs.FormReading.{Fed, IsPartFor, StandsForPart, StandsForText, over_bits, told_at, told_by}
use Rattle.m4_etext.specs.declared.bare.BareState.{BareState}
use Rattle.m4_etext.specs.declared.fault.TextFault.{TextFault}
use Rattle.m4_etext.specs.declared.fault.TextFault.TheVariants.{Bad, Field, Limit, NoMemory}
use Rattle.m4_etext.specs.declared.reader.State.{State}
use Rattle.m4_etext.specs.declared.reader.State.TheVariants.{AtHead, AtLines, Told}
use Rattle.m4_etext.specs.declared.form_reader.Part.{Part}
use Rattle.m4_etext.specs.declared.form_reader.Part.TheVariants.{OfHeaded, OfBare, OfJcf}

-- the parts are of the form still
pub headed_still : (form : Form) (s t : State) → IsPartFor form (OfHeaded s) → IsPartFor form (OfHeaded t)
headed_still Headed s t is = tt
headed_still Bare s t is = absurd is
headed_still Jcf s t is = absurd is
headed_still Hex s t is = tt

pub bare_still : (form : Form) (s t : BareState) → IsPartFor form (OfBare s) → IsPartFor form (OfBare t)
bare_still Headed s t is = absurd is
bare_still Bare s t is = tt
bare_still Jcf s t is = absurd is
bare_still Hex s t is = absurd is

pub bits_still : (form : Form) (k l : Collected) → l.form ≡ k.form → IsPartFor form (OfJcf k) → IsPartFor form (OfJcf l)
bits_still Headed k l same is = absurd is
bits_still Bare k l same is = absurd is
bits_still Jcf k l same is = same ∙ is
bits_still Hex k l same is = absurd is

-- faults of headed text
pub headed_fault : (form : Form) (s : State) (bytes : List ℕ) (fault : TextFault) → IsPartFor form (OfHeaded s) → IsFaultOf bytes fault → IsFaultIn form bytes fault
headed_fault Headed s bytes (Bad at) is refused = refused
headed_fault Headed s bytes (Field at BadDegree) is refused = refused
headed_fault Headed s bytes (Field at Reducible) is refused = refused
headed_fault Headed s bytes Limit is refused = refused
headed_fault Headed s bytes NoMemory is refused = tt
headed_fault Hex s bytes (Bad at) is refused = refused
headed_fault Hex s bytes (Field at BadDegree) is refused = refused
headed_fault Hex s bytes (Field at Reducible) is refused = refused
headed_fault Hex s bytes Limit is refused = refused
headed_fault Hex s bytes NoMemory is refused = tt
headed_fault Bare s bytes fault is refused = absurd is
headed_fault Jcf s bytes fault is refused = absurd is

pub headed_fault_of_all : (form : Form) (s : State) (bytes : List ℕ) (fault : TextFault) → IsPartFor form (OfHeaded s) → IsFaultOfAll bytes fault → IsFaultOfAllIn form bytes fault
headed_fault_of_all form s bytes fault is refused more = headed_fault form s (bytes ++ more) fault is (refused more)

pub headed_read : (form : Form) (s : State) (bytes : List ℕ) (M : Matrix) → IsPartFor form (OfHeaded s) → Reads bytes M → ReadsAs form bytes M
headed_read Headed s bytes M is reads = reads
headed_read Bare s bytes M is reads = absurd is
headed_read Jcf s bytes M is reads = absurd is
headed_read Hex s bytes M is reads = reads

-- faults of bare text
pub bare_fault : (form : Form) (s : BareState) (bytes : List ℕ) (fault : TextFault) → IsPartFor form (OfBare s) → IsFaultIn Bare bytes fault → IsFaultIn form bytes fault
bare_fault Headed s bytes fault is refused = absurd is
bare_fault Bare s bytes fault is refused = refused
bare_fault Jcf s bytes fault is refused = absurd is
bare_fault Hex s bytes fault is refused = absurd is

pub bare_read : (form : Form) (s : BareState) (bytes : List ℕ) (M : Matrix) → IsPartFor form (OfBare s) → ReadsBare bytes M → ReadsAs form bytes M
bare_read Headed s bytes M is reads = absurd is
bare_read Bare s bytes M is reads = reads
bare_read Jcf s bytes M is reads = absurd is
bare_read Hex s bytes M is reads = absurd is

-- faults of JCF
jcf_fault : (bytes : List ℕ) (fault : BitsFault) → IsBitsFault Jcf bytes fault → IsFaultIn Jcf bytes (over_bits fault)
jcf_fault bytes (bits_bad at) refused = refused
jcf_fault bytes bits_limit refused = refused
jcf_fault bytes bits_no_memory refused = tt

pub bits_fault : (form : Form) (k : Collected) (bytes : List ℕ) (fault : BitsFault) → IsPartFor form (OfJcf k) → IsBitsFault k.form bytes fault → IsFaultIn form bytes (over_bits fault)
bits_fault Headed k bytes fault is refused = absurd is
bits_fault Bare k bytes fault is refused = absurd is
bits_fault Jcf k bytes fault is refused = jcf_fault bytes fault (subst (λ f. IsBitsFault f bytes fault) is refused)
bits_fault Hex k bytes fault is refused = absurd is

pub bits_fault_of_all : (form : Form) (k : Collected) (bytes : List ℕ) (fault : BitsFault) → IsPartFor form (OfJcf k) → IsBitsFaultOfAll k.form bytes fault → IsFaultOfAllIn form bytes (over_bits fault)
bits_fault_of_all form k bytes fault is refused more = bits_fault form k (bytes ++ more) fault is (refused more)

pub bits_read : (form : Form) (k : Collected) (bytes : List ℕ) (M : Matrix) → IsPartFor form (OfJcf k) → ReadsBits k.form bytes M → ReadsAs form bytes M
bits_read Headed k bytes M is reads = absurd is
bits_read Bare k bytes M is reads = absurd is
bits_read Jcf k bytes M is reads = subst (λ f. ReadsBits f bytes M) is reads
bits_read Hex k bytes M is reads = absurd is

-- what was told
pub is_told : (s : State) (fault : TextFault) → told_at s ≡ Some fault → s ≡ Told fault
is_told (AtHead seen) fault told = absurd cc
is_told (AtLines kept) fault told = absurd cc
is_told (Told other) fault told = let same : other ≡ fault = cc in ap Told same

pub is_untold : (s : State) → IsUntold s → told_at s ≡ None
is_untold (AtHead seen) untold = refl
is_untold (AtLines kept) untold = refl
is_untold (Told other) untold = absurd untold

pub bits_told : (kept : Option BitsFault) (fault : TextFault) → option_map over_bits kept ≡ Some fault → (f : BitsFault) × (kept ≡ Some f) × (over_bits f ≡ fault)
bits_told None fault told = absurd cc
bits_told (Some f) fault told = (f, refl, cc)

-- what finishing says, of what is kept
pub headed_finish_fails : (r : Fed) (s : State) (result : Result Matrix TextFault) → r.part ≡ OfHeaded s → IsPartFor r.form r.part
    → IfErr result (λ fault. (bytes : List ℕ) → StandsFor s bytes → IsFaultOf bytes fault)
    → IfErr result (λ fault. (bytes : List ℕ) → StandsForText r bytes → IsFaultIn r.form bytes fault)
headed_finish_fails r s result is for_form fails =
    let of_form : IsPartFor r.form (OfHeaded s) = subst (IsPartFor r.form) is for_form in
    MatchResult-weaker result fails (λ _ _. tt) (λ fault refused bytes stands.
    headed_fault r.form s bytes fault of_form (refused bytes (subst (λ (p : Part). StandsForPart p bytes) is stands)))

pub bare_finish_fails : (r : Fed) (s : BareState) (result : Result Matrix TextFault) → r.part ≡ OfBare s → IsPartFor r.form r.part
    → IfErr result (λ fault. (bytes : List ℕ) → StandsForBare s bytes → IsFaultIn Bare bytes fault)
    → IfErr result (λ fault. (bytes : List ℕ) → StandsForText r bytes → IsFaultIn r.form bytes fault)
bare_finish_fails r s result is for_form fails =
    let of_form : IsPartFor r.form (OfBare s) = subst (IsPartFor r.form) is for_form in
    MatchResult-weaker result fails (λ _ _. tt) (λ fault refused bytes stands.
    bare_fault r.form s bytes fault of_form (refused bytes (subst (λ (p : Part). StandsForPart p bytes) is stands)))

pub read_untold : (r : Fed) (k : Collected) (result : Result Matrix BitsFault) (M : Matrix) (fault : TextFault) → r.part ≡ OfJcf k → result ≡ Ok M
    → ((f : BitsFault) → k.fault ≡ Some f → result ≡ Err f) → told_by r.part ≡ Some fault → ⊥
read_untold r k result M fault is read told_then told =
    let (f, kept, e) = bits_told k.fault fault (subst (λ (p : Part). told_by p ≡ Some fault) is told) in
    let other = told_then f kept in
    absurd cc

-- what feeding says, of what is kept
pub headed_feed_fails : {T : Type 0} (r : Fed) (s o : State) (piece : List ℕ) (given result : Result T TextFault) → r.part ≡ OfHeaded s → IsPartFor r.form r.part → o ≡ s → result ≡ given
    → IfErr given (λ fault. (bytes : List ℕ) → StandsFor o bytes → IsFaultOfAll (bytes ++ piece) fault)
    → IfErr result (λ fault. (bytes : List ℕ) → StandsForText r bytes → IsFaultOfAllIn r.form (bytes ++ piece) fault)
headed_feed_fails r s o piece given result is for_form same given_is fails =
    let of_form : IsPartFor r.form (OfHeaded s) = subst (IsPartFor r.form) is for_form in
    subst (λ x. IfErr x (λ fault. (bytes : List ℕ) → StandsForText r bytes → IsFaultOfAllIn r.form (bytes ++ piece) fault)) (sym given_is)
    (MatchResult-weaker given fails (λ _ _. tt) (λ fault refused bytes stands.
    headed_fault_of_all r.form s (bytes ++ piece) fault of_form
    (refused bytes (subst (λ (p : State). StandsFor p bytes) (sym same) (subst (λ (p : Part). StandsForPart p bytes) is stands)))))

pub bare_feed_fails : {T : Type 0} (r : Fed) (s o : BareState) (piece : List ℕ) (given result : Result T TextFault) → r.part ≡ OfBare s → IsPartFor r.form r.part → o ≡ s → result ≡ given
    → IfErr given (λ fault. (bytes : List ℕ) → StandsForBare o bytes → IsFaultOfAllIn Bare (bytes ++ piece) fault)
    → IfErr result (λ fault. (bytes : List ℕ) → StandsForText r bytes → IsFaultOfAllIn r.form (bytes ++ piece) fault)
bare_feed_fails r s o piece given result is for_form same given_is fails =
    let of_form : IsPartFor r.form (OfBare s) = subst (IsPartFor r.form) is for_form in
    subst (λ x. IfErr x (λ fault. (bytes : List ℕ) → StandsForText r bytes → IsFaultOfAllIn r.form (bytes ++ piece) fault)) (sym given_is)
    (MatchResult-weaker given fails (λ _ _. tt) (λ fault refused bytes stands more.
    bare_fault r.form s ((bytes ++ piece) ++ more) fault of_form
    (refused bytes (subst (λ (p : BareState). StandsForBare p bytes) (sym same) (subst (λ (p : Part). StandsForPart p bytes) is stands)) more)))

pub bits_feed_fails : {T : Type 0} (r : Fed) (k o new : Collected) (piece : List ℕ) (f : BitsFault) (result : Result T TextFault) → r.part ≡ OfJcf k → IsPartFor r.form r.part → o ≡ k
    → result ≡ Err (over_bits f) → ((bytes : List ℕ) → StandsForBits o bytes → StandsForBits new (bytes ++ piece))
    → ((bytes : List ℕ) → StandsForBits new bytes → IsBitsFaultOfAll o.form bytes f)
    → IfErr result (λ fault. (bytes : List ℕ) → StandsForText r bytes → IsFaultOfAllIn r.form (bytes ++ piece) fault)
bits_feed_fails r k o new piece f result is for_form same given more fails =
    let of_form : IsPartFor r.form (OfJcf k) = subst (IsPartFor r.form) is for_form in
    subst (λ x. IfErr x (λ fault. (bytes : List ℕ) → StandsForText r bytes → IsFaultOfAllIn r.form (bytes ++ piece) fault)) (sym given)
    (λ bytes stands.
    bits_fault_of_all r.form k (bytes ++ piece) f of_form
    (subst (λ (p : Collected). IsBitsFaultOfAll p.form (bytes ++ piece) f) same
    (fails (bytes ++ piece) (more bytes (subst (λ (p : Collected). StandsForBits p bytes) (sym same) (subst (λ (p : Part). StandsForPart p bytes) is stands))))))
