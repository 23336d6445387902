-- A reader of bare text that is fed in pieces.
use Rattle.std.proofs.Common.{◌≡◌, ℕ, ◌+◌, ◌*◌, Option, Some, None, MatchOption, List, [], ◌++◌, take, refl, sym, ◌∙◌, subst, subst₂, arith, inl, inr, append_assoc, append-nil, length-append, take_all, Result, IfOk, IfErr}
use Rattle.std.proofs.lemmas.List.{take_at}
use Rattle.std.proofs.lemmas.Result.{MatchResult-weaker}
use Rattle.std.proofs.lemmas.Bool.{cases_lt}
use Rattle.m4_model.specs.Field.{gf2}
use Rattle.m4_model.specs.Matrix.{Matrix, zero_matrix}
use Rattle.m4_model.specs.Shapes.{cut}
use Rattle.m4_model.specs.Bare.{ReadsBare, IsBadBare, IsBareInLimits}
use Rattle.m4_model.specs.declared.form.Form.TheVariants.{Bare}
use Rattle.m4_text.proofs.Bares.{length-bare-le, no_lines}
use Rattle.m4_etext.specs.BareRows.{KeptRows, StandsForFirst, StandsForRows}
use Rattle.m4_etext.specs.BareReading.{StandsForBare, IsOpen, told_in}
use Rattle.m4_etext.specs.FormFaults.{IsFaultIn, IsFaultOfAllIn}
use Rattle.m4_etext.specs.declared.fault.TextFault.{TextFault}
use Rattle.m4_etext.specs.declared.bare.BareState.{BareState}
use Rattle.m4_etext.specs.declared.bare.BareState.TheVariants.{AtStart, AtFirst, AtRows, Refused}
use Rattle.m4_etext.proofs.BareMoves.{bad_first, short_row, rows_read, rows_long, first_long}
use Rattle.m4_etext.proofs.EachForm.{never_both}

-- every file that begins with more bytes
pub bare_all_more : (bytes piece : List ℕ) (fault : TextFault) → IsFaultOfAllIn Bare bytes fault → IsFaultOfAllIn Bare (bytes ++ piece) fault
bare_all_more bytes piece fault all more = subst (λ l. IsFaultIn Bare l fault) (sym (append_assoc bytes piece more)) (all (piece ++ more))

pub bare_all_itself : (bytes : List ℕ) (fault : TextFault) → IsFaultOfAllIn Bare bytes fault → IsFaultIn Bare bytes fault
bare_all_itself bytes fault all = subst (λ l. IsFaultIn Bare l fault) (append-nil bytes) (all [])

-- Some file that begins with the bytes is read.
abbrev BeginsRead : List ℕ → Type 0
BeginsRead bytes = (more : List ℕ) × (M : Matrix) × ReadsBare (bytes ++ more) M

begins_front : (bytes front : List ℕ) → front ≡ bytes → (more : List ℕ) × IsBareInLimits (front ++ more) → BeginsRead bytes
begins_front bytes front same (more, whole) = (more, whole.0, subst (λ l. ReadsBare (l ++ more) whole.0) same whole.1)

bare_begins : (s : BareState) (bytes : List ℕ) → told_in s ≡ None → StandsForBare s bytes → BeginsRead bytes
bare_begins AtStart bytes untold stands =
    ([], zero_matrix gf2 0 0, subst (λ l. ReadsBare l (zero_matrix gf2 0 0)) (sym (append-nil bytes ∙ stands)) (no_lines (zero_matrix gf2 0 0) refl))
bare_begins (AtFirst k) bytes untold stands =
    let first = stands.0 in
    let some = stands.1 in
    let long = first_long k.matrix k.place_next bytes first.read in
    let bad = bad_first k.matrix k.place_next bytes [] first.room first.read first.few (omega (arith, some, length-append bytes []))
    (λ some. absurd (omega arith)) (λ some. absurd (omega arith)) in
    begins_front bytes (take k.place_next (bytes ++ [])) (take_at bytes [] k.place_next long) bad.longest.begins
bare_begins (AtRows k) bytes untold stands =
    elim (cases_lt 0 k.place_next) [
      | inl some ↦
          let bad = short_row k bytes stands (k.row_next * (k.matrix.cols + 1) + k.place_next) some refl in
          let long = rows_long k bytes stands in
          begins_front bytes (take (k.row_next * (k.matrix.cols + 1) + k.place_next) bytes) (take_all _ bytes (omega (arith, long))) bad.longest.begins
      | inr none ↦
          let C = cut k.matrix 0 0 k.row_next k.matrix.cols in
          ([], C, subst (λ l. ReadsBare l C) (sym (append-nil bytes)) (rows_read k bytes stands C (omega arith) refl))
    ]
bare_begins (Refused fault) bytes untold stands = absurd (cc (untold))

-- the text may go on
pub bare_open : (s : BareState) (bytes : List ℕ) → told_in s ≡ None → StandsForBare s bytes → IsOpen bytes
bare_open s bytes untold stands =
    let (more, M, reads) = bare_begins s bytes untold stands in
    let few = length-bare-le (bytes ++ more) (M, reads) in
    record {
      short = omega (arith, few, length-append bytes more);
      goes_on = λ fault all. never_both Bare (bytes ++ more) M fault reads (all more);
    }

-- what is kept, told otherwise
pub bare_at : (s t : BareState) (bytes : List ℕ) → s ≡ t → StandsForBare s bytes → StandsForBare t bytes
bare_at s t bytes same stands = subst (λ (x : BareState). StandsForBare x bytes) same stands

pub bare_told_more : (s : BareState) (bytes piece : List ℕ) (fault : TextFault) → s ≡ Refused fault → StandsForBare s bytes → IsFaultOfAllIn Bare (bytes ++ piece) fault
bare_told_more s bytes piece fault is stands = bare_all_more bytes piece fault (bare_at s (Refused fault) bytes is stands)

pub bare_told_itself : (s : BareState) (bytes : List ℕ) (fault : TextFault) → s ≡ Refused fault → StandsForBare s bytes → IsFaultIn Bare bytes fault
bare_told_itself s bytes fault is stands = bare_all_itself bytes fault (bare_at s (Refused fault) bytes is stands)

-- a first line that isn't whole
pub short_first : (s : BareState) (k : KeptRows) (bytes : List ℕ) (place : ℕ) → s ≡ AtFirst k → place ≡ k.place_next → StandsForBare s bytes → IsBadBare bytes place
short_first s k bytes place is here stands =
    let (first, some) = bare_at s (AtFirst k) bytes is stands in
    subst₂ IsBadBare (append-nil bytes) (sym here)
    (bad_first k.matrix k.place_next bytes [] first.room first.read first.few (omega (arith, some, length-append bytes []))
    (λ some. absurd (omega arith)) (λ some. absurd (omega arith)))

-- no bytes
pub start_read : (s : BareState) (bytes : List ℕ) (M : Matrix) → s ≡ AtStart → M ≡ zero_matrix gf2 0 0 → StandsForBare s bytes → ReadsBare bytes M
start_read s bytes M is zeros stands = subst (λ l. ReadsBare l M) (sym (bare_at s AtStart bytes is stands)) (no_lines M zeros)

pub start_more : (s t : BareState) (bytes piece : List ℕ) → s ≡ AtStart → StandsForBare t piece → StandsForBare s bytes → StandsForBare t (bytes ++ piece)
start_more s t bytes piece is now stands = subst (λ l. StandsForBare t (l ++ piece)) (sym (bare_at s AtStart bytes is stands)) now

pub start_fails : (s : BareState) (bytes piece : List ℕ) (fault : TextFault) → s ≡ AtStart → IsFaultOfAllIn Bare piece fault → StandsForBare s bytes → IsFaultOfAllIn Bare (bytes ++ piece) fault
start_fails s bytes piece fault is now stands = subst (λ l. IsFaultOfAllIn Bare (l ++ piece) fault) (sym (bare_at s AtStart bytes is stands)) now

-- rows that are finished
pub rows_finish_reads : (s : BareState) (k : KeptRows) (result : Result Matrix TextFault) → s ≡ AtRows k
    → IfOk result (λ M. (bytes : List ℕ) → StandsForRows k bytes → ReadsBare bytes M) → IfOk result (λ M. (bytes : List ℕ) → StandsForBare s bytes → ReadsBare bytes M)
rows_finish_reads s k result is reads =
    MatchResult-weaker result reads (λ M read bytes stands. read bytes (bare_at s (AtRows k) bytes is stands)) (λ _ _. tt)

pub rows_finish_fails : (s : BareState) (k : KeptRows) (result : Result Matrix TextFault) → s ≡ AtRows k
    → IfErr result (λ fault. (bytes : List ℕ) → StandsForRows k bytes → IsFaultIn Bare bytes fault) → IfErr result (λ fault. (bytes : List ℕ) → StandsForBare s bytes → IsFaultIn Bare bytes fault)
rows_finish_fails s k result is fails =
    MatchResult-weaker result fails (λ _ _. tt) (λ fault refused bytes stands. refused bytes (bare_at s (AtRows k) bytes is stands))

-- what the first bytes make of a text
pub begun_none : (ended : Option KeptRows) (old new : KeptRows) (piece : List ℕ) → ended ≡ None
    → MatchOption ended ((bytes : List ℕ) → StandsForFirst old bytes → StandsForFirst new (bytes ++ piece)) (λ rows. (bytes : List ℕ) → StandsForFirst old bytes → StandsForRows rows (bytes ++ piece))
    → StandsForFirst old [] → StandsForFirst new piece
begun_none None old new piece is more start = more [] start
begun_none (Some rows) old new piece is more start = absurd (cc (is))

pub begun_some : (ended : Option KeptRows) (old new rows : KeptRows) (piece : List ℕ) → ended ≡ Some rows
    → MatchOption ended ((bytes : List ℕ) → StandsForFirst old bytes → StandsForFirst new (bytes ++ piece)) (λ rows. (bytes : List ℕ) → StandsForFirst old bytes → StandsForRows rows (bytes ++ piece))
    → StandsForFirst old [] → StandsForRows rows piece
begun_some None old new rows piece is more start = absurd (cc (is))
begun_some (Some other) old new rows piece is more start = let same : other ≡ rows = cc in subst (λ (k : KeptRows). StandsForRows k piece) same (more [] start)
