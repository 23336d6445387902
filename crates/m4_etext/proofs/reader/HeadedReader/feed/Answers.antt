use Rattle.std.proofs.Common.{◌≡◌, ℕ, ◌<◌, ◌≤◌, List, ◌++◌, length, take, sym, ◌∙◌, ap, subst}
use Rattle.std.proofs.lemmas.List.{take_rest}
use Rattle.m4_model.specs.Headed.{IsHeader}
use Rattle.m4_etext.specs.Place.{GoesWrong, IsHeaderOf}
use Rattle.m4_etext.specs.Pieces.{StandsForLines}
use Rattle.m4_etext.specs.Standing.{IsFaultOf}
use Rattle.m4_etext.specs.Parsed.{spelling_of}
use Rattle.m4_etext.specs.Reading.{StandsFor}
use Rattle.m4_etext.specs.declared.reader.State.{State}
use Rattle.m4_etext.proofs.Readers.{told_more, head_wrong, header_len, split_fed}
use Rattle.m4_etext.specs.declared.reader.State.TheVariants.{AtHead, AtLines}
use Rattle.m4_etext.proofs.GoingOn.{goes_on}
use Rattle.m4_etext.proofs.reader.HeadedReader.feed.Goals as goal

pub begin-requires : goal.begin-requires
begin-requires c = header_len _ _ _ _ _ c.in-Whole.ensures.1 c.in-Whole.ensures.2

pub returns-in-Told-clause-stands : goal.returns-in-Told-clause-stands
returns-in-Told-clause-stands c = λ bytes stands.
    told_more c.args.self.now bytes c.args.piece.now c.in-Told.fault (sym c.self.view_is ∙ c.in-Told.is) stands

pub returns-in-Told-clause-err : goal.returns-in-Told-clause-err
returns-in-Told-clause-err c = λ bytes stands.
    told_more c.args.self.now bytes c.args.piece.now c.in-Told.fault (sym c.self.view_is ∙ c.in-Told.is) stands

pub returns-in-Wrong-clause-stands : goal.returns-in-Wrong-clause-stands
returns-in-Wrong-clause-stands c = λ bytes stands.
    let piece = c.args.piece.now in
    let at = c.in-Wrong.at in
    let wrong = subst (λ (o : List ℕ). (at < length (o ++ piece)) × GoesWrong IsHeader (o ++ piece) at) c.in-AtHead.head-is c.in-Wrong.ensures in
    head_wrong c.args.self.now c.in-AtHead.head bytes piece at (sym c.self.view_is ∙ c.in-AtHead.is) stands wrong.0 wrong.1

pub returns-in-Wrong-clause-err : goal.returns-in-Wrong-clause-err
returns-in-Wrong-clause-err c = λ bytes stands.
    let piece = c.args.piece.now in
    let at = c.in-Wrong.at in
    let wrong = subst (λ (o : List ℕ). (at < length (o ++ piece)) × GoesWrong IsHeader (o ++ piece) at) c.in-AtHead.head-is c.in-Wrong.ensures in
    head_wrong c.args.self.now c.in-AtHead.head bytes piece at (sym c.self.view_is ∙ c.in-AtHead.is) stands wrong.0 wrong.1

pub returns-in-Ok-begin-clause-stands : goal.returns-in-Ok-begin-clause-stands
returns-in-Ok-begin-clause-stands c = λ bytes stands.
    let piece = c.args.piece.now in
    let end = c.in-Whole.end in
    let h = c.in-Whole.header in
    let seen = c.in-AtHead.head in
    let same : seen ≡ bytes = (subst (λ (x : State). StandsFor x bytes) (sym c.self.view_is ∙ c.in-AtHead.is) stands).0 in
    let whole = subst (λ (o : List ℕ). (end ≤ length piece) × IsHeaderOf (o ++ take end piece) (spelling_of h.opening) h.rows h.cols h.len × (h.len ≡ length (o ++ take end piece)))
    c.in-AtHead.head-is c.in-Whole.ensures in
    subst (λ (l : List ℕ). StandsForLines c.in-Ok-begin.lines l)
    (ap (λ l. (seen ++ take end piece) ++ l) (take_rest piece end) ∙ split_fed seen bytes piece end same)
    (c.in-Ok-begin.ensures.ok (seen ++ take end piece) whole.1 whole.2)

pub returns-in-Err-begin-clause-stands : goal.returns-in-Err-begin-clause-stands
returns-in-Err-begin-clause-stands c = λ bytes stands more.
    let piece = c.args.piece.now in
    let end = c.in-Whole.end in
    let h = c.in-Whole.header in
    let seen = c.in-AtHead.head in
    let same : seen ≡ bytes = (subst (λ (x : State). StandsFor x bytes) (sym c.self.view_is ∙ c.in-AtHead.is) stands).0 in
    let whole = subst (λ (o : List ℕ). (end ≤ length piece) × IsHeaderOf (o ++ take end piece) (spelling_of h.opening) h.rows h.cols h.len × (h.len ≡ length (o ++ take end piece)))
    c.in-AtHead.head-is c.in-Whole.ensures in
    subst (λ (l : List ℕ). IsFaultOf (l ++ more) c.in-Err-begin.fault)
    (ap (λ l. (seen ++ take end piece) ++ l) (take_rest piece end) ∙ split_fed seen bytes piece end same)
    (c.in-Err-begin.ensures.err (seen ++ take end piece) whole.1 whole.2 more)

pub returns-in-Err-begin-clause-err : goal.returns-in-Err-begin-clause-err
returns-in-Err-begin-clause-err c = λ bytes stands more.
    let piece = c.args.piece.now in
    let end = c.in-Whole.end in
    let h = c.in-Whole.header in
    let seen = c.in-AtHead.head in
    let same : seen ≡ bytes = (subst (λ (x : State). StandsFor x bytes) (sym c.self.view_is ∙ c.in-AtHead.is) stands).0 in
    let whole = subst (λ (o : List ℕ). (end ≤ length piece) × IsHeaderOf (o ++ take end piece) (spelling_of h.opening) h.rows h.cols h.len × (h.len ≡ length (o ++ take end piece)))
    c.in-AtHead.head-is c.in-Whole.ensures in
    subst (λ (l : List ℕ). IsFaultOf (l ++ more) c.in-Err-begin.fault)
    (ap (λ l. (seen ++ take end piece) ++ l) (take_rest piece end) ∙ split_fed seen bytes piece end same)
    (c.in-Err-begin.ensures.err (seen ++ take end piece) whole.1 whole.2 more)

pub returns-in-Ok-clause-ok : goal.returns-in-Ok-clause-ok
returns-in-Ok-clause-ok c = λ bytes stands. goes_on (AtLines c.feed.new.self) bytes tt stands

pub returns-in-Short-clause-ok : goal.returns-in-Short-clause-ok
returns-in-Short-clause-ok c = λ bytes stands. goes_on (AtHead c.feed-in-AtHead.new.self) bytes tt stands

pub returns-in-Ok-begin-clause-ok : goal.returns-in-Ok-begin-clause-ok
returns-in-Ok-begin-clause-ok c = λ bytes stands. goes_on (AtLines c.in-Ok-begin.lines) bytes tt stands
