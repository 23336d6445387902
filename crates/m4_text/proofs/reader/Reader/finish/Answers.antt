use Rattle.std.proofs.Common.{◌≡◌, ap, sym, subst₂, ◌∙◌, None, Err}
use Rattle.std.proofs.lemmas.Result.{MatchResult-weaker}
use Rattle.m4_text.specs.Refused.{IsRefusedIn}
use Rattle.m4_text.specs.Reader.{Collected}
use Rattle.m4_text.proofs.Readers.{told, untold, all_itself, refused_itself, limit_told}
use Rattle.m4_text.proofs.reader.Reader.finish.Goals as goal

pub returns-in-Some-clause-err : goal.returns-in-Some-clause-err
returns-in-Some-clause-err c = λ bytes stands.
    all_itself c.args.self.form bytes c.in-Some.fault
    (told c.args.self bytes c.in-Some.fault (ap (λ (r : Collected). r.fault) (sym c.self.view_is) ∙ c.in-Some.is) stands)

pub returns-clause-err : goal.returns-clause-err
returns-clause-err c =
    let self = c.args.self in
    let none : self.fault ≡ None = ap (λ (r : Collected). r.fault) (sym c.self.view_is) ∙ c.in-None.is in
    let form : c.self.inside.form ≡ self.form = ap (λ (r : Collected). r.form) c.self.view_is in
    let kept : c.deref.result.now ≡ self.bytes = c.deref.ensures.value ∙ ap (λ (r : Collected). r.bytes) c.self.view_is in
    MatchResult-weaker c.read_as.result c.read_as.ensures.err (λ _ _. tt) (λ fault refused bytes stands.
    refused_itself self.form bytes fault
    (subst₂ (λ f w. IsRefusedIn f w fault) form (kept ∙ untold self bytes none stands) refused))

pub returns-in-Some-clause-limit : goal.returns-in-Some-clause-limit
returns-in-Some-clause-limit c = λ bytes stands.
    limit_told c.args.self.form bytes (Err c.in-Some.fault) tt (returns-in-Some-clause-err c bytes stands)
