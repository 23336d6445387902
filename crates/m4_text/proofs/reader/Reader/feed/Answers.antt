use Rattle.std.proofs.Common.{◌≡◌, ◌++◌, ap, sym, subst, ◌∙◌, None}
use Rattle.m4_text.specs.Reader.{Collected, IsFaultOf}
use Rattle.m4_text.proofs.Readers.{untold, stands_more}
use Rattle.m4_text.proofs.reader.Reader.feed.Goals as goal

pub returns-in-Some-clause-stands : goal.returns-in-Some-clause-stands
returns-in-Some-clause-stands c = λ bytes stands.
    stands_more c.args.self.now bytes c.args.piece.now c.in-Some.fault (ap (λ (r : Collected). r.fault) (sym c.self.view_is) ∙ c.in-Some.is) stands

pub returns-in-Err-clause-stands : goal.returns-in-Err-clause-stands
returns-in-Err-clause-stands c = λ bytes stands more.
    let old = c.args.self.now in
    let none : old.fault ≡ None = ap (λ (r : Collected). r.fault) (sym c.self.view_is) ∙ c.in_default.is in
    let form : c.self-2.inside.form ≡ old.form = ap (λ (r : Collected). r.form) c.self-2.view_is ∙ c.collect.ensures.same in
    let fed = untold old bytes none stands in
    subst (λ f. IsFaultOf f ((bytes ++ c.args.piece.now) ++ more) c.in-Err.fault) (sym form)
    (subst (λ w. IsFaultOf old.form ((w ++ c.args.piece.now) ++ more) c.in-Err.fault) fed (c.in-Err.ensures.err more))

pub returns-in-Err-clause-err : goal.returns-in-Err-clause-err
returns-in-Err-clause-err c = λ bytes all more.
    let form : c.self-2.inside.form ≡ c.args.self.now.form = ap (λ (r : Collected). r.form) c.self-2.view_is ∙ c.collect.ensures.same in
    subst (λ f. IsFaultOf f (bytes ++ more) c.in-Err.fault) form (all more)
