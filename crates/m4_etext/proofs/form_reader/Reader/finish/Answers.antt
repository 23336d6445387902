use Rattle.std.proofs.Common.{◌≡◌, sym, ◌∙◌, ap, subst, Some, IfErr, List, ℕ}
use Rattle.m4_etext.specs.FormFaults.{IsFaultIn}
use Rattle.m4_etext.specs.FormReading.{Fed, StandsForText, told_by}
use Rattle.m4_etext.specs.declared.form_reader.Part.TheVariants.{OfHeaded, OfBare, OfJcf}
use Rattle.m4_etext.proofs.FormReaders.{headed_finish_fails, bare_finish_fails, read_untold}
use Rattle.m4_etext.proofs.form_reader.Reader.finish.Goals as goal

pub returns-in-OfHeaded-clause-err : goal.returns-in-OfHeaded-clause-err
returns-in-OfHeaded-clause-err c =
    subst (λ (r : Fed). IfErr c.finish.result (λ fault. (bytes : List ℕ) → StandsForText r bytes → IsFaultIn r.form bytes fault)) c.self.view_is
    (headed_finish_fails (record { form = c.self.inside.form; part = c.self.inside.part }) _ c.finish.result (c.in-OfHeaded.is ∙ ap OfHeaded (sym c.in-OfHeaded.reader-is))
    c.self.invariant c.finish.ensures.err)

pub returns-in-Ok-clause-told : goal.returns-in-Ok-clause-told
returns-in-Ok-clause-told c = λ fault told.
    absurd (read_untold (record { form = c.self.inside.form; part = c.self.inside.part }) _ c.finish-in-OfJcf.result c.in-Ok.m fault (c.in-OfJcf.is ∙ ap OfJcf (sym c.in-OfJcf.reader-is)) c.in-Ok.is
    c.finish-in-OfJcf.ensures.told (subst (λ (r : Fed). told_by r.part ≡ Some fault) (sym c.self.view_is) told))

pub returns-in-OfBare-clause-err : goal.returns-in-OfBare-clause-err
returns-in-OfBare-clause-err c =
    subst (λ (r : Fed). IfErr c.finish-in-OfBare.result (λ fault. (bytes : List ℕ) → StandsForText r bytes → IsFaultIn r.form bytes fault)) c.self.view_is
    (bare_finish_fails (record { form = c.self.inside.form; part = c.self.inside.part }) _ c.finish-in-OfBare.result (c.in-OfBare.is ∙ ap OfBare (sym c.in-OfBare.reader-is))
    c.self.invariant c.finish-in-OfBare.ensures.err)
