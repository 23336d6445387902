use Rattle.std.proofs.Common.{refl, sym, ◌∙◌, ap, subst}
use Rattle.std.proofs.lemmas.Result.{err_from_is_err_and}
use Rattle.m4_words.proofs.WordsLemmas.{job-none, job-unnamed, job-told}
use Rattle.m4_outcome.specs.Words.{with_numbers}
use Rattle.m4_outcome.specs.Seeds.{HasField}
use Rattle.m4_outcome.proofs.JobLemmas.{filled}
use Rattle.m4_words.specs.Told.{understood}
use Rattle.m4_words.proofs.words.job_of.Goals as goal

pub returns-in_default-clause-refused : goal.returns-in_default-clause-refused
returns-in_default-clause-refused c = job-none c.args.words.now c.in_default.len_below

pub returns-in_default-command_named-clause-refused : goal.returns-in_default-command_named-clause-refused
returns-in_default-command_named-clause-refused c =
    job-unnamed c.args.words.now c.first-item.result c.as_str.result.now c.in-len1-up.len_at_least (sym c.first-item.is) c.as_str.ensures.value (sym c.in_default-command_named.ensures)

pub returns-in_err-told-clause-refused : goal.returns-in_err-told-clause-refused
returns-in_err-told-clause-refused c =
    let p = err_from_is_err_and c.from_residual.result c.from_residual.ensures.1 in
    rw (p.1, p.2)
    (job-told c.args.words.now c.first-item.result c.as_str.result.now c.in-Some.command _ c.in-len1-up.len_at_least (sym c.first-item.is) c.as_str.ensures.value
    (sym c.in-Some.ensures) c.in_err-told.ensures.refused)

pub returns-clause-asked : goal.returns-clause-asked
returns-clause-asked c =
    job-told c.args.words.now c.first-item.result c.as_str.result.now c.in-Some.command _ c.in-len1-up.len_at_least (sym c.first-item.is) c.as_str.ensures.value
    (sym c.in-Some.ensures) c.in_ok-told.ensures.told
    ∙ (rw (c.with_numbers.ensures, c.as_slice.ensures.value) refl)

pub returns-clause-field : goal.returns-clause-field
returns-clause-field c =
    let command = c.in-Some.command in
    let told = c.in_ok-told.told in
    let numbers = c.with_numbers.ensures ∙ ap (λ ns. with_numbers command ns told.seed) c.as_slice.ensures.value in
    subst HasField (sym numbers) (filled command _ (understood told) c.in_ok-told.ensures.told)
