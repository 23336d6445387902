use Rattle.m4_words.specs.Job.{job_told}
use Rattle.m4_cmd.specs.Answer.{answer_told}
use Rattle.m4_cmd.proofs.StepLemmas.{ends_by_output}
use Rattle.m4_cmd.proofs.program.perform.Goals as goal

pub returns-clause-gives : goal.returns-clause-gives
returns-clause-gives g c =
    let read = rw (c.form_of_files-form.ensures, c.as_slice.ensures.value) at c.in-Ok.ensures.read in
    let answers = rw c.deref_mut.ensures.value at c.in-Ok-answer_of.ensures.good in
    let fails = rw c.form_of_answer.ensures at c.in-Err-write_answer.ensures.fails in
    rw c.status-in-Err-write_answer.ensures
    (ends_by_output (g.S.Shelf.stock c.args.shelf.now) (job_told c.args.job.now) _ (answer_told c.in-Ok-answer_of.answer) c.in-Err-write_answer.fault c.in-Ok.ensures.kept
    (record { matrices = c.in-Ok.operands.items; read = read; answers = answers }) fails)
