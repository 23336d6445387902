use Rattle.m4_cmd.proofs.RunLemmas.{words_only, words_always, read_always, read_only, write_always, write_only, write_front, outcome, nothing, memory_only, keeps, quiet_line, quiet_count}
use Rattle.m4_cmd.proofs.program.run.Goals as goal

pub returns-clause-words : goal.returns-clause-words
returns-clause-words g c = λ word. (words_only _ _ _ c.work-status.result word c.work-status.ensures.gives, words_always _ _ _ c.work-status.result word c.work-status.ensures.gives)

pub returns-clause-read_told : goal.returns-clause-read_told
returns-clause-read_told g c = read_always _ _ _ c.work-status.result c.work-status.ensures.gives

pub returns-clause-read : goal.returns-clause-read
returns-clause-read g c = read_only _ _ _ c.work-status.result c.work-status.ensures.gives

pub returns-clause-write_told : goal.returns-clause-write_told
returns-clause-write_told g c = write_always _ _ _ c.work-status.result c.work-status.ensures.gives

pub returns-clause-write : goal.returns-clause-write
returns-clause-write g c = write_only _ _ _ c.work-status.result c.work-status.ensures.gives

pub returns-clause-write_front : goal.returns-clause-write_front
returns-clause-write_front g c = λ files. write_front _ _ _ c.work-status.result files c.work-status.ensures.gives

pub returns-clause-outcome : goal.returns-clause-outcome
returns-clause-outcome g c = λ files. outcome _ _ _ c.work-status.result files c.work-status.ensures.gives

pub returns-clause-nothing : goal.returns-clause-nothing
returns-clause-nothing g c = λ refused. keeps _ _ (nothing _ _ _ c.work-status.result c.work-status.ensures.gives refused).taken

pub returns-clause-memory : goal.returns-clause-memory
returns-clause-memory g c = λ is. (memory_only _ _ _ c.work-status.result c.work-status.ensures.gives is).0

pub returns-clause-err_quiet : goal.returns-clause-err_quiet
returns-clause-err_quiet g c = quiet_line _ _ _ _ c.work-status.result c.report.ensures

pub returns-clause-err_count : goal.returns-clause-err_count
returns-clause-err_count g c = quiet_count _ _ _ _ c.work-status.result c.report.ensures
