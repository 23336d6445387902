-- The jobs of the code, as the definitions see them.
use Rattle.std.specs.Prelude.{map}
use Rattle.m4_outcome.specs.Words.{Job as Asked}
use Rattle.m4_words.specs.declared.job.Job.{Job}

-- The job, with the names of its files by their bytes.
abbrev pub job_told : Job → Asked
job_told asked = record { command = asked.command; files = map (λ name. name.now) asked.files.items; choices = asked.choices }
