use Rattle.std.proofs.Common.{◌∙◌, List, ℕ, subst}
use Rattle.std.proofs.lemmas.Result.{err_from_is_err_and}
use Rattle.std.specs.Io.KnownBytes.{Appends}
use Rattle.m4_cmd.proofs.output.write_answer.Goals as goal

pub returns-in_err-write_ple-in-Ple-clause-fails : goal.returns-in_err-write_ple-in-Ple-clause-fails
returns-in_err-write_ple-in-Ple-clause-fails g c =
    let p = err_from_is_err_and c.from_residual-in_err-write_ple-in-Ple.result c.from_residual-in_err-write_ple-in-Ple.ensures.1 in
    rw (p.1, p.2, c.in-Ple.is) (record { held = tt; faults = c.in_err-write_ple-in-Ple.ensures.cause; taken = c.in_err-write_ple-in-Ple.ensures.taken })

pub returns-in_err-write_pluq-in-Pluq-clause-fails : goal.returns-in_err-write_pluq-in-Pluq-clause-fails
returns-in_err-write_pluq-in-Pluq-clause-fails g c =
    let p = err_from_is_err_and c.from_residual-in_err-write_pluq-in-Pluq.result c.from_residual-in_err-write_pluq-in-Pluq.ensures.1 in
    rw (p.1, p.2, c.in-Pluq.is) (record { held = tt; faults = c.in_err-write_pluq-in-Pluq.ensures.cause; taken = c.in_err-write_pluq-in-Pluq.ensures.taken })

pub returns-in_ok-write_whole-in-NoSolution-clause-wrote : goal.returns-in_ok-write_whole-in-NoSolution-clause-wrote
returns-in_ok-write_whole-in-NoSolution-clause-wrote g c =
    let P : List ℕ → Type 0 = Appends (g.O.Sink.taken c.args.out.now) (g.O.Sink.taken c.write_whole-in-NoSolution.new.sink) in
    let line = c.as_bytes-in-NoSolution.ensures.value ∙ c.deref-in-NoSolution.ensures.0 ∙ c.plain_line-in-NoSolution.ensures in
    rw c.in-NoSolution.is (record { held = tt; faults = c.in_ok-write_whole-in-NoSolution.ensures.kept; taken = subst P line c.in_ok-write_whole-in-NoSolution.ensures.taken })
