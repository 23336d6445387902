use Rattle.std.proofs.Common.{drop, subst, arith}
use Rattle.std.proofs.lemmas.List.{take_rest}
use Rattle.m4_text.specs.Place.{GoesWrong, IsBareOf}
use Rattle.m4_text.specs.Reading.{ReadsLines}
use Rattle.m4_text.proofs.Rows.{text_wrong, text_end, text_longer}
use Rattle.m4_text.proofs.body.read_rows.Goals as goal

pub returns-then-start-end-clause-err : goal.returns-then-start-end-clause-err
returns-then-start-end-clause-err c =
    let bytes = c.args.bytes.now in
    let old = c.args.m.now in
    let read : ReadsLines (drop c.args.start bytes) old c.read_lines.new.m c.in-Ok.end =
    subst (λ w. ReadsLines w old c.read_lines.new.m c.in-Ok.end) (take_rest bytes c.args.start) c.in-Ok.ensures.ok in
    text_longer bytes c.args.start old c.requires.head c.requires.within c.read_lines.new.m c.in-Ok.end read (omega arith)

pub returns-else-start-end-clause-ok : goal.returns-else-start-end-clause-ok
returns-else-start-end-clause-ok c =
    let bytes = c.args.bytes.now in
    let old = c.args.m.now in
    let read : ReadsLines (drop c.args.start bytes) old c.read_lines.new.m c.in-Ok.end =
    subst (λ w. ReadsLines w old c.read_lines.new.m c.in-Ok.end) (take_rest bytes c.args.start) c.in-Ok.ensures.ok in
    text_end bytes c.args.start old c.requires.head c.requires.within c.read_lines.new.m c.in-Ok.end read (omega arith)

pub returns-in-Err-clause-err : goal.returns-in-Err-clause-err
returns-in-Err-clause-err c =
    let bytes = c.args.bytes.now in
    let old = c.args.m.now in
    text_wrong bytes c.args.start old c.requires.head c.requires.within c.in-Err.wrong
    (subst (λ w. GoesWrong (IsBareOf old.rows old.cols) w c.in-Err.wrong) (take_rest bytes c.args.start) c.in-Err.ensures.err)
