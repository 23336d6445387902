-- A passed limit is told as such, in each form.
use Rattle.std.proofs.Common.{IfErr, sym, subst}
use Rattle.m4_model.specs.Text.{PastLimit}
use Rattle.m4_model.specs.Texts.{RefusalAs}
use Rattle.m4_model.specs.declared.form.Form.TheVariants.{Headed, Bare, Jcf, Hex}
use Rattle.m4_text.specs.Refused.{IsRefusedIn}
use Rattle.m4_text.proofs.Readers.{limit_refused, hex_result}
use Rattle.m4_text.proofs.form.read_as.Goals as goal

pub returns-in-Headed-clause-limit : goal.returns-in-Headed-clause-limit
returns-in-Headed-clause-limit c = λ passed.
    limit_refused Headed c.args.bytes.now c.read_text.result c.read_text.ensures.ok c.read_text.ensures.err
    (subst (λ f. RefusalAs f c.args.bytes.now PastLimit) c.in-Headed.is passed)

pub returns-in-Bare-clause-limit : goal.returns-in-Bare-clause-limit
returns-in-Bare-clause-limit c = λ passed.
    limit_refused Bare c.args.bytes.now c.read_bare.result c.read_bare.ensures.ok c.read_bare.ensures.err
    (subst (λ f. RefusalAs f c.args.bytes.now PastLimit) c.in-Bare.is passed)

pub returns-in-Jcf-clause-limit : goal.returns-in-Jcf-clause-limit
returns-in-Jcf-clause-limit c = λ passed.
    limit_refused Jcf c.args.bytes.now c.read_jcf.result c.read_jcf.ensures.ok c.read_jcf.ensures.err
    (subst (λ f. RefusalAs f c.args.bytes.now PastLimit) c.in-Jcf.is passed)

pub returns-in-Hex-clause-err : goal.returns-in-Hex-clause-err
returns-in-Hex-clause-err c =
    subst (λ f. IfErr c.read_text-in-Hex.result (IsRefusedIn f c.args.bytes.now)) (sym c.in-Hex.is)
    (hex_result c.args.bytes.now c.read_text-in-Hex.result c.read_text-in-Hex.ensures.err)

pub returns-in-Hex-clause-limit : goal.returns-in-Hex-clause-limit
returns-in-Hex-clause-limit c = λ passed.
    limit_refused Headed c.args.bytes.now c.read_text-in-Hex.result c.read_text-in-Hex.ensures.ok c.read_text-in-Hex.ensures.err
    (subst (λ f. RefusalAs f c.args.bytes.now PastLimit) c.in-Hex.is passed)
