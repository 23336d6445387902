use Rattle.std.proofs.Common.{ap, ap₂, ◌∙◌, arith, drop, take_all, bytes_eq, length-drop}
use Rattle.m4_model.specs.Headed.{hexadecimal}
use Rattle.m4_words.proofs.FieldLemmas.{same_bytes}
use Rattle.m4_words.proofs.field.is_hexadecimal.Goals as goal

pub returns : goal.returns
returns c =
    let spelled = c.hex_number-spelled.result in
    let bytes = drop spelled.start spelled.bytes in
    let long = length-drop spelled.start spelled.bytes in
    same_bytes c.eq.result c.args.word.now (hexadecimal c.args.number)
    (c.eq.ensures ∙ ap₂ bytes_eq c.as_bytes.ensures.value (take_all _ bytes (omega (arith, long)) ∙ c.hex_number-spelled.ensures.spelled))
