use Rattle.m4_field.specs.Fields.{the_field}
use Rattle.m4_etext.proofs.BareMoves.{first_none}
use Rattle.m4_etext.proofs.first_line.FirstLine.new.Goals as goal

pub returns : goal.returns
returns c = first_none c.in_ok-zeros.field-0 (the_field c.gf2.result) c.gf2.ensures c.in_ok-zeros.ensures
