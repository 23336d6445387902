use Rattle.std.proofs.Common.{length, arith, ap}
use Rattle.m4_text.proofs.Readers.{reads_short}
use Rattle.m4_text.proofs.reader.Reader.collect.Goals as goal

pub unreachable-requires : goal.unreachable-requires
unreachable-requires c =
    let short = reads_short c.self.inside.form c.deref.result.now c.in-Ok.field-0 c.in-Ok.ensures.ok in
    omega (arith, short, ap length c.deref.ensures.value, c.len.ensures)
