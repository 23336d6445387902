use Rattle.m4_etext.proofs.FourLemmas.{quads_at}
use Rattle.m4_etext.proofs.turned.with_quads_turned.Goals as goal

pub returns : goal.returns
returns c = quads_at c.args.word c.ranges.word.fits
