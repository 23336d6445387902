use Rattle.m4_etext.proofs.FourLemmas.{pairs_at}
use Rattle.m4_etext.proofs.turned.with_pairs_turned.Goals as goal

pub returns : goal.returns
returns c = pairs_at c.args.word c.ranges.word.fits
