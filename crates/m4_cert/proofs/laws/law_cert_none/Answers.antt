use Rattle.m4_cert.proofs.CertLemmas.{has_none}
use Rattle.m4_cert.proofs.laws.law_cert_none.Goals as goal

pub returns : goal.returns
returns c = has_none
