use Rattle.m4_cert.proofs.CertLemmas.{is_singular}
use Rattle.m4_cert.proofs.laws.law_cert_singular.Goals as goal

pub returns : goal.returns
returns c = is_singular
