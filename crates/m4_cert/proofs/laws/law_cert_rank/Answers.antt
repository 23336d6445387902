use Rattle.std.proofs.Common.{length, subst}
use Rattle.m4_model.specs.Rank.{IsRank}
use Rattle.m4_model.proofs.FieldProofs.{field_laws}
use Rattle.m4_model.proofs.RankLemmas.{rank_of_ple}
use Rattle.m4_cert.proofs.laws.law_cert_rank.Goals as goal

pub returns : goal.returns
returns c = λ A bytes r a cert.
    let ple = cert.ple in
    subst (IsRank A) cert.rank (rank_of_ple A ple.p ple.q (length ple.q) ple.l ple.e (field_laws A.field a.over_field) a ple.factors)
