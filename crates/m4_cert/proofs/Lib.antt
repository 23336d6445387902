pub mod CertLemmas
pub mod ZeroLemmas
