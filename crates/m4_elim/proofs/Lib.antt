pub mod FactorsLemmas
