pub mod FieldWordLemmas
pub mod JobLemmas
mod WordsExamples
mod SharedExamples
mod FactorsExamples
mod SeedExamples
