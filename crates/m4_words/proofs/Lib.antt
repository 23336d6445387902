pub mod WordsLemmas
pub mod FieldLemmas
