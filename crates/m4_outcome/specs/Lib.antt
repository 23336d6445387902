pub mod FieldWords
pub mod Words
pub mod RankLines
pub mod Seeds
pub mod Outcome
