pub mod NumberLemmas
pub mod PackedLemmas
pub mod TurnLemmas
