pub mod PlacedLemmas
pub mod TurnLemmas
