pub mod EqualLemmas
pub mod ProductLemmas
