pub mod Writing
pub mod ReadingLemmas
pub mod MemoryLemmas
