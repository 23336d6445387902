pub mod Cut
pub mod Multiples
pub mod Powers
pub mod Restored
pub mod Shards
pub mod Sums
pub mod Whole
