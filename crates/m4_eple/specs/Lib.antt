pub mod Clearing
pub mod Halves
