pub mod Regular
pub mod Solved
