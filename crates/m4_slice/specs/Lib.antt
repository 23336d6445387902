pub mod Gathered
pub mod Sliced
