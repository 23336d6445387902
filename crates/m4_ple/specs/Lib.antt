pub mod Columns
pub mod Elimination
pub mod Held
pub mod Parts
pub mod Words
