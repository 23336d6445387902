pub mod RowSteps
pub mod Taken
pub mod Triangles
pub mod Windows
pub mod Quarters
pub mod Halves
pub mod Solves
pub mod WordHalves
