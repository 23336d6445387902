pub mod Counts
pub mod Engine
pub mod Factors
pub mod Polynomials
pub mod Reduced
pub mod Rooms
