pub mod Answers
pub mod Default
pub mod Elimination
pub mod Engine
pub mod Factors
pub mod FieldEngine
