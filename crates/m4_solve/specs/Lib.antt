pub mod Answers
pub mod Context
pub mod Equations
pub mod Factored
pub mod Kernel
pub mod Reduction
pub mod Scaled
