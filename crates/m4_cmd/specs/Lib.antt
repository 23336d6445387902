pub mod Factors
pub mod Answer
pub mod Run
pub mod Steps
pub mod Files
