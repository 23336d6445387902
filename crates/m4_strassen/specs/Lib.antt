pub mod Cuts
pub mod Engine
pub mod Level
pub mod Levels
