pub mod Gf256
pub mod Roots
pub mod Points
pub mod Values
pub mod Places
pub mod PowerRows
pub mod Sources
pub mod Only
mod Examples
