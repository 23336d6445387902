pub mod Factor
pub mod Fields
pub mod Inverses
