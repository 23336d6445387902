pub mod Bits
pub mod Digits
pub mod Products
pub mod Shift
pub mod Transpose
