pub mod Place
pub mod Reading
pub mod Refused
pub mod Tokens
pub mod Pending
pub mod Reader
