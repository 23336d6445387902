pub mod Texts
pub mod Small
pub mod Told
pub mod Job
