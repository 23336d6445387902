pub mod Entries
pub mod Multiples
pub mod NjTables
pub mod Strips
