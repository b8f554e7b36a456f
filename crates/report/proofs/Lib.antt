pub mod Room
pub mod Entries
