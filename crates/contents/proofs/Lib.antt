pub mod Room
pub mod Lines
pub mod Refused
pub mod Entries
